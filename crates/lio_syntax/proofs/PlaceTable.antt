-- The table of places: what is made line by line, and what is read in it.
use Rattle.std.specs.Prelude.{slice_get, Option, Some, None, MatchOption, IfSome, is_some, nat_lt}
use Rattle.std.specs.Borrow.{Bor}
use Rattle.std.proofs.Math.Nat.{eq-or-lt_of_le}
use Rattle.std.proofs.Common.{◌≡◌, ◌⊎◌, inl, inr, ℕ, zero, suc, ◌+◌, ◌<◌, ◌≤◌, List, [], ◌∷◌, ◌++◌, length, get_or, refl, ap, sym, ◌∙◌, add-one, arith}
use Rattle.std.proofs.lemmas.List.{length-append}
use Rattle.std.proofs.Math.ListN.{get_or-append}
use Rattle.std.proofs.Math.Seq.{get_or-append_seam}
use Rattle.std.proofs.lemmas.Option.{slice_get_read}
use Rattle.std.proofs.lemmas.Bool.Decides.{nat_tests}
use Rattle.lio_syntax_lines.specs.declared.line.Line.{Line}
use Rattle.lio_syntax.specs.Places.{Place, blocks_by, blocks_behind, blocks_at, place_by, place_or, place_at, places_to}

-- one line more
pub blocks_next : (lines : List Line) (at : ℕ) (l : Line) (blocks new : List Place) → at < length lines → l ≡ get_or lines at l → blocks ≡ blocks_at lines at
    → new ≡ blocks_by l lines at blocks → new ≡ blocks_at lines (at + 1)
unfolding blocks_at
blocks_next lines at l blocks new within is so_far step =
    let here : slice_get lines at ≡ Some l = slice_get_read lines (length lines) at l refl within is in
    step ∙ ap (blocks_by l lines at) so_far ∙ ap (λ (o : Option Line). blocks_behind o lines at (blocks_at lines at)) (sym here) ∙ ap (blocks_at lines) (sym (add-one at))

pub places_next : (lines : List Line) (at : ℕ) (l : Line) (blocks : List Place) (place : Place) (table new : List Place) → at < length lines → l ≡ get_or lines at l → blocks ≡ blocks_at lines at
    → place ≡ place_by l lines at blocks → table ≡ places_to lines at → new ≡ table ++ place ∷ [] → new ≡ places_to lines (at + 1)
unfolding places_to place_at
places_next lines at l blocks place table new within is so_far step made more =
    let here : slice_get lines at ≡ Some l = slice_get_read lines (length lines) at l refl within is in
    let row : place ≡ place_or (slice_get lines at) lines at (blocks_at lines at) = step ∙ ap (place_by l lines at) so_far ∙ ap (λ (o : Option Line). place_or o lines at (blocks_at lines at)) (sym here) in
    more ∙ ap (λ (t : List Place). t ++ place ∷ []) made ∙ ap (λ (p : Place). places_to lines at ++ p ∷ []) row ∙ ap (places_to lines) (sym (add-one at))

length-places_to : (lines : List Line) (n : ℕ) → length (places_to lines n) ≡ n
unfolding places_to
length-places_to lines zero = refl
length-places_to lines (suc n) = omega (arith, length-append (places_to lines n) (place_at lines n ∷ []), length-places_to lines n)

get-last : (places : List Place) (place d : Place) (at : ℕ) → at ≡ length places → get_or (places ++ place ∷ []) at d ≡ place
get-last places place d at is = ap (λ (n : ℕ). get_or (places ++ place ∷ []) n d) is ∙ get_or-append_seam places place [] d

get-places_to : (lines : List Line) (n at : ℕ) (d : Place) → at < n → get_or (places_to lines n) at d ≡ place_at lines at
unfolding places_to
get-places_to lines zero at d within = absurd (omega (arith, within))
get-places_to lines (suc n) at d within = by (eq-or-lt_of_le (omega (arith, within))) (λ less. get-places_to lines n at d less)
  where
    by : (at ≡ n) ⊎ (at < n) → (at < n → get_or (places_to lines n) at d ≡ place_at lines at) → get_or (places_to lines n ++ place_at lines n ∷ []) at d ≡ place_at lines at
    by (inl is) before = get-last (places_to lines n) (place_at lines n) d at (is ∙ sym (length-places_to lines n)) ∙ ap (place_at lines) (sym is)
    by (inr less) before = get_or-append (places_to lines n) (place_at lines n ∷ []) d at (omega (arith, length-places_to lines n, less)) ∙ before less

-- the place in the table of a script
pub place_in_table : (lines : List Line) (table : List Place) (at : ℕ) (found : Option (Bor Place)) → table ≡ places_to lines (length lines)
    → is_some found ≡ nat_lt at (length table) → IfSome found (λ place. place.now ≡ get_or table at place.now)
    → MatchOption found (length lines ≤ at) (λ place. place.now ≡ place_at lines at)
place_in_table lines table at None is looked read = grind (arith, nat_tests, ap length is, length-places_to lines (length lines), looked)
place_in_table lines table at (Some p) is looked read =
    let within : at < length lines = grind (arith, nat_tests, ap length is, length-places_to lines (length lines), looked) in
    read ∙ ap (λ (t : List Place). get_or t at p.now) is ∙ get-places_to lines (length lines) at p.now within
