-- The view of a journal that is looked at from a place on, and goes on.
use Rattle.std.proofs.Common.{◌≡◌, ◌<◌, ◌≤◌, ◌∙◌, refl, sym, ap, arith, ℕ, suc, ◌+◌, Bool, true, false, List, [], ◌∷◌, ◌++◌, length, get_or, drop, drop-cons, add-one}
use Rattle.std.proofs.lemmas.List.{drop-append-le}
use Rattle.lio_labels.specs.declared.label.Label.{Label}
use Rattle.lio_labels.specs.Flow.{flows}
use Rattle.lio_values.specs.declared.entry.Entry.{Entry}
use Rattle.lio_values.specs.Erasure.{erase_entry}
use Rattle.lio_events.specs.Views.{view}
use Rattle.lio_events.proofs.ViewLemmas.{view-none, view-seen, view-unseen}

-- the view of two parts of a journal
pub view-append : (observer : Label) (ticket : ℕ) (xs ys : List Entry) → view observer ticket (xs ++ ys) ≡ view observer ticket xs ++ view observer (ticket + length (view observer ticket xs)) ys
view-append observer ticket [] ys =
    let zero : ticket ≡ ticket + 0 = omega arith in
    ap (λ (n : ℕ). view observer n ys) zero ∙ ap (λ (es : List Entry). es ++ view observer (ticket + length es) ys) (sym (view-none observer ticket))
view-append observer ticket (x ∷ xs) ys = by (λ n. view-append observer n xs ys) (flows x.at observer) refl
  where
    by : ((n : ℕ) → view observer n (xs ++ ys) ≡ view observer n xs ++ view observer (n + length (view observer n xs)) ys) → (seen : Bool) → flows x.at observer ≡ seen → view observer ticket (x ∷ xs ++ ys) ≡ view observer ticket (x ∷ xs) ++ view observer (ticket + length (view observer ticket (x ∷ xs))) ys
    by later true seen =
        let first : Entry = erase_entry observer (record x { ticket = ticket }) in
        let rest : List Entry = view observer (ticket + 1) xs in
        let same : ticket + 1 + length rest ≡ ticket + suc (length rest) = omega arith in
        view-seen observer ticket x (xs ++ ys) seen
        ∙ ap (λ (es : List Entry). first ∷ es) (later (ticket + 1))
        ∙ ap (λ (n : ℕ). first ∷ rest ++ view observer n ys) same
        ∙ ap (λ (es : List Entry). es ++ view observer (ticket + length es) ys) (sym (view-seen observer ticket x xs seen))
    by later false seen =
        view-unseen observer ticket x (xs ++ ys) seen
        ∙ later ticket
        ∙ ap (λ (es : List Entry). es ++ view observer (ticket + length es) ys) (sym (view-unseen observer ticket x xs seen))

-- the same from a place of the first part on
pub view-from : (observer : Label) (ticket next : ℕ) (xs ys : List Entry) → next ≤ length xs
    → view observer ticket (drop next (xs ++ ys)) ≡ view observer ticket (drop next xs) ++ view observer (ticket + length (view observer ticket (drop next xs))) ys
view-from observer ticket next xs ys within = ap (λ (es : List Entry). view observer ticket es) (drop-append-le next xs ys within) ∙ view-append observer ticket (drop next xs) ys

-- an entry that isn't seen is passed over
pub unseen-past : (observer : Label) (ticket place : ℕ) (entries : List Entry) (entry : Entry) → place < length entries → entry ≡ get_or entries place entry → flows entry.at observer ≡ false
    → view observer ticket (drop (place + 1) entries) ≡ view observer ticket (drop place entries)
unseen-past observer ticket place entries entry below is unseen =
    let rest : List Entry = drop (place + 1) entries in
    let here : drop place entries ≡ entry ∷ rest =
    drop-cons entries place entry below ∙ ap (λ (e : Entry). e ∷ drop (suc place) entries) (sym is) ∙ ap (λ (n : ℕ). entry ∷ drop n entries) (sym (add-one place)) in
    sym (ap (λ (es : List Entry). view observer ticket es) here ∙ view-unseen observer ticket entry rest unseen)
