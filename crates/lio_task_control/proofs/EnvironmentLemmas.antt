-- Bindings at places.
use Rattle.std.specs.Ordering.{nat_cmp, is_eq}
use Rattle.std.specs.Cmp.Lexicographic.{slice_cmp}
use Rattle.std.specs.declared.cmp.Ordering.{Ordering}
use Rattle.std.specs.declared.cmp.Ordering.TheVariants.{Equal}
use Rattle.std.proofs.Common.{◌≡◌, ℕ, zero, suc, ◌+◌, ◌<◌, ◌≤◌, List, [], ◌∷◌, length, drop, get_or, refl, ap, sym, ◌∙◌, arith, add-one, min}
use Rattle.std.proofs.Math.Seq.{drop-cons}
use Rattle.std.proofs.lemmas.Map.Text.{is_eq-slice_cmp}
use Rattle.std.proofs.lemmas.Slice.Eq.{bytes_eq-Decides}
use Rattle.lio_values.specs.declared.value.Value.{Value}
use Rattle.lio_syntax.specs.declared.binding.Binding.{Binding}
use Rattle.lio_syntax.specs.Environment.{Environment, bind_before, bind, bind_all}

pub drop_at : {X : Type 0} (xs : List X) (i : ℕ) (x : X) → i < length xs → x ≡ get_or xs i x → drop i xs ≡ x ∷ drop (i + 1) xs
drop_at xs i x within is = drop-cons xs i x within ∙ ap (λ y. y ∷ drop (suc i) xs) (sym is) ∙ ap (λ (n : ℕ). x ∷ drop n xs) (sym (add-one i))

pub get_or-other : {X : Type 0} (xs : List X) (i : ℕ) (d e : X) → i < length xs → get_or xs i d ≡ get_or xs i e
get_or-other [] i d e within = absurd (omega arith)
get_or-other (x ∷ xs) zero d e within = refl
get_or-other (x ∷ xs) (suc i) d e within = get_or-other xs i d e (omega arith)

-- names that compare as equal are the same
pub same_name : (xs ys : List ℕ) → slice_cmp nat_cmp xs ys ≡ Equal → xs ≡ ys
same_name xs ys e = (bytes_eq-Decides xs ys).0 (sym (is_eq-slice_cmp xs ys) ∙ ap is_eq e)

pub bind-first : (first : Binding) (rest : Environment) (name : List ℕ) (value : Value) (o : Ordering) → slice_cmp nat_cmp name first.name ≡ o
    → bind (first ∷ rest) name value ≡ bind_before o (record { name = name; value = value }) first rest (bind rest name value)
unfolding bind
bind-first first rest name value o e = ap (λ p. bind_before p (record { name = name; value = value }) first rest (bind rest name value)) e

-- names that are bound one after the other
pub bind_all-next : (environment : Environment) (names : List (List ℕ)) (values : List Value) (i : ℕ) (name : List ℕ) (value : Value) → i < length names → i < length values
    → name ≡ get_or names i name → value ≡ get_or values i value
    → bind_all environment (drop i names) (drop i values) ≡ bind_all (bind environment name value) (drop (i + 1) names) (drop (i + 1) values)
unfolding bind_all
bind_all-next environment names values i name value few enough is same =
    ap (λ ns. bind_all environment ns (drop i values)) (drop_at names i name few is) ∙ ap (λ vs. bind_all environment (name ∷ drop (i + 1) names) vs) (drop_at values i value enough same)

bind_all-none : (environment : Environment) (names : List (List ℕ)) → bind_all environment names [] ≡ environment
unfolding bind_all
bind_all-none environment [] = refl
bind_all-none environment (name ∷ names) = refl

pub bind_all-end : (environment : Environment) (names : List (List ℕ)) (values : List Value) (i : ℕ) → min (length names) (length values) ≤ i
    → bind_all environment (drop i names) (drop i values) ≡ environment
unfolding bind_all
bind_all-end environment [] values zero few = refl
bind_all-end environment [] values (suc i) few = refl
bind_all-end environment (name ∷ names) [] zero few = refl
bind_all-end environment (name ∷ names) [] (suc i) few = bind_all-none environment (drop i names)
bind_all-end environment (name ∷ names) (value ∷ values) zero few = absurd (omega arith)
bind_all-end environment (name ∷ names) (value ∷ values) (suc i) few = bind_all-end environment names values i (omega arith)
