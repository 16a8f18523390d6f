-- Items one behind the other.
use Rattle.std.proofs.Common.{◌≡◌, ◌∙◌, sym, ap, ℕ, ◌+◌, ◌<◌, arith, List, [], ◌∷◌, ◌++◌, length, get_or, take, append_assoc, append-nil, add-one}
use Rattle.std.proofs.Math.Seq.{take-suc}
use Rattle.std.proofs.lemmas.List.{length-take-le}
use Rattle.lio_ask_main.specs.Explained.{items_from}

items-append : {X : Type 0} → (item : ℕ → X → List ℕ) (n : ℕ) (xs ys : List X) → items_from item n (xs ++ ys) ≡ items_from item n xs ++ items_from item (n + length xs) ys
items-append item n [] ys = ap (λ (m : ℕ). items_from item m ys) (omega arith)
items-append item n (x ∷ xs) ys =
    ap (λ (rest : List ℕ). item n x ++ rest) (items-append item (n + 1) xs ys ∙ ap (λ (m : ℕ). items_from item (n + 1) xs ++ items_from item m ys) (omega arith))
    ∙ sym (append_assoc (item n x) (items_from item (n + 1) xs) (items_from item (n + length (x ∷ xs)) ys))

take-next : {X : Type 0} → (xs : List X) (i : ℕ) (x : X) → i < length xs → x ≡ get_or xs i x → take (i + 1) xs ≡ take i xs ++ x ∷ []
take-next {X} xs i x below is = ap (λ (n : ℕ). take n xs) (add-one i) ∙ take-suc xs i x below ∙ ap (λ (e : X). take i xs ++ e ∷ []) (sym is)

-- one item more
pub items-push : {X : Type 0} → (item : ℕ → X → List ℕ) (xs : List X) (i : ℕ) (x : X) (begun before now : List ℕ) → i < length xs → x ≡ get_or xs i x → before ≡ begun ++ items_from item 0 (take i xs)
    → now ≡ before ++ item i x → now ≡ begun ++ items_from item 0 (take (i + 1) xs)
items-push item xs i x begun before now below is so_far more =
    let place : 0 + length (take i xs) ≡ i = omega (arith, length-take-le i xs (omega (arith, below))) in
    let sofar : List ℕ = items_from item 0 (take i xs) in
    more ∙ ap (λ (b : List ℕ). b ++ item i x) so_far ∙ append_assoc begun sofar (item i x)
    ∙ ap (λ (b : List ℕ). begun ++ b)
    (sym (ap (items_from item 0) (take-next xs i x below is) ∙ items-append item 0 (take i xs) (x ∷ []) ∙ ap (λ (m : ℕ). sofar ++ items_from item m (x ∷ [])) place ∙ ap (λ (rest : List ℕ). sofar ++ rest) (append-nil (item i x))))
