-- What holds of each element that a loop has passed.
use Rattle.std.proofs.Common.{arith, ◌≡◌, subst, sym, ℕ, suc, ◌+◌, ◌<◌, ◌≤◌, List, length, take, get_or, All}
use Rattle.std.proofs.Math.Seq.{take-suc}
use Rattle.std.proofs.lemmas.List.{take_all}
use Rattle.std.proofs.lemmas.List.Elements.{All-push}

pub all-next : {X : Type 0} (P : X → Type 0) (xs : List X) (i : ℕ) (x : X) → i < length xs → x ≡ get_or xs i x → P x → All P (take i xs) → All P (take (i + 1) xs)
all-next P xs i x within is here before =
    let next : suc i ≡ i + 1 = omega arith in
    subst (λ n. All P (take n xs)) next (subst (All P) (sym (take-suc xs i x within)) (All-push P (take i xs) (get_or xs i x) before (subst P is here)))

pub all-passed : {X : Type 0} (P : X → Type 0) (xs : List X) (i : ℕ) → length xs ≤ i → All P (take i xs) → All P xs
all-passed P xs i over all = subst (All P) (take_all i xs over) all
