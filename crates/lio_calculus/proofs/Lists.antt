-- On lists of which each element has a property.
use Rattle.std.proofs.Common.{◌≡◌, subst, ℕ, zero, suc, List, [], ◌∷◌, All, Some}
use Rattle.std.specs.Prelude.{slice_get}
use Rattle.std.proofs.lemmas.List.Elements.{All-head, All-tail}

-- the one at a place has it
pub All-slice_get : {X : Type 0} (P : X → Type 0) (xs : List X) (n : ℕ) (x : X) → All P xs → slice_get xs n ≡ Some x → P x
All-slice_get P [] n x all e = absurd (cc)
All-slice_get P (y ∷ xs) zero x all e = let is : y ≡ x = cc in subst P is (All-head P y xs all)
All-slice_get P (y ∷ xs) (suc n) x all e = All-slice_get P xs n x (All-tail P y xs all) e
