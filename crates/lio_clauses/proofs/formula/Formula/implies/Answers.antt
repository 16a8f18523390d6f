use Rattle.std.proofs.Common.{◌≡◌, ℕ, ◌^◌, ◌<◌, Bool, true, false, ◌&&◌, ◌||◌, inl, inr, List, [], ◌∷◌, map, refl, sym, ◌∙◌, ap, subst, IsTrue}
use Rattle.std.specs.Prelude.{◌==◌, bit_and}
use Rattle.lio_clauses.specs.declared.formula.Clauses.{Clauses}
use Rattle.lio_clauses.specs.declared.formula.Clauses.TheVariants.{One}
use Rattle.lio_clauses.specs.Principals.{principals}
use Rattle.lio_clauses.specs.Implication.{Implies, implies}
use Rattle.lio_clauses.specs.Clauses.{KeepsFormula, masks_of}
use Rattle.lio_clauses.proofs.Members.{All-In}
use Rattle.lio_clauses.proofs.Algebra.{truth_is_greatest, implication_is_tested}
use Rattle.lio_clauses.proofs.ClauseBits.{covers-implies}
use Rattle.lio_clauses.proofs.formula.Formula.implies.Goals as goal

fits : (k : Clauses) → KeepsFormula k → (n : ℕ) → k ≡ One n → (m : ℕ) → (m ≡ n) → m < 2 ^ 64
fits k h n e m s =
    let P : Clauses → Type 0 = λ v. KeepsFormula v in
    let F : ℕ → Type 0 = λ v. v < 2 ^ 64 in
    subst F (sym s) (All-In (λ v. v < 2 ^ 64) (n ∷ []) (subst P e h).formula.fits n (inl refl))

-- one clause implies another exactly where it lies in it
one : (k l : Clauses) → KeepsFormula k → KeepsFormula l → (a b : ℕ) → k ≡ One a → l ≡ One b
    → (bit_and a b == a) ≡ implies (map principals (masks_of k)) (map principals (masks_of l))
one k l h g a b e f =
    alone (bit_and a b == a)
    ∙ covers-implies (a ∷ []) (b ∷ []) (λ m i. elim i [ inl s ↦ fits k h a e m s | inr z ↦ absurd z ]) (λ m i. elim i [ inl s ↦ fits l g b f m s | inr z ↦ absurd z ])
    ∙ ap (λ v. implies (map principals (masks_of v)) (map principals (b ∷ []))) (sym e)
    ∙ ap (λ v. implies (map principals (masks_of k)) (map principals (masks_of v))) (sym f)
  where
    alone : (t : Bool) → t ≡ ((t || false) && true)
    alone true = refl
    alone false = refl

-- what computes the test tells implication
tells : (r : Bool) (A B : List (List ℕ)) → r ≡ implies A B → (IsTrue r → Implies A B) × (Implies A B → IsTrue r)
tells r A B e = (λ t. (implication_is_tested A B).0 (sym e ∙ t), λ h. e ∙ (implication_is_tested A B).1 h)

pub returns-in_default-Truth-clause-test : goal.returns-in_default-Truth-clause-test
returns-in_default-Truth-clause-test c =
    sym (truth_is_greatest c.args.self.now) ∙ ap (λ v. implies c.args.self.now (map principals (masks_of v))) (sym c.in_default-Truth.is-1)
    ∙ ap (implies c.args.self.now) c.other.view_is

pub returns-in-One-One-clause-test : goal.returns-in-One-One-clause-test
returns-in-One-One-clause-test c =
    one c.self.inside.kept c.other.inside.kept c.self.invariant c.other.invariant c.in-One-One.clause c.in-One-One.implied c.in-One-One.is-0 c.in-One-One.is-1
    ∙ ap (λ v. implies v (map principals (masks_of c.other.inside.kept))) c.self.view_is ∙ ap (implies c.args.self.now) c.other.view_is

pub returns-in-One-One-clause-all_sets : goal.returns-in-One-One-clause-all_sets
returns-in-One-One-clause-all_sets c =
    tells (bit_and c.in-One-One.clause c.in-One-One.implied == c.in-One-One.clause) c.args.self.now c.args.other.now (returns-in-One-One-clause-test c)

pub returns-in_default-clause-all_sets : goal.returns-in_default-clause-all_sets
returns-in_default-clause-all_sets c = tells c.implies_each.result c.args.self.now c.args.other.now c.implies_each.ensures
