-- The test of lists of values for equality: their codes are the same.
use Rattle.std.specs.Prelude.{◌≡◌, Bool, true, false, ◌&&◌, nat_eq, refl}
use Rattle.std.proofs.Common.{ap, subst, sym}
use Rattle.std.specs.Cmp.{first_so, second_so, unsigned_Decides, decided, IsEquivalence}
use mathlib.Core.Bool.{true≢false}
use base.Stored.{Gv, gnil, gnum, gcons}
use Rattle.lio_values.specs.Forest.{Forest}
use Rattle.lio_values.specs.ForestCode.{forest_code}

abbrev same_code : Gv → Gv → Bool
same_code gnil gnil = true
same_code (gnum m) (gnum n) = nat_eq m n
same_code (gcons a b) (gcons c d) = same_code a c && same_code b d
same_code gnil (gnum n) = false
same_code gnil (gcons c d) = false
same_code (gnum m) gnil = false
same_code (gnum m) (gcons c d) = false
same_code (gcons a b) gnil = false
same_code (gcons a b) (gnum n) = false

code_is_one : (a b : Gv) → same_code a b ≡ true → a ≡ b
code_is_one gnil gnil e = refl
code_is_one (gnum m) (gnum n) e = ap gnum ((unsigned_Decides m n).0 e)
code_is_one (gcons a b) (gcons c d) e = λ i. gcons (code_is_one a c (first_so (same_code a c) (same_code b d) e) i) (code_is_one b d (second_so (same_code a c) (same_code b d) e) i)
code_is_one gnil (gnum n) e = absurd (true≢false (sym e))
code_is_one gnil (gcons c d) e = absurd (true≢false (sym e))
code_is_one (gnum m) gnil e = absurd (true≢false (sym e))
code_is_one (gnum m) (gcons c d) e = absurd (true≢false (sym e))
code_is_one (gcons a b) gnil e = absurd (true≢false (sym e))
code_is_one (gcons a b) (gnum n) e = absurd (true≢false (sym e))

code_is_same : (a : Gv) → same_code a a ≡ true
code_is_same gnil = refl
code_is_same (gnum n) = (unsigned_Decides n n).1 refl
code_is_same (gcons a b) = λ i. code_is_same a i && code_is_same b i

-- whether two lists are the same
unfoldable pub same_forest : Forest → Forest → Bool
same_forest one other = same_code (forest_code.code one) (forest_code.code other)

pub same_forest-is : (one other : Forest) → same_forest one other ≡ true → one ≡ other
unfolding same_forest
same_forest-is one other e = forest_code.inj one other (code_is_one _ _ e)

pub same_forest-itself : (one : Forest) → same_forest one one ≡ true
unfolding same_forest
same_forest-itself one = code_is_same (forest_code.code one)

pub same_forests : IsEquivalence same_forest
same_forests = decided same_forest (λ x y. (same_forest-is x y, λ e. subst (λ z. same_forest x z ≡ true) e (same_forest-itself x)))
