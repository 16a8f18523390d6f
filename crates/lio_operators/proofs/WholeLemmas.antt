-- A division that is checked.
use Rattle.std.proofs.Common.{◌≡◌, ℤ, Option, Result, Ok, Err, SomeIff, MatchOption, w64, arith}
use Rattle.std.proofs.lemmas.Grind.{common_steps}
use Rattle.std.proofs.lemmas.Int.{to_z-of_z}
use Rattle.std.specs.Int.{CanDivide}
use mir.Val.{to_z, of_z, SFits}
use Rattle.lio_values.specs.declared.value.Plain.{Plain}
use Rattle.lio_values.specs.declared.value.Plain.TheVariants.{Whole}
use Rattle.lio_values.specs.declared.fault.FaultKind.{FaultKind}
use Rattle.lio_values.specs.declared.fault.FaultKind.TheVariants.{Overflow}
use Rattle.lio_operators.specs.Wholes.{divided}

pub divided_is : (f : ℤ → ℤ → ℤ) (a b : ℤ) (number : Option ℤ) (result : Result Plain FaultKind)
    → MatchOption number (result ≡ Err Overflow) (λ n. result ≡ Ok (Whole n))
    → SomeIff number (CanDivide w64 (to_z w64 (of_z w64 a)) (to_z w64 (of_z w64 b))) (f (to_z w64 (of_z w64 a)) (to_z w64 (of_z w64 b)))
    → SFits w64 a → SFits w64 b → ¬ (of_z w64 b ≡ 0) → result ≡ divided a b (f a b)
divided_is f a b number result made found fits_a fits_b nonzero = grind (arith, common_steps, to_z-of_z)
