-- How the check of a view stands to a claim.
use Rattle.std.proofs.Common.{◌≡◌, ◌∙◌, refl, ap, subst, inl, inr, ℕ, List}
use Rattle.lio_calculus.specs.Step.{Configuration}
use Rattle.lio_erasure.specs.Low.{low_configuration_of}
use Rattle.lio_erasure.specs.declared.cells.LowConfig.{LowConfig}
use Rattle.lio_syntax.specs.Statements.{Procedure}
use Rattle.lio_audit.specs.View.{IsOneViewOfTurns, SeenSays}
use Rattle.lio_audit.specs.declared.view_fault.ViewFault.TheVariants.{NotAView}
use Rattle.lio_observe_main.specs.Claim.{Agrees, Claim, IsRight, IsViewFrom, IsWrongAt, StopsFrom, seen_first}

-- the texts that were read agree with themselves
pub agrees-itself : (claim : Claim) → Agrees claim claim.job.inputs
agrees-itself claim = record { count = refl; texts = λ i input at flows. refl }

-- a configuration is what the observer sees of the first one, whatever the texts are that it doesn't see
abbrev pub IsFirst : Claim → Configuration → Type 0
IsFirst claim low = (texts : List (List ℕ)) → Agrees claim texts → low ≡ seen_first claim texts

-- a view from there
pub right-from : (claim : Claim) (low : Configuration) (count : ℕ) → IsFirst claim low → IsOneViewOfTurns claim.job.policy.names claim.observer low claim.view count → IsRight claim count
right-from claim low count first is texts agrees = subst (λ (c : Configuration). IsOneViewOfTurns claim.job.policy.names claim.observer c claim.view count) (first texts agrees) is

-- bytes that stop from there
pub wrong-from : (claim : Claim) (low : Configuration) (line : ℕ) → IsFirst claim low → SeenSays claim.job.policy.names claim.observer low claim.view (NotAView line) → IsWrongAt claim line
wrong-from claim low line first says texts agrees = subst (λ (c : Configuration). SeenSays claim.job.policy.names claim.observer c claim.view (NotAView line)) (first texts agrees) says

-- bytes that stop are no view
pub none-of : (claim : Claim) (texts : List (List ℕ)) (line count : ℕ) → StopsFrom claim texts line → IsViewFrom claim texts count → ⊥
none-of claim texts line count (inl many) is = many.1.none is.ran is.is_view
none-of claim texts line count (inr stops) is = stops.none is.ran is.is_view

-- what is seen is the same by parts that are equal
pub same-low : (script other : List Procedure) (longest most : ℕ) (low : LowConfig) → script ≡ other → longest ≡ most → low_configuration_of script longest low ≡ low_configuration_of other most low
same-low script other longest most low first second = ap (λ (s : List Procedure). low_configuration_of s longest low) first ∙ ap (λ (n : ℕ). low_configuration_of other n low) second
