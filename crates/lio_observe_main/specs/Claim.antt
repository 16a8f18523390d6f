-- What an observer checks: bytes that are claimed to be what it sees of a run.
use Rattle.std.specs.Prelude.{ℕ, List}
use Rattle.lio_labels.specs.declared.label.Label.{Label}
use Rattle.lio_calculus.specs.Erased.{erase}
use Rattle.lio_calculus.specs.Step.{Configuration}
use Rattle.lio_start.specs.Job.{JobParts}
use Rattle.lio_start.specs.Laws.{AreAlike}
use Rattle.lio_start.specs.Start.{start_of}
use Rattle.lio_audit.specs.View.{IsOneViewOfTurns, SeenSays}
use Rattle.lio_audit.specs.declared.view_fault.ViewFault.TheVariants as view_fault
use Rattle.lio_observe_main.specs.declared.claim.Claim as declared

-- a policy, a script, the texts of the inputs that an observer sees, its label, and the bytes that are to be its view
pub record Claim : Type 0 where
  pub job : JobParts
  pub observer : Label
  pub view : List ℕ

-- the claim that the code's stands for
abbrev pub claim_of : declared.Claim → Claim
claim_of claim = record { job = claim.job; observer = claim.observer; view = claim.view.items }

-- a list of texts agrees with what the observer read: the others may be any
abbrev pub Agrees : Claim → List (List ℕ) → Type 0
Agrees claim texts = AreAlike claim.observer claim.job.policy.inputs claim.job.inputs texts

-- what the observer sees of the first configuration over these texts
abbrev pub seen_first : Claim → List (List ℕ) → Configuration
seen_first claim texts = erase claim.observer (start_of claim.job.policy claim.job.script texts)

-- the bytes are the view of one complete run of so many turns from there
abbrev pub IsViewFrom : Claim → List (List ℕ) → ℕ → Type 0
IsViewFrom claim texts count = IsOneViewOfTurns claim.job.policy.names claim.observer (seen_first claim texts) claim.view count

-- from there the bytes stop being a view at this one line, or are too many, and are the view of no run
abbrev pub StopsFrom : Claim → List (List ℕ) → ℕ → Type 0
StopsFrom claim texts line = SeenSays claim.job.policy.names claim.observer (seen_first claim texts) claim.view (view_fault.NotAView line)

-- a claim is right, whatever the texts are that the observer doesn't see
abbrev pub IsRight : Claim → ℕ → Type 0
IsRight claim count = (texts : List (List ℕ)) → Agrees claim texts → IsViewFrom claim texts count

-- a claim is wrong at a line, whatever these texts are
abbrev pub IsWrongAt : Claim → ℕ → Type 0
IsWrongAt claim line = (texts : List (List ℕ)) → Agrees claim texts → StopsFrom claim texts line
