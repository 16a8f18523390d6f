-- What is promised of a run.
use Rattle.std.specs.Prelude.{ℕ, All}
use Rattle.lio_labels.specs.declared.label.Label.{Label}
use Rattle.lio_events.specs.Printable.{IsPrintable}
use Rattle.lio_calculus.specs.Enabled.{EnabledBelow}
use Rattle.lio_calculus.specs.Laws.{RunSeenAs}
use Rattle.lio_calculus.specs.Run.{Ran}
use Rattle.lio_start.specs.Job.{JobParts, first_of}
use Rattle.lio_policy.specs.Powers.{powers_of}
use Rattle.lio_calculus_runs.specs.PowerLaws.{ReleasesByPowers}
use Rattle.lio_rounds.specs.Runs.{IsCompleteRun, SeesChannels}

-- What each run of a job keeps to, whether it is complete or not.
pub record KeepsToPolicy (job : JobParts) (ran : Ran) : Type 0 where
  -- For every observer, the events that it sees of the run and what it sees of the last configuration are what the erased
  -- calculus gives from what it sees of the first one, over the tasks that took the turns that it sees, in their order,
  -- and the contents that recorded privileges released to it.
  pub seen : (observer : Label) → RunSeenAs observer (first_of job) ran
  -- who of the tasks that it sees can go on after the run is decided by what it sees
  pub enabled : (observer : Label) (k : ℕ) → EnabledBelow observer ran.last k
  -- what is sent to a channel whose label flows to the observer's stands in its view
  pub channels : (observer : Label) → SeesChannels observer job.policy ran.entries
  -- each release is by a privilege that the policy gives a task
  pub powers : ReleasesByPowers (powers_of job.policy) ran
  -- each principal that an entry names is one of the policy's
  pub printable : All (IsPrintable job.policy.names) ran.entries

-- A run is a complete run of a job, and keeps to its policy.
pub record IsRunOf (job : JobParts) (ran : Ran) : Type 0 where
  pub is_run : IsCompleteRun (first_of job) ran
  pub keeps : KeepsToPolicy job ran
