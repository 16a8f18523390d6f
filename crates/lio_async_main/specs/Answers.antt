-- What each answer of the host over futures says.
use Rattle.lio_calculus.specs.Step.{Configuration}
use Rattle.lio_start.specs.Job.{first_of}
use Rattle.lio_rounds.specs.Runs.{RunsRounds}
use Rattle.lio_host_main.specs.Answers.{Call}
use Rattle.lio_host_main.specs.Order.{Order}
use Rattle.lio_host_main.specs.Verdict.{IsVerdict}
use Rattle.lio_front.specs.declared.status.Status.{Status}
use Rattle.lio_front.specs.declared.status.Status.TheVariants.{Done, NotARun, SayFault, WriteFault}

-- The journal of a call is that of the run by rounds, to its end, of the job that the files and words of the call give.
pub record RanByRounds (call : Call) : Type 0 where
  pub order : Order
  pub verdict : IsVerdict call.before.told call.words order
  pub last : Configuration
  pub rounds : RunsRounds (first_of order.job) (record { entries = call.journal; last = last })

-- so it is of each answer after a run whose journal is given; that a history isn't one is no answer, since none is read
abbrev pub GivesRounds : Call → Status → Type 0
GivesRounds call Done = RanByRounds call
GivesRounds call (WriteFault name) = RanByRounds call
GivesRounds call SayFault = RanByRounds call
GivesRounds call (NotARun line) = ⊥
GivesRounds call other = Unit {0}
