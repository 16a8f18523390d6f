-- What a question is about, as the files say: a script that fits a policy, or the run that a history is to tell.
use Rattle.std.specs.Prelude.{ℕ, List, Option, None, Ok}
use Rattle.lio_outside.specs.FileMap.{FileMap}
use Rattle.lio_outside.specs.Steps.{Steps, Over, ◌>>=◌, asked}
use Rattle.lio_outside.specs.Asking.{Give}
use Rattle.lio_calculus.specs.Run.{Ran}
use Rattle.lio_policy.specs.declared.policy.Policy.{Policy}
use Rattle.lio_start.specs.Job.{JobParts, first_of}
use Rattle.lio_audit.specs.History.{IsOneHistoryOf, Says as StopsRun, most_history_bytes}
use Rattle.lio_audit.specs.declared.fault.AuditFault.TheVariants as audit_fault
use Rattle.lio_front.specs.declared.loading.Front.{Front}
use Rattle.lio_front.specs.declared.status.Status.{Status}
use Rattle.lio_front.specs.declared.status.Status.TheVariants.{Missing, NotARun, NoMemory}
use Rattle.lio_front.specs.Loading.{loading, policy_steps, texts}
use Rattle.lio_ask_main.specs.Words.{Files}
use Rattle.lio_ask_main.specs.declared.past.Past as declared

-- a policy, a script that fits it, the texts of the policy's inputs, and the bytes that are to be the history of their run
pub record Past : Type 0 where
  pub job : JobParts
  pub history : List ℕ

-- what the code's stands for
abbrev pub past_of : declared.Past → Past
past_of past = record { job = past.job; history = past.history.items }

-- the policy of a file
abbrev pub explaining : List ℕ → Steps Policy Status
explaining policy = policy_steps policy

-- the policy and the script of two files, where each task of the policy can begin in the script
abbrev pub checking : List ℕ → List ℕ → Steps Front Status
checking policy script = loading policy script None

-- the texts of a policy's inputs, and the bytes of a history, at most one more than histories may have
abbrev pub holding : Policy → List ℕ → Steps (List (List ℕ) × List ℕ) Status
holding policy history = do
  inputs ← texts policy.longest policy.inputs
  bytes ← asked (Missing history) history most_history_bytes
  Over (Ok (inputs, bytes))

-- what is taken again, or the refusal of the first step that is refused: the policy, the script, the inputs, the history
abbrev pub recalling : Files → Steps Past Status
recalling files = do
  front ← checking files.policy files.script
  held ← holding front.policy files.history
  Over (Ok (record { job = record { policy = front.policy; script = front.script; inputs = held.0 }; history = held.1 }))

-- the history is that of this one complete run
abbrev pub IsOf : Past → Ran → Type 0
IsOf past ran = IsOneHistoryOf past.job.policy.names (first_of past.job) past.history ran

-- why no run is taken again: the bytes aren't the history of one, from a line on, or memory is wanting
abbrev pub StopsThePast : Past → Status → Type 0
StopsThePast past (NotARun line) = StopsRun past.job.policy.names (first_of past.job) past.history (audit_fault.NotARun line)
StopsThePast past NoMemory = Unit {0}
StopsThePast past other = ⊥

-- The files give a history, which is that of one complete run.
pub record IsTakenAgain (told : Option FileMap) (files : Files) (ran : Ran) : Type 0 where
  pub past : Past
  pub given : Give told (recalling files) (Ok past)
  pub is_of : IsOf past ran

-- The files give bytes that aren't the history of a complete run, from a line on.
pub record IsNoRun (told : Option FileMap) (files : Files) (line : ℕ) : Type 0 where
  pub past : Past
  pub given : Give told (recalling files) (Ok past)
  pub stops : StopsThePast past (NotARun line)
