-- The answers: the exit status of each, what each says of the steps that are refused with it, and which answer a fault is.
use Rattle.std.specs.Prelude.{ℕ, Option, Result, Ok, Err}
use Rattle.lio_outside.specs.FileMap.{FileMap}
use Rattle.lio_outside.specs.Count.{Faults, FailedAt, Rose}
use Rattle.lio_outside.specs.Steps.{Steps}
use Rattle.lio_outside.specs.Asking.{Cause, IsNotThere, IsNotRead, IsWanting, IsSaid, IsNever, Refuse}
use Rattle.lio_outside.specs.Call.{Outside}
use Rattle.lio_outside.specs.declared.say.SayFault as say
use Rattle.lio_outside.specs.declared.say.SayFault.TheVariants as say_fault
use Rattle.lio_clauses.specs.declared.faults.TextFault.{TextFault}
use Rattle.lio_clauses.specs.declared.faults.TextFault.TheVariants as text_fault
use Rattle.lio_policy_draft.specs.declared.fault.PolicyFault.{PolicyFault}
use Rattle.lio_policy_draft.specs.declared.fault.PolicyFault.TheVariants as policy_fault
use Rattle.lio_syntax.specs.declared.fault.ScriptFault.{ScriptFault}
use Rattle.lio_syntax.specs.declared.fault.ScriptFault.TheVariants as script_fault
use Rattle.lio_start.specs.declared.fault.StartFault.{StartFault}
use Rattle.lio_start.specs.declared.fault.StartFault.TheVariants as start_fault
use Rattle.lio_front.specs.declared.status.Status.{Status}
use Rattle.lio_front.specs.declared.status.Status.TheVariants.{Done, BadWords, Missing, ReadFault, BadPolicy, BadScript, BadStart, WriteFault, SayFault, NoMemory, NotARun, Clash, NotAView}

-- the number with which a program ends
abbrev pub exit_status : Status → ℕ
exit_status Done = 0
exit_status BadWords = 1
exit_status (Missing name) = 2
exit_status (ReadFault name) = 3
exit_status (BadPolicy rule entry) = 4
exit_status (BadScript line rule) = 5
exit_status (BadStart place cause) = 6
exit_status (WriteFault name) = 7
exit_status SayFault = 8
exit_status NoMemory = 9
exit_status (NotARun line) = 10
exit_status (Clash name) = 11
exit_status (NotAView line) = 12

-- what has to hold for each answer of the steps that read what a program is over; the other answers never come of them
abbrev pub cause_of : Status → Cause
cause_of BadWords = IsSaid
cause_of (Missing name) = IsNotThere name
cause_of (ReadFault name) = IsNotRead name
cause_of (BadPolicy rule entry) = IsSaid
cause_of (BadScript line rule) = IsSaid
cause_of (BadStart place cause) = IsSaid
cause_of NoMemory = IsWanting
cause_of other = IsNever

-- why steps are refused, by what has to hold for the answer
abbrev pub Says : {A : Type 0} → Option FileMap → Steps A Status → Faults → Faults → Status → Type 0
Says told steps before after status = Refuse (cause_of status) told steps before after status

-- an answer of a file, for which the last call of the store that failed was made, or of the output that failed, whose count of faults rose
abbrev pub Failed : Outside → Outside → Status → Type 0
Failed before after (ReadFault name) = FailedAt name before.faults after.faults
Failed before after (WriteFault name) = FailedAt name before.faults after.faults
Failed before after SayFault = Rose before.say_faults after.say_faults
Failed before after other = ⊥

-- the answer of a call whose verdict is this
abbrev pub answer_of : {A : Type 0} → Result A Status → Status
answer_of (Ok given) = Done
answer_of (Err status) = status

-- the answer where a label isn't read
abbrev pub of_label : TextFault → Status
of_label (text_fault.BadText place) = BadWords
of_label (text_fault.Unknown place) = BadWords
of_label text_fault.Wide = BadWords
of_label text_fault.NoMemory = NoMemory

-- the answer where a policy isn't read
abbrev pub of_policy : PolicyFault → Status
of_policy (policy_fault.Bad rule entry) = BadPolicy rule entry
of_policy policy_fault.NoMemory = NoMemory

-- the answer where a script isn't read
abbrev pub of_script : ScriptFault → Status
of_script (script_fault.Bad line rule) = BadScript line rule
of_script script_fault.NoMemory = NoMemory

-- the answer where a task can't begin
abbrev pub of_start : StartFault → Status
of_start (start_fault.NoProc place) = BadStart place (start_fault.NoProc place)
of_start (start_fault.Arity place) = BadStart place (start_fault.Arity place)

-- the answer where nothing could be said
abbrev pub of_say : say.SayFault → Status
of_say say_fault.Failed = SayFault
of_say say_fault.NoMemory = NoMemory
