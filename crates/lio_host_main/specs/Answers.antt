-- What each answer of the host says.
use Rattle.std.specs.Prelude.{◌≡◌, ◌<◌, ◌≤◌, ℕ, List, [], length, Ok, Some, None, IfSome, ◌⊎◌}
use Rattle.lio_values.specs.declared.entry.Entry.{Entry}
use Rattle.lio_outside.specs.FileMap.{FileMap}
use Rattle.lio_outside.specs.Call.{Outside}
use Rattle.lio_outside.specs.Count.{FailedAt, Rose}
use Rattle.lio_outside.specs.Said.{said_with, SaidPartly}
use Rattle.lio_outside.specs.Outputs.{kept, KeepsFirst, StopsAt}
use Rattle.lio_front.specs.Laws.{HoldsEachFile}
use Rattle.lio_front.specs.Summary.{summary_text}
use Rattle.lio_calculus.specs.Run.{Ran}
use Rattle.lio_calculus.specs.Step.{Configuration}
use Rattle.lio_start.specs.Job.{JobParts, first_of}
use Rattle.lio_rounds.specs.FlowLaws.{GoesByFlows, ReleasesNothingTo}
use Rattle.lio_rounds.specs.Headline.{IsRunOf}
use Rattle.lio_rounds.specs.Runs.{IsByRounds, IsMergeOfLogs}
use Rattle.lio_front.specs.Command.{Command, command_of}
use Rattle.lio_front.specs.declared.status.Status.{Status}
use Rattle.lio_front.specs.declared.status.Status.TheVariants.{Done, BadWords, Missing, ReadFault, BadPolicy, BadScript, BadStart, WriteFault, SayFault, NoMemory, NotARun, Clash}
use Rattle.lio_front.specs.Status.{Failed, answer_of, exit_status}
use Rattle.lio_audit.specs.Expected.{CouldNotGoOn}
use Rattle.lio_audit.specs.History.{IsHistoryOf, Says as StopsRun, most_history_bytes}
use Rattle.lio_audit.specs.declared.fault.AuditFault.TheVariants as audit_fault
use Rattle.lio_host_main.specs.Order.{Order, Way, InRounds, ByWorkers, AsTold, seen_by, view_file, written}
use Rattle.lio_host_main.specs.Verdict.{IsRefusedBy, IsVerdict, verdict}
use Rattle.lio_host_main.specs.Observed.{IsRerunByEach, IsSeenByEach}

-- a call of the host: its words, the outside before and after it, and the journal of the answer
pub record Call : Type 0 where
  pub words : List (List ℕ)
  pub before : Outside
  pub after : Outside
  pub journal : List Entry

-- nothing was run, no file was written, and nothing was said
pub record NothingDone (call : Call) : Type 0 where
  pub files : call.after.told ≡ call.before.told
  pub said : call.after.said ≡ call.before.said
  pub journal : call.journal ≡ []

-- the call was refused by the steps of its command, and nothing was done
pub record Refused (call : Call) (status : Status) : Type 0 where
  pub command : Command
  pub words : command_of call.words ≡ Some command
  pub refuse : IsRefusedBy command call.before.told call.before.faults call.after.faults status
  pub nothing : NothingDone call

-- BadWords: the words give no command; or the observer's label is none over the policy's principals, and that is the verdict
abbrev pub SaysBadWords : Call → Type 0
SaysBadWords call = ((command_of call.words ≡ None) × NothingDone call) ⊎ Refused call BadWords

-- how a run was made: in rounds; in the order in which workers came to take turns, which is theirs, so that its journal is the merge of the logs of all nodes; or as the bytes of a history tell, which are that of the run
abbrev pub RanBy : Way → Order → Ran → Type 0
RanBy InRounds order ran = IsByRounds (first_of order.job) ran
RanBy (ByWorkers count) order ran = IsMergeOfLogs (first_of order.job) ran
RanBy (AsTold bytes) order ran = IsHistoryOf order.job.policy.names (first_of order.job) bytes ran

abbrev pub RanAs : Order → Ran → Type 0
RanAs order ran = RanBy order.way order ran

-- what a run leaves in the channels, whatever the script is: in rounds no input that never flows to a channel by the policy changes a byte of it; of another order of turns this isn't said
abbrev pub FlowsBy : Way → JobParts → Ran → Type 0
FlowsBy InRounds job ran = GoesByFlows job ran
FlowsBy (ByWorkers count) job ran = Unit {0}
FlowsBy (AsTold bytes) job ran = Unit {0}

abbrev pub FlowsAs : Order → Ran → Type 0
FlowsAs order ran = FlowsBy order.way order.job ran

-- the journal is a complete run of what the verdict says, of which each observer sees what the erased calculus gives; how it was made; what each observer can check and compute of it by what it holds; what may have come to each channel; and, in every order of turns, that nothing was released to one from above what may flow there
pub record RunsOrder (call : Call) (order : Order) (ran : Ran) : Type 0 where
  pub verdict : IsVerdict call.before.told call.words order
  pub is_run : IsRunOf order.job ran
  pub ran_as : RanAs order ran
  pub seen : IsSeenByEach order.job.policy.names (first_of order.job) ran
  pub rerun : IsRerunByEach order.way (first_of order.job) ran
  pub flows : FlowsAs order ran
  pub releases : ReleasesNothingTo order.job.policy ran

-- bytes aren't the history of a complete run from a configuration, from a line on: they are that of no run, and stop at no other line
abbrev pub StopsAtLine : List (List ℕ) → Configuration → List ℕ → ℕ → Type 0
StopsAtLine names first bytes line = StopsRun names first bytes (audit_fault.NotARun line)

-- no line with this number, from 1, could stand in bytes, or a history may not have as many
abbrev pub HasNoLine : List (List ℕ) → Configuration → List ℕ → ℕ → Type 0
HasNoLine names first bytes line = (line ≡ 0) ⊎ ((most_history_bytes < length bytes) ⊎ CouldNotGoOn names first bytes line)

-- the bytes that a run was to follow aren't the history of one, from a line on
abbrev pub StopsBy : Way → Order → ℕ → Type 0
StopsBy (AsTold bytes) order line = StopsAtLine order.job.policy.names (first_of order.job) bytes line
StopsBy other order line = ⊥

-- why no run was made of an order: its history isn't that of one, or memory was wanting
abbrev pub StopsTheRun : Order → Status → Type 0
StopsTheRun order (NotARun line) = StopsBy order.way order line
StopsTheRun order NoMemory = Unit {0}
StopsTheRun order other = ⊥

-- NotARun: the verdict is to run as the bytes of a history tell, and they aren't that of a complete run, from the line on; nothing was done
pub record SaysNotARun (call : Call) (line : ℕ) : Type 0 where
  pub order : Order
  pub verdict : IsVerdict call.before.told call.words order
  pub stops : StopsBy order.way order line
  pub nothing : NothingDone call

-- the summary of a run
abbrev pub summary_of : Order → Ran → List ℕ
summary_of order ran = summary_text order.job.policy ran.last ran.entries

-- What is written and said of a run. Done: all files are whole, and the summary was said. WriteFault: the files before the named one are whole, that one is as before or holds a first part of its bytes, all
-- others are as before, the last call of the store that failed is that for it, and nothing was said. SayFault: all files are whole, a first part of the summary was said, and the count of the output's faults rose. NoMemory: a first part of the
-- files is whole, none or all of them included, all others are as before, and nothing was said.
abbrev pub Finishes : Order → Ran → Outside → Outside → Status → Type 0
Finishes order ran before after Done = (after.told ≡ kept before.told (written order ran.entries)) × (after.said ≡ said_with before.said (summary_of order ran))
Finishes order ran before after (WriteFault name) = StopsAt before.told after.told (written order ran.entries) name × FailedAt name before.faults after.faults × (after.said ≡ before.said)
Finishes order ran before after SayFault = (after.told ≡ kept before.told (written order ran.entries)) × SaidPartly before.said after.said (summary_of order ran) × Rose before.say_faults after.say_faults
Finishes order ran before after NoMemory = KeepsFirst before.told after.told (written order ran.entries) × (after.said ≡ before.said)
Finishes order ran before after other = ⊥

-- a run was made, and its files and its summary were dealt with so
pub record Ends (call : Call) (journal : List Entry) (status : Status) : Type 0 where
  pub order : Order
  pub last : Configuration
  pub ran : RunsOrder call order (record { entries = journal; last = last })
  pub finishes : Finishes order (record { entries = journal; last = last }) call.before call.after status

-- the journal that comes with an answer after a run: none where memory was wanting
abbrev pub journal_with : Status → List Entry → List Entry
journal_with NoMemory journal = []
journal_with other journal = journal

-- Done: a run was made, its files are kept, and its summary was said; so each channel's file holds exactly that channel's sends, the history's file the journal, the view's file what its observer sees, and every
-- other file is as before
pub record SaysDone (call : Call) : Type 0 where
  pub ends : Ends call call.journal Done
  pub files : (before now : FileMap) → call.before.told ≡ Some before → call.after.told ≡ Some now
      → HoldsEachFile ends.order.job.policy call.journal ends.order.command.history (view_file ends.order.command) (seen_by ends.order.observer call.journal) before now

-- NoMemory: the words give a command, and nothing was done, or a run was made
pub record SaysNoMemory (call : Call) : Type 0 where
  pub command : Command
  pub words : command_of call.words ≡ Some command
  pub done : NothingDone call ⊎ ((journal : List Entry) × Ends call journal NoMemory)
  pub journal : call.journal ≡ []

-- what each answer says of the call that gave it; other answers aren't given
abbrev pub Says : Call → Status → Type 0
Says call Done = SaysDone call
Says call BadWords = SaysBadWords call
Says call (Missing name) = Refused call (Missing name)
Says call (ReadFault name) = Refused call (ReadFault name)
Says call (BadPolicy rule entry) = Refused call (BadPolicy rule entry)
Says call (BadScript line rule) = Refused call (BadScript line rule)
Says call (BadStart place cause) = Refused call (BadStart place cause)
Says call (WriteFault name) = Ends call call.journal (WriteFault name)
Says call SayFault = Ends call call.journal SayFault
Says call NoMemory = SaysNoMemory call
Says call (NotARun line) = SaysNotARun call line
Says call (Clash name) = Refused call (Clash name)
Says call other = ⊥

-- an answer of a file, for which the last call of the store that failed was made, of the output, whose count of faults rose, or of a history that isn't that of a run
abbrev pub IsFault : Call → Status → Type 0
IsFault call (NotARun line) = SaysNotARun call line
IsFault call status = Failed call.before call.after status

-- a call over these files is answered by its verdict, unless memory is wanting, a file or the output failed, or the history to be followed isn't that of a run
pub record Follows (call : Call) (status : Status) (files : FileMap) : Type 0 where
  pub answer : (status ≡ answer_of (verdict files call.words)) ⊎ ((status ≡ NoMemory) ⊎ IsFault call status)

-- the turns of an order can be taken as it says: a history that they are to follow is that of a complete run
abbrev pub CanBeRun : Way → Order → Type 0
CanBeRun (AsTold bytes) order = (ran : Ran) × IsHistoryOf order.job.policy.names (first_of order.job) bytes ran
CanBeRun other order = Unit {0}

-- where the verdict over these files is an order whose turns can be taken as it says, and no count rose, the answer is Done, unless memory is wanting
abbrev pub Completes : Call → Status → FileMap → Type 0
Completes call status files = (order : Order) → verdict files call.words ≡ Ok order → CanBeRun order.way order
    → (Rose call.before.faults.count call.after.faults.count → ⊥) → (Rose call.before.say_faults call.after.say_faults → ⊥) → (status ≡ Done) ⊎ (status ≡ NoMemory)

-- A call ends the program with an answer and its exit status: of the call, with some journal, the answer says what it is to say, and where the store tells its files it follows the verdict and is Done where it has to be.
pub record EndsWith (call : List Entry → Call) (status : Status) (exit : ℕ) : Type 0 where
  pub journal : List Entry
  pub says : Says (call journal) status
  pub follows : IfSome (call journal).before.told (Follows (call journal) status)
  pub completes : IfSome (call journal).before.told (Completes (call journal) status)
  pub bad_words : command_of (call journal).words ≡ None → status ≡ BadWords
  pub count : (call journal).before.faults.count ≤ (call journal).after.faults.count
  pub exit_is : exit ≡ exit_status status
