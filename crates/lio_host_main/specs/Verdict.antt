-- What a call of the host is to do, as its words and the files say: the answer that refuses it, or what is run.
use Rattle.std.specs.Prelude.{◌≡◌, ℕ, List, Option, None, Some, Result, Ok, Err, ◌⊎◌}
use Rattle.lio_outside.specs.FileMap.{FileMap}
use Rattle.lio_outside.specs.Count.{Faults}
use Rattle.lio_outside.specs.Fetch.{given}
use Rattle.lio_outside.specs.Steps.{Steps, Over, ◌>>=◌, asked, outcome, unless}
use Rattle.lio_outside.specs.Asking.{Cause, IsNotRead, IsSaid, IsNever, Give, Refuse}
use Rattle.lio_audit.specs.History.{most_history_bytes}
use Rattle.lio_policy.specs.declared.policy.Policy.{Policy}
use Rattle.lio_front.specs.declared.status.Status.{Status}
use Rattle.lio_front.specs.declared.status.Status.TheVariants.{BadWords, Clash, Missing}
use Rattle.lio_front.specs.Loading.{loading as front_loading, texts}
use Rattle.lio_front.specs.Clash.{clash}
use Rattle.lio_front.specs.Status as front
use Rattle.lio_front.specs.Command.{Command, Mode, Rounds, Workers, Replay, Source, Files, Made, command_of}
use Rattle.lio_start.specs.declared.job.Job.{Job}
use Rattle.lio_host_main.specs.declared.order.Loaded.{Loaded}
use Rattle.lio_host_main.specs.Order.{Order, Way, InRounds, ByWorkers, AsTold, label_text, names_added, names_read}
use Rattle.lio_host_main.specs.Workload.{made_files, policy_name, script_name}

-- the names of the policy and of the script
abbrev pub policy_file : Source → List ℕ
policy_file (Files policy script) = policy
policy_file (Made size) = policy_name

abbrev pub script_file : Source → List ℕ
script_file (Files policy script) = script
script_file (Made size) = script_name

-- the files out of which a source is read: those of the store, or the workload's
abbrev pub files_of : Source → FileMap → FileMap
files_of (Files policy script) files = files
files_of (Made size) files = made_files size

-- what is told of them
abbrev pub told_of : Source → Option FileMap → Option FileMap
told_of (Files policy script) told = told
told_of (Made size) told = Some (made_files size)

-- the inputs of a policy, where no file that is written is taken
abbrev pub taking : Command → Policy → Steps (List (List ℕ)) Status
taking command policy = do
  allowed ← Over (unless Clash (clash policy (names_added command) (names_read command)) policy)
  texts allowed.longest allowed.inputs

-- what is run by a command, of a policy and a script with these names, or the refusal of the first step that is refused: the policy, the observer's label and the script, that no
-- file that is written is taken, the inputs
abbrev pub loading_from : List ℕ → List ℕ → Command → Steps Loaded Status
loading_from policy script command = do
  front ← front_loading policy script (label_text command)
  inputs ← taking command front.policy
  Over (Ok (record { job = record { policy = front.policy; script = front.script; inputs = inputs }; observer = front.observer }))

-- what is run by a command
abbrev pub loading : Command → Steps Loaded Status
loading command = loading_from (policy_file command.source) (script_file command.source) command

-- how the turns are taken: a history that is taken again is fetched, at most one byte more than histories may have
abbrev pub ordering : Mode → Steps Way Status
ordering Rounds = Over (Ok InRounds)
ordering (Workers count) = Over (Ok (ByWorkers count))
ordering (Replay file) = do
  bytes ← asked (Missing file) file most_history_bytes
  Over (Ok (AsTold bytes))

-- an order of what is run and of how the turns are taken, or the first refusal
abbrev pub order_by : Command → Result Loaded Status → Result Way Status → Result Order Status
order_by command (Err status) way = Err status
order_by command (Ok loaded) (Err status) = Err status
order_by command (Ok loaded) (Ok way) = Ok (record { job = loaded.job; command = command; observer = loaded.observer; way = way })

-- what a call is to do by its command, over files
abbrev pub verdict_by : FileMap → Option Command → Result Order Status
verdict_by files None = Err BadWords
verdict_by files (Some command) = order_by command (outcome (given (files_of command.source files)) (loading command)) (outcome (given files) (ordering command.mode))

-- what a call with these words is to do, over files
abbrev pub verdict : FileMap → List (List ℕ) → Result Order Status
verdict files words = verdict_by files (command_of words)

-- what is run by an order, and how its turns are taken, were given, over what the store gave
pub record AreGiven (told : Option FileMap) (order : Order) : Type 0 where
  pub loaded : Give (told_of order.command.source told) (loading order.command) (Ok (record { job = order.job; observer = order.observer }))
  pub way : Give told (ordering order.command.mode) (Ok order.way)

-- an order is the verdict on a call with these words, over what the store gave
pub record IsVerdict (told : Option FileMap) (words : List (List ℕ)) (order : Order) : Type 0 where
  pub command : command_of words ≡ Some order.command
  pub given : AreGiven told order

-- a job is that of the verdict on a call with these words, over what the store gave
pub record IsJobOfVerdict (told : Option FileMap) (words : List (List ℕ)) (job : Job) : Type 0 where
  pub order : Order
  pub verdict : IsVerdict told words order
  pub job_is : job ≡ order.job

-- what has to hold for each answer of the steps before a run, of which some aren't: that a file is taken is said by the steps
abbrev pub cause_of : Status → Cause
cause_of (Clash name) = IsSaid
cause_of status = front.cause_of status

-- what has to hold for a refusal of what is run: of a generated workload no file is read
abbrev pub of_source : Source → Cause → Cause
of_source (Made size) (IsNotRead name) = IsNever
of_source source cause = cause

-- A command is refused with an answer: what is run isn't given, or it is, and how the turns are taken isn't.
abbrev pub IsRefusedBy : Command → Option FileMap → Faults → Faults → Status → Type 0
IsRefusedBy command told before after status =
    Refuse (of_source command.source (cause_of status)) (told_of command.source told) (loading command) before after status
    ⊎ ((loaded : Loaded) × Give (told_of command.source told) (loading command) (Ok loaded) × Refuse (cause_of status) told (ordering command.mode) before after status)
