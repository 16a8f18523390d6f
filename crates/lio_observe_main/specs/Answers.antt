-- What each answer of the observer's check says.
use Rattle.std.specs.Prelude.{◌≡◌, ℕ, ◌≤◌, List, ◌++◌, codes, decimal, Option, Some, None, Ok, IfSome, ◌⊎◌}
use Rattle.lio_outside.specs.FileMap.{FileMap, bytes_of}
use Rattle.lio_outside.specs.Call.{Call}
use Rattle.lio_outside.specs.Count.{Faults, Rose}
use Rattle.lio_outside.specs.Said.{said_with, SaidPartly}
use Rattle.lio_outside.specs.Asking.{Refuse}
use Rattle.lio_front.specs.declared.status.Status.{Status}
use Rattle.lio_front.specs.declared.status.Status.TheVariants.{Done, BadWords, Missing, ReadFault, BadPolicy, BadScript, BadStart, SayFault, NoMemory, NotAView}
use Rattle.lio_front.specs.Status.{Failed, answer_of, cause_of, exit_status}
use Rattle.lio_observe_main.specs.Claim.{Claim, IsRight, IsWrongAt}
use Rattle.lio_observe_main.specs.Verdict.{IsVerdict, claiming, verdict}
use Rattle.lio_observe_main.specs.Words.{Command, command_of}

-- what is said of a view of so many lines
abbrev pub view_text : ℕ → List ℕ
view_text count = codes "view ok " ++ decimal count ++ codes "\n"

-- The words name a view of so many lines, which is that of a complete run, whatever the inputs hold that the observer doesn't see.
pub record Accepts (told : Option FileMap) (words : List (List ℕ)) (count : ℕ) : Type 0 where
  pub claim : Claim
  pub verdict : IsVerdict told words claim
  pub right : IsRight claim count
  -- and it is the whole file, where the store tells
  pub whole : (files : FileMap) → told ≡ Some files → bytes_of files verdict.command.view ≡ Some claim.view

-- The words name bytes that aren't the view of a complete run, from a line on.
pub record IsNoView (told : Option FileMap) (words : List (List ℕ)) (line : ℕ) : Type 0 where
  pub claim : Claim
  pub verdict : IsVerdict told words claim
  pub wrong : IsWrongAt claim line

-- The steps of the command that the words give are refused.
pub record IsRefusedBy (told : Option FileMap) (words : List (List ℕ)) (before after : Faults) (status : Status) : Type 0 where
  pub command : Command
  pub named : command_of words ≡ Some command
  pub refuse : Refuse (cause_of status) told (claiming command) before after status

-- Why a check is refused. BadWords: the words give no command, or the label is none over the policy's principals, and that is the verdict. NotAView: the view isn't one. NoMemory: the words give a command.
-- Else: the steps of the command say so.
abbrev pub IsRefused : Option FileMap → List (List ℕ) → Faults → Faults → Status → Type 0
IsRefused told words before after BadWords = (command_of words ≡ None) ⊎ IsRefusedBy told words before after BadWords
IsRefused told words before after (Missing name) = IsRefusedBy told words before after (Missing name)
IsRefused told words before after (ReadFault name) = IsRefusedBy told words before after (ReadFault name)
IsRefused told words before after (BadPolicy rule entry) = IsRefusedBy told words before after (BadPolicy rule entry)
IsRefused told words before after (BadScript line rule) = IsRefusedBy told words before after (BadScript line rule)
IsRefused told words before after (BadStart place cause) = IsRefusedBy told words before after (BadStart place cause)
IsRefused told words before after NoMemory = (command : Command) × (command_of words ≡ Some command)
IsRefused told words before after (NotAView line) = IsNoView told words line
IsRefused told words before after other = ⊥

-- a call was refused, and nothing was said
abbrev pub SaysNothing : Call → Status → Type 0
SaysNothing call status = IsRefused call.before.told call.words call.before.faults call.after.faults status × (call.after.said ≡ call.before.said)

-- What each answer says of the call that gave it. Done: the words name a view, which is that of a complete run, and its lines were said. SayFault: they do, a first part was said, and the output's count of faults rose.
-- Else: the call was refused, and nothing was said. Other answers aren't given.
abbrev pub Says : Call → Status → Type 0
Says call Done = (count : ℕ) × Accepts call.before.told call.words count × (call.after.said ≡ said_with call.before.said (view_text count))
Says call SayFault = (count : ℕ) × Accepts call.before.told call.words count × SaidPartly call.before.said call.after.said (view_text count) × Rose call.before.say_faults call.after.say_faults
Says call BadWords = SaysNothing call BadWords
Says call (Missing name) = SaysNothing call (Missing name)
Says call (ReadFault name) = SaysNothing call (ReadFault name)
Says call (BadPolicy rule entry) = SaysNothing call (BadPolicy rule entry)
Says call (BadScript line rule) = SaysNothing call (BadScript line rule)
Says call (BadStart place cause) = SaysNothing call (BadStart place cause)
Says call NoMemory = SaysNothing call NoMemory
Says call (NotAView line) = SaysNothing call (NotAView line)
Says call other = ⊥

-- an answer of a file, for which the last call of the store that failed was made, of the output, whose count of faults rose, or of bytes that aren't the view of a run
abbrev pub IsFault : Call → Status → Type 0
IsFault call (NotAView line) = IsNoView call.before.told call.words line
IsFault call status = Failed call.before call.after status

-- a call over these files is answered by its verdict, unless memory is wanting, a file or the output failed, or the bytes aren't the view of a run
abbrev pub Follows : Call → Status → FileMap → Type 0
Follows call status files = (status ≡ answer_of (verdict files call.words)) ⊎ ((status ≡ NoMemory) ⊎ IsFault call status)

-- where the words name over these files what is the view of a complete run, and no count rose, the answer is Done, unless memory is wanting
abbrev pub Completes : Call → Status → FileMap → Type 0
Completes call status files = (claim : Claim) (count : ℕ) → verdict files call.words ≡ Ok claim → IsRight claim count
    → (Rose call.before.faults.count call.after.faults.count → ⊥) → (Rose call.before.say_faults call.after.say_faults → ⊥) → (status ≡ Done) ⊎ (status ≡ NoMemory)

-- why the lines of a view weren't said
abbrev pub IsUnsaid : Option (List ℕ) → Option (List ℕ) → ℕ → ℕ → ℕ → Status → Type 0
IsUnsaid said now before after count SayFault = SaidPartly said now (view_text count) × Rose before after
IsUnsaid said now before after count NoMemory = now ≡ said
IsUnsaid said now before after count other = ⊥

-- why no view was found
abbrev pub StopsTheCheck : Claim → Status → Type 0
StopsTheCheck claim (NotAView line) = IsWrongAt claim line
StopsTheCheck claim NoMemory = Unit {0}
StopsTheCheck claim other = ⊥

-- A call ends the program with an answer and its exit status: of the call the answer says what it is to say, and where the store tells its files it follows the verdict and is Done where it has to be.
pub record EndsWith (call : Call) (status : Status) (exit : ℕ) : Type 0 where
  pub says : Says call status
  pub follows : IfSome call.before.told (Follows call status)
  pub completes : IfSome call.before.told (Completes call status)
  pub bad_words : command_of call.words ≡ None → status ≡ BadWords
  pub count : call.before.faults.count ≤ call.after.faults.count
  pub exit_is : exit ≡ exit_status status
