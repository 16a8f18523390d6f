-- What each answer to a question says.
use Rattle.std.specs.Prelude.{◌≡◌, ◌≤◌, ℕ, Bool, true, false, List, codes, Option, Some, None, Ok, ◌⊎◌}
use Rattle.lio_outside.specs.FileMap.{FileMap}
use Rattle.lio_outside.specs.Call.{Call}
use Rattle.lio_outside.specs.Count.{Faults, Rose}
use Rattle.lio_outside.specs.Said.{said_with, SaidPartly}
use Rattle.lio_outside.specs.Asking.{Give}
use Rattle.lio_calculus.specs.Run.{Ran}
use Rattle.lio_front.specs.declared.loading.Front.{Front}
use Rattle.lio_front.specs.declared.status.Status.{Status}
use Rattle.lio_front.specs.declared.status.Status.TheVariants.{Done, BadWords, SayFault, NoMemory, NotARun}
use Rattle.lio_front.specs.Status.{Says as Refuses, exit_status}
use Rattle.lio_front.specs.Texts.{AreFetched, AreTexts}
use Rattle.lio_front.specs.Loading.{most_policy_bytes}
use Rattle.lio_front.specs.declared.texts.Texts.{Texts}
use Rattle.lio_ask_main.specs.declared.answer.Answer.{Answer}
use Rattle.lio_ask_main.specs.declared.answer.Answer.TheVariants.{Plain, Troubled}
use Rattle.lio_policy.specs.declared.policy.Policy.{Policy}
use Rattle.lio_ask_main.specs.Explained.{begins_with}
use Rattle.lio_ask_main.specs.Past.{IsNoRun, IsTakenAgain, checking, explaining, recalling}
use Rattle.lio_ask_main.specs.Telling.{IsCounted, IsListed}
use Rattle.lio_ask_main.specs.Words.{Files, Question, Help, Version, Explain, Table, Check, Audit, Lines, question_of}

-- the number with which the program ends: the host's, and one more where a task failed or waits for ever
abbrev pub exit_number : Answer → ℕ
exit_number (Plain status) = exit_status status
exit_number Troubled = 13

-- the answer where a question was answered: whether a task failed or waits for ever
abbrev pub answer_by : Bool → Answer
answer_by false = Plain Done
answer_by true = Troubled

-- what is said of a script that fits a policy
abbrev pub check_text : List ℕ
check_text = codes "check ok\n"

-- What is said of a question, and whether it tells of a task that failed or waits for ever. Explain: the policy is read; Table: it is, and the text begins with its channels, its inputs and the table of what it lets flow. Check: the script fits the policy. Audit: the history is that of one complete run, with so many turns, and so many
-- tasks failed and wait for ever after it. Lines: the history is, and each of its turns has a line.
abbrev pub IsAnswered : Option FileMap → Question → List ℕ → Bool → Type 0
IsAnswered told Help text troubled = troubled ≡ false
IsAnswered told Version text troubled = troubled ≡ false
IsAnswered told (Explain file) text troubled = ((policy : Policy) × Give told (explaining file) (Ok policy)) × (troubled ≡ false)
IsAnswered told (Table file) text troubled = ((policy : Policy) × Give told (explaining file) (Ok policy) × begins_with text policy) × (troubled ≡ false)
IsAnswered told (Check policy script) text troubled = ((front : Front) × Give told (checking policy script) (Ok front)) × (text ≡ check_text) × (troubled ≡ false)
IsAnswered told (Audit files) text troubled = (ran : Ran) × IsTakenAgain told files ran × IsCounted ran text troubled
IsAnswered told (Lines files) text troubled = (ran : Ran) × IsTakenAgain told files ran × IsListed ran text troubled

-- why a run isn't taken again: the bytes aren't the history of one; else the steps before say so
abbrev pub IsNotTaken : Option FileMap → Files → Faults → Faults → Status → Type 0
IsNotTaken told files before after (NotARun line) = IsNoRun told files line
IsNotTaken told files before after status = Refuses told (recalling files) before after status

-- why a question isn't answered
abbrev pub IsRefused : Option FileMap → Question → Faults → Faults → Status → Type 0
IsRefused told Help before after status = status ≡ NoMemory
IsRefused told Version before after status = status ≡ NoMemory
IsRefused told (Explain file) before after status = Refuses told (explaining file) before after status
IsRefused told (Table file) before after status = Refuses told (explaining file) before after status
IsRefused told (Check policy script) before after status = Refuses told (checking policy script) before after status
IsRefused told (Audit files) before after status = IsNotTaken told files before after status
IsRefused told (Lines files) before after status = IsNotTaken told files before after status

-- The words ask a question, of which this is said.
pub record Tells (call : Call) (text : List ℕ) (troubled : Bool) : Type 0 where
  pub question : Question
  pub asks : question_of call.words ≡ Some question
  pub is_answered : IsAnswered call.before.told question text troubled

-- The words ask a question, which isn't answered, and nothing was said.
pub record TellsNothing (call : Call) (status : Status) : Type 0 where
  pub question : Question
  pub asks : question_of call.words ≡ Some question
  pub refused : IsRefused call.before.told question call.before.faults call.after.faults status
  pub nothing : call.after.said ≡ call.before.said

-- The words ask a question, of which a first part was said, and the output's count of faults rose.
pub record TellsPartly (call : Call) : Type 0 where
  pub text : List ℕ
  pub troubled : Bool
  pub tells : Tells call text troubled
  pub partly : SaidPartly call.before.said call.after.said text
  pub rose : Rose call.before.say_faults call.after.say_faults

-- the words ask a question, of which all was said
abbrev pub TellsAll : Call → Bool → Type 0
TellsAll call troubled = (text : List ℕ) × Tells call text troubled × (call.after.said ≡ said_with call.before.said text)

-- What was said of a text with an answer: all of it; a first part, and the output's count of faults rose; or nothing, where memory is wanting.
abbrev pub IsSaid : Option (List ℕ) → Option (List ℕ) → ℕ → ℕ → List ℕ → Bool → Answer → Type 0
IsSaid said now before after text troubled answer =
    ((answer ≡ answer_by troubled) × (now ≡ said_with said text))
    ⊎ (((answer ≡ Plain SayFault) × SaidPartly said now text × Rose before after) ⊎ ((answer ≡ Plain NoMemory) × (now ≡ said)))

-- What each answer says of the call that gave it. Done: all was said, and no task failed or waits for ever; Troubled: one does. BadWords: the words ask no question. SayFault: a first part was said. Else: nothing
-- was said, by the cause of the answer.
abbrev pub Says : Call → Answer → Type 0
Says call (Plain Done) = TellsAll call false
Says call Troubled = TellsAll call true
Says call (Plain BadWords) = ((question_of call.words ≡ None) × (call.after.said ≡ call.before.said)) ⊎ TellsNothing call BadWords
Says call (Plain SayFault) = TellsPartly call
Says call (Plain status) = TellsNothing call status

-- the store's files are as before, and its count of faults didn't fall
pub record WritesNothing (call : Call) : Type 0 where
  pub files : call.after.told ≡ call.before.told
  pub count : call.before.faults.count ≤ call.after.faults.count

-- A call ends the program with an answer and its exit status, and no file was written.
pub record EndsWith (call : Call) (answer : Answer) (exit : ℕ) : Type 0 where
  pub says : Says call answer
  pub writes : WritesNothing call
  pub bad_words : question_of call.words ≡ None → answer ≡ Plain BadWords
  pub exit_is : exit ≡ exit_number answer

-- the texts of a policy and of a script are those that were given under the names of a question
abbrev pub AreTextsOf : Option FileMap → Question → Texts → Type 0
AreTextsOf told Help texts = Unit {0}
AreTextsOf told Version texts = Unit {0}
AreTextsOf told (Explain file) texts = AreFetched told file most_policy_bytes texts.policy
AreTextsOf told (Table file) texts = AreFetched told file most_policy_bytes texts.policy
AreTextsOf told (Check policy script) texts = AreTexts told policy script texts
AreTextsOf told (Audit files) texts = AreTexts told files.policy files.script texts
AreTextsOf told (Lines files) texts = AreTexts told files.policy files.script texts
