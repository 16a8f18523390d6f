-- What the words of the program that answers questions ask.
use Rattle.std.specs.Prelude.{ℕ, ◌&&◌, List, [], ◌∷◌, Option, None, Some, codes, bytes_eq, if◌then◌else◌}
use Rattle.lio_front.specs.Command.{is_name}
use Rattle.lio_ask_main.specs.declared.words.Files as declared_files
use Rattle.lio_ask_main.specs.declared.words.Question as declared
use Rattle.lio_ask_main.specs.declared.words.Question.TheVariants as question

-- the files of a policy, of a script and of a history
pub record Files : Type 0 where
  pub policy : List ℕ
  pub script : List ℕ
  pub history : List ℕ

-- a question: what the program answers, which version it has, what a policy lets flow, as a text or as a table for programs, whether a script fits a policy, what became of the run that a history tells, and where its tasks stood in each turn
pub data Question : Type 0 where
  Help : Question
  Version : Question
  Explain : List ℕ → Question
  Table : List ℕ → Question
  Check : List ℕ → List ℕ → Question
  Audit : Files → Question
  Lines : Files → Question

-- the question that one word asks
abbrev pub alone : List ℕ → Option Question
alone word = if bytes_eq word (codes "help") then Some Help else if bytes_eq word (codes "version") then Some Version else None

-- the question that a word asks of a file
abbrev pub of_one : List ℕ → List ℕ → Option Question
of_one word policy = if bytes_eq word (codes "explain") && is_name policy then Some (Explain policy) else None

-- the question that a word asks of a file, with an option behind it
abbrev pub of_option : List ℕ → List ℕ → List ℕ → Option Question
of_option word policy option = if bytes_eq word (codes "explain") && is_name policy && bytes_eq option (codes "--json") then Some (Table policy) else None

-- the question that a word asks of two files, or of one with an option behind it
abbrev pub of_two : List ℕ → List ℕ → List ℕ → Option Question
of_two word policy script = if bytes_eq word (codes "check") && is_name policy && is_name script then Some (Check policy script) else of_option word policy script

-- the question that a word asks of three files, which may stand
abbrev pub of_files : List ℕ → Files → Option Question
of_files word files = if bytes_eq word (codes "audit") then Some (Audit files) else if bytes_eq word (codes "lines") then Some (Lines files) else None

-- the question that a word asks of three files
abbrev pub of_three : List ℕ → List ℕ → List ℕ → List ℕ → Option Question
of_three word policy script history =
    if is_name policy && is_name script && is_name history then of_files word (record { policy = policy; script = script; history = history }) else None

-- the question that words ask: `help`, `version`, `explain POLICY`, `explain POLICY --json`, `check POLICY SCRIPT`, `audit POLICY SCRIPT HISTORY` or `lines POLICY SCRIPT HISTORY`; no file's name is empty or begins with `-`
abbrev pub question_of : List (List ℕ) → Option Question
question_of (word ∷ []) = alone word
question_of (word ∷ policy ∷ []) = of_one word policy
question_of (word ∷ policy ∷ script ∷ []) = of_two word policy script
question_of (word ∷ policy ∷ script ∷ history ∷ []) = of_three word policy script history
question_of words = None

-- the files that the code's stand for
abbrev pub files_named : declared_files.Files → Files
files_named files = record { policy = files.policy.now; script = files.script.now; history = files.history.now }

-- the question that the code's stands for
abbrev pub named : declared.Question → Question
named question.Help = Help
named question.Version = Version
named (question.Explain policy) = Explain policy.now
named (question.Table policy) = Table policy.now
named (question.Check policy script) = Check policy.now script.now
named (question.Audit files) = Audit (files_named files)
named (question.Lines files) = Lines (files_named files)
