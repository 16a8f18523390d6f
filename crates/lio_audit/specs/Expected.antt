-- With which line bytes that are a history so far could go on.
use Rattle.std.specs.Prelude.{◌≡◌, ◌⊎◌, ℕ, ◌+◌, ◌<◌, true, false, List, [], ◌∷◌, ◌++◌, length, Some}
use Rattle.lio_events.specs.JournalText.{entry_text, journal_text}
use Rattle.lio_events_reading.specs.Lines.{IsActorOf}
use Rattle.lio_calculus.specs.Run.{Ran}
use Rattle.lio_calculus.specs.Step.{Configuration, Turn, can, step}
use Rattle.lio_calculus_runs.specs.Rounds.{IsComplete}
use Rattle.lio_audit.specs.History.{BeginsTurn, IsRunFrom}

-- a text is the line of the turn that a task can take with this ticket
abbrev pub IsLineOf : List (List ℕ) → Configuration → ℕ → ℕ → List ℕ → Type 0
IsLineOf names c task ticket text = (turn : Turn) × (step ticket c task ≡ Some turn) × (text ≡ entry_text names true turn.entry)

-- A text is the line, with this number from 1, of a turn after a run whose lines stand at the front of bytes: of the task that what is left of them shows, where something is.
pub record CouldGoOn (names : List (List ℕ)) (c : Configuration) (bytes : List ℕ) (line : ℕ) (text : List ℕ) : Type 0 where
  pub ran : Ran
  pub rest : List ℕ
  pub task : ℕ
  pub turn : Turn
  pub lines : bytes ≡ journal_text names true ran.entries ++ rest
  pub is_run : IsRunFrom c ran
  pub line_is : line ≡ length ran.entries + 1
  pub shown : (rest ≡ []) ⊎ IsActorOf rest task
  pub is_step : step (length ran.entries) ran.last task ≡ Some turn
  pub is_line : text ≡ entry_text names true turn.entry

-- the task whose turn comes next is the one that bytes show, or where there are none, one that can take a turn
abbrev pub IsNext : Configuration → List ℕ → ℕ → Type 0
IsNext c [] k = can c k ≡ true
IsNext c (byte ∷ bytes) k = IsActorOf (byte ∷ bytes) k

-- no turn comes next: the task that bytes show can't take one, or where there are none, no task can
abbrev pub NoneIsNext : Configuration → List ℕ → Type 0
NoneIsNext c [] = IsComplete c
NoneIsNext c (byte ∷ bytes) = (k : ℕ) × IsActorOf (byte ∷ bytes) k × (can c k ≡ false)

-- No line with this number, from 1, could stand behind the front of bytes: behind the lines of a run no line of a turn stands before it is reached; or it is reached, and no turn comes next.
pub record CouldNotGoOn (names : List (List ℕ)) (c : Configuration) (bytes : List ℕ) (line : ℕ) : Type 0 where
  pub ran : Ran
  pub rest : List ℕ
  pub lines : bytes ≡ journal_text names true ran.entries ++ rest
  pub is_run : IsRunFrom c ran
  pub ends : ((length ran.entries + 1 < line) × (BeginsTurn names (length ran.entries) ran.last rest → ⊥)) ⊎ ((line ≡ length ran.entries + 1) × NoneIsNext ran.last rest)
