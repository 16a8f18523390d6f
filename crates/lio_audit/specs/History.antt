-- Which bytes are the history of a complete run, and where bytes stop being one.
use Rattle.std.specs.Prelude.{◌≡◌, ◌⊎◌, ℕ, ◌+◌, ◌<◌, ◌≤◌, true, List, [], ◌∷◌, ◌++◌, length, Some}
use Rattle.lio_events.specs.JournalText.{entry_text, journal_text}
use Rattle.lio_events_reading.specs.Lines.{line_ends}
use Rattle.lio_calculus.specs.Run.{Ran, run}
use Rattle.lio_calculus.specs.Step.{Configuration, Turn, can, step}
use Rattle.lio_calculus.specs.Journals.{actors}
use Rattle.lio_calculus_runs.specs.Rounds.{IsComplete}
use Rattle.lio_audit.specs.declared.fault.AuditFault.{AuditFault}
use Rattle.lio_audit.specs.declared.fault.AuditFault.TheVariants.{NotARun, NoMemory}

-- the most bytes of a history
abbrev pub most_history_bytes : ℕ
most_history_bytes = 268435456

-- a run from a configuration: the actors of its entries take their turns in order, with tickets from 0
abbrev pub IsRunFrom : Configuration → Ran → Type 0
IsRunFrom c ran = run 0 c (actors ran.entries) ≡ Some ran

-- Bytes are the history of a complete run from a configuration.
pub record IsHistoryOf (names : List (List ℕ)) (c : Configuration) (bytes : List ℕ) (ran : Ran) : Type 0 where
  pub few : length bytes ≤ most_history_bytes
  -- each line is the text, with its ticket, of an entry of the run, in their order
  pub text : bytes ≡ journal_text names true ran.entries
  -- so there are as many line ends as turns
  pub lines : line_ends bytes ≡ length ran.entries
  pub is_run : IsRunFrom c ran
  -- and then no task can take a turn
  pub complete : IsComplete ran.last

-- the line of a turn with this ticket stands at the front of bytes
pub record BeginsTurn (names : List (List ℕ)) (ticket : ℕ) (c : Configuration) (bytes : List ℕ) : Type 0 where
  pub task : ℕ
  pub turn : Turn
  pub rest : List ℕ
  pub is_step : step ticket c task ≡ Some turn
  pub stands : bytes ≡ entry_text names true turn.entry ++ rest

-- a task can take a turn
abbrev pub CanGoOn : Configuration → Type 0
CanGoOn c = (k : ℕ) × (can c k ≡ true)

-- What is left of bytes is no line of a turn with this ticket: there is none though a task can take a turn, or the first line is that of no turn; what stands behind the last line end is no line.
abbrev pub Stops : List (List ℕ) → ℕ → Configuration → List ℕ → Type 0
Stops names ticket c [] = CanGoOn c
Stops names ticket c (byte ∷ bytes) = BeginsTurn names ticket c (byte ∷ bytes) → ⊥

-- Bytes stop being a history at a line, from 1: the lines before it are those of a run, and it isn't the line of a turn after this run, or isn't there.
pub record StopsAt (names : List (List ℕ)) (c : Configuration) (bytes : List ℕ) (line : ℕ) : Type 0 where
  pub few : length bytes ≤ most_history_bytes
  pub ran : Ran
  pub rest : List ℕ
  pub text : bytes ≡ journal_text names true ran.entries ++ rest
  pub is_run : IsRunFrom c ran
  pub line_is : line ≡ length ran.entries + 1
  pub stops : Stops names (length ran.entries) ran.last rest

-- Bytes are the history of one complete run.
pub record IsOneHistoryOf (names : List (List ℕ)) (c : Configuration) (bytes : List ℕ) (ran : Ran) : Type 0 where
  pub is_history : IsHistoryOf names c bytes ran
  -- they are the history of no other run, and stop at no line
  pub only : (other : Ran) → IsHistoryOf names c bytes other → other ≡ ran
  pub nowhere : (line : ℕ) → StopsAt names c bytes line → ⊥

-- Bytes stop being a history at one line.
pub record StopsAtOne (names : List (List ℕ)) (c : Configuration) (bytes : List ℕ) (line : ℕ) : Type 0 where
  pub stops_at : StopsAt names c bytes line
  -- they are the history of no run, and stop at no other line
  pub none : (ran : Ran) → IsHistoryOf names c bytes ran → ⊥
  pub only : (other : ℕ) → StopsAt names c bytes other → other ≡ line

-- There are more bytes than a history may have.
pub record HaveTooMany (names : List (List ℕ)) (c : Configuration) (bytes : List ℕ) : Type 0 where
  pub many : most_history_bytes < length bytes
  -- they are the history of no run, and stop at no line
  pub none : (ran : Ran) → IsHistoryOf names c bytes ran → ⊥
  pub nowhere : (line : ℕ) → StopsAt names c bytes line → ⊥

-- why bytes aren't the history of a complete run: there are too many of them, or they stop at a line
abbrev pub Says : List (List ℕ) → Configuration → List ℕ → AuditFault → Type 0
Says names c bytes (NotARun line) = ((line ≡ 0) × HaveTooMany names c bytes) ⊎ StopsAtOne names c bytes line
Says names c bytes NoMemory = Unit {0}
