-- Which bytes are the view of a complete run, by what an observer holds: the configuration as it sees it where the run began (the erasure of the concurrent
-- calculus of LIO, ICFP 2012).
use Rattle.std.specs.Prelude.{◌≡◌, ◌⊎◌, ℕ, ◌+◌, ◌<◌, ◌≤◌, false, List, [], ◌∷◌, ◌++◌, length, All, Some}
use Rattle.lio_labels.specs.declared.label.Label.{Label}
use Rattle.lio_values.specs.declared.entry.Entry.{Entry}
use Rattle.lio_events.specs.JournalText.{entry_text, journal_text}
use Rattle.lio_events.specs.Views.{released_to, releases}
use Rattle.lio_events_reading.specs.Lines.{line_ends}
use Rattle.lio_events_reading.specs.Over.{IsEntryOver}
use Rattle.lio_calculus.specs.Erased.{LowTurn, low}
use Rattle.lio_calculus.specs.Laws.{IsShownContent}
use Rattle.lio_calculus.specs.Run.{LowRan, low_run}
use Rattle.lio_calculus.specs.Step.{Configuration}
use Rattle.lio_calculus.specs.Journals.{actors}
use Rattle.lio_calculus_runs.specs.Rounds.{IsComplete}
use Rattle.lio_audit.specs.declared.view_fault.ViewFault.{ViewFault}
use Rattle.lio_audit.specs.declared.view_fault.ViewFault.TheVariants.{NotAView, NoMemory}
use Rattle.lio_audit.specs.History.{CanGoOn, most_history_bytes}

-- A run of the erased calculus that its own entries tell: their actors take their erased turns in order, with the contents that these entries release. None of them is hidden, and none is left.
pub record IsLowRunFrom (observer : Label) (c : Configuration) (ran : LowRan) : Type 0 where
  pub is_run : low_run observer 0 c (actors ran.entries) (releases observer ran.entries) ≡ Some ran
  pub shown : All IsShownContent (releases observer ran.entries)
  pub none_left : ran.left ≡ []

-- each line of bytes is the text, without its ticket, of an entry over the names of principals, in the order of entries
pub record AreLinesOf (names : List (List ℕ)) (entries : List Entry) (bytes rest : List ℕ) : Type 0 where
  pub over : All (IsEntryOver names) entries
  pub text : bytes ≡ journal_text names false entries ++ rest

-- Bytes are the view of a complete run, from what an observer sees of the configuration where it began.
pub record IsViewOf (names : List (List ℕ)) (observer : Label) (c : Configuration) (bytes : List ℕ) (ran : LowRan) : Type 0 where
  pub few : length bytes ≤ most_history_bytes
  -- the bytes are the lines of an erased run's entries
  pub lines : AreLinesOf names ran.entries bytes []
  pub is_run : IsLowRunFrom observer c ran
  -- and then no task can take a turn in the erased calculus
  pub complete : IsComplete ran.last

-- A task's erased turn takes the contents that its entry releases, of which none is hidden, and leaves none.
pub record IsSeenTurn (observer : Label) (c : Configuration) (turn : LowTurn) : Type 0 where
  pub is_step : low observer turn.entry.ticket c turn.entry.actor (released_to observer turn.entry.act turn.entry.reply) ≡ Some turn
  pub shown : All IsShownContent (released_to observer turn.entry.act turn.entry.reply)
  pub none_left : turn.left ≡ []

-- the line of an erased turn stands at the front of bytes, whatever its ticket is
pub record BeginsSeenTurn (names : List (List ℕ)) (observer : Label) (c : Configuration) (bytes : List ℕ) : Type 0 where
  pub turn : LowTurn
  pub rest : List ℕ
  pub over : IsEntryOver names turn.entry
  pub is_turn : IsSeenTurn observer c turn
  pub stands : bytes ≡ entry_text names false turn.entry ++ rest

-- What is left of bytes is no line of an erased turn: there is none though a task can take a turn, or the first line is that of no turn; what stands behind the last line end is no line.
abbrev pub SeenStops : List (List ℕ) → Label → Configuration → List ℕ → Type 0
SeenStops names observer c [] = CanGoOn c
SeenStops names observer c (byte ∷ bytes) = BeginsSeenTurn names observer c (byte ∷ bytes) → ⊥

-- Bytes stop being a view at a line, from 1: the lines before it are those of an erased run, and it isn't the line of an erased turn after this run, or isn't there.
pub record SeenStopsAt (names : List (List ℕ)) (observer : Label) (c : Configuration) (bytes : List ℕ) (line : ℕ) : Type 0 where
  pub few : length bytes ≤ most_history_bytes
  pub ran : LowRan
  pub rest : List ℕ
  pub lines : AreLinesOf names ran.entries bytes rest
  pub is_run : IsLowRunFrom observer c ran
  pub line_is : line ≡ length ran.entries + 1
  pub stops : SeenStops names observer ran.last rest

-- Bytes are the view of one complete run, which has so many turns.
pub record IsOneViewOfTurns (names : List (List ℕ)) (observer : Label) (c : Configuration) (bytes : List ℕ) (count : ℕ) : Type 0 where
  pub ran : LowRan
  pub is_view : IsViewOf names observer c bytes ran
  pub count_is : count ≡ length ran.entries
  -- and so many line ends
  pub lines : line_ends bytes ≡ count
  -- they are the view of no other run, and stop at no line
  pub only : (other : LowRan) → IsViewOf names observer c bytes other → other ≡ ran
  pub nowhere : (line : ℕ) → SeenStopsAt names observer c bytes line → ⊥

-- Bytes stop being a view at one line.
pub record SeenStopsAtOne (names : List (List ℕ)) (observer : Label) (c : Configuration) (bytes : List ℕ) (line : ℕ) : Type 0 where
  pub stops_at : SeenStopsAt names observer c bytes line
  -- they are the view of no run, and stop at no other line
  pub none : (ran : LowRan) → IsViewOf names observer c bytes ran → ⊥
  pub only : (other : ℕ) → SeenStopsAt names observer c bytes other → other ≡ line

-- There are too many bytes.
pub record AreTooMany (names : List (List ℕ)) (observer : Label) (c : Configuration) (bytes : List ℕ) : Type 0 where
  pub many : most_history_bytes < length bytes
  -- they are the view of no run, and stop at no line
  pub none : (ran : LowRan) → IsViewOf names observer c bytes ran → ⊥
  pub nowhere : (line : ℕ) → SeenStopsAt names observer c bytes line → ⊥

-- why bytes aren't the view of a complete run: there are too many of them, or they stop at a line
abbrev pub SeenSays : List (List ℕ) → Label → Configuration → List ℕ → ViewFault → Type 0
SeenSays names observer c bytes (NotAView line) = ((line ≡ 0) × AreTooMany names observer c bytes) ⊎ SeenStopsAtOne names observer c bytes line
SeenSays names observer c bytes NoMemory = Unit {0}
