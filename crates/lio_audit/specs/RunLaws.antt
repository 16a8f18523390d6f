-- The laws of views of runs: the view of a complete run is a view to its observer, and of a run by rounds it is what the observer computes (the erasure of the
-- concurrent calculus of LIO, ICFP 2012).
use Rattle.std.specs.Prelude.{◌≡◌, ℕ, ◌≤◌, false, List, [], length, All, Some}
use Rattle.lio_labels.specs.declared.label.Label.{Label}
use Rattle.lio_values.specs.declared.value.Content.{Content}
use Rattle.lio_values.specs.declared.entry.Entry.{Entry}
use Rattle.lio_events.specs.JournalText.{journal_text}
use Rattle.lio_events.specs.Views.{releases, view}
use Rattle.lio_events_reading.specs.Over.{IsEntryOver}
use Rattle.lio_calculus.specs.Erased.{erase}
use Rattle.lio_calculus.specs.Run.{LowRan, Ran, run}
use Rattle.lio_calculus.specs.Sound.{IsSound}
use Rattle.lio_calculus.specs.Step.{Configuration}
use Rattle.lio_calculus_runs.specs.Rounds.{IsComplete, rounds}
use Rattle.lio_audit.specs.History.{most_history_bytes}
use Rattle.lio_audit.specs.Rerun.{AreRoundsOf, LacksInRounds}
use Rattle.lio_audit.specs.View.{IsViewOf}

-- what the view of a run releases to the observer is what the run releases to it
abbrev pub ViewReleasesTheSame : Type 0
ViewReleasesTheSame = (observer : Label) (c : Configuration) (ks : List ℕ) (ran : Ran) → IsSound c → run 0 c ks ≡ Some ran → releases observer ran.entries ≡ releases observer (view observer 0 ran.entries)

-- what an observer sees of a run
abbrev pub seen_of : Label → Ran → LowRan
seen_of observer ran = record { entries = view observer 0 ran.entries; last = erase observer ran.last; left = [] }

-- the text of what an observer sees
abbrev pub seen_text : List (List ℕ) → Label → Ran → List ℕ
seen_text names observer ran = journal_text names false (view observer 0 ran.entries)

-- a complete run, whose entries can be printed, is seen: the text of its view, where it isn't too long, is the view of what the observer sees of the run
abbrev pub CompleteRunIsSeen : Type 0
CompleteRunIsSeen = (names : List (List ℕ)) (observer : Label) (c : Configuration) (ks : List ℕ) (ran : Ran) → IsSound c → run 0 c ks ≡ Some ran → IsComplete ran.last → All (IsEntryOver names) ran.entries
    → length (seen_text names observer ran) ≤ most_history_bytes → IsViewOf names observer (erase observer c) (seen_text names observer ran) (seen_of observer ran)

-- The observer of a run by rounds computes its view.
pub record IsRerun (observer : Label) (c : Configuration) (ran : Ran) : Type 0 where
  -- with the contents that the run releases the erased rounds give its view, and leave none
  pub gives : AreRoundsOf observer (erase observer c) (releases observer ran.entries) (view observer 0 ran.entries) []
  -- they give nothing else
  pub only : (entries : List Entry) (left : List Content) → AreRoundsOf observer (erase observer c) (releases observer ran.entries) entries left → (entries ≡ view observer 0 ran.entries) × (left ≡ [])
  -- and no task lacks a content in them
  pub lacks_none : (k : ℕ) → LacksInRounds observer (erase observer c) (releases observer ran.entries) k → ⊥

abbrev pub RoundsAreRerun : Type 0
RoundsAreRerun = (observer : Label) (c : Configuration) (ran : Ran) → IsSound c → run 0 c (rounds c) ≡ Some ran → IsRerun observer c ran
