-- The law of what an observer's view file tells: noninterference of two runs in rounds, byte for byte (the concurrent calculus of LIO, ICFP 2012, under a round-robin scheduler).
use Rattle.std.specs.Prelude.{◌≡◌, ℕ, false, List}
use Rattle.lio_labels.specs.declared.label.Label.{Label}
use Rattle.lio_events.specs.JournalText.{journal_text}
use Rattle.lio_events.specs.Views.{releases, view}
use Rattle.lio_calculus.specs.Erased.{erase}
use Rattle.lio_calculus.specs.Run.{Ran}
use Rattle.lio_calculus.specs.Step.{Configuration}
use Rattle.lio_rounds.specs.Runs.{IsByRounds}

-- the bytes of a view's file
abbrev pub view_bytes : List (List ℕ) → Label → Ran → List ℕ
view_bytes names observer ran = journal_text names false (view observer 0 ran.entries)

-- Two runs in rounds from configurations that look alike to an observer, with the same contents released to it and the same names of principals, have the same view file, byte for byte: it is a function of what the
-- observer sees.
abbrev pub ViewFilesAreAlike : Type 0
ViewFilesAreAlike = (names : List (List ℕ)) (observer : Label) (c d : Configuration) (one two : Ran) → IsByRounds c one → IsByRounds d two
    → erase observer c ≡ erase observer d → releases observer one.entries ≡ releases observer two.entries → view_bytes names observer one ≡ view_bytes names observer two
