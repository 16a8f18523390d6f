-- The laws of views.
use Rattle.std.specs.Prelude.{◌≡◌, ℕ, List, All, IsTrue}
use Rattle.lio_labels.specs.declared.label.Label.{Label}
use Rattle.lio_labels.specs.Flow.{flows}
use Rattle.lio_values.specs.declared.entry.Entry.{Entry}
use Rattle.lio_values.specs.Named.{IsContentNamed}
use Rattle.lio_events.specs.Printable.{IsPrintable}
use Rattle.lio_events.specs.Views.{releases, view}

-- what a lower observer sees of a view is what it sees of the journal
abbrev pub ViewOfView : Type 0
ViewOfView = (lower upper : Label) (ticket other : ℕ) (journal : List Entry) → IsTrue (flows lower upper) → view lower ticket (view upper other journal) ≡ view lower ticket journal

-- what can be printed can be printed as an observer sees it
abbrev pub ViewIsPrintable : Type 0
ViewIsPrintable = (names : List (List ℕ)) (observer : Label) (ticket : ℕ) (journal : List Entry) → All (IsPrintable names) journal → All (IsPrintable names) (view observer ticket journal)

-- and each principal in what is released has a name
abbrev pub ReleasesAreNamed : Type 0
ReleasesAreNamed = (names : List (List ℕ)) (observer : Label) (journal : List Entry) → All (IsPrintable names) journal → All (IsContentNamed names) (releases observer journal)
