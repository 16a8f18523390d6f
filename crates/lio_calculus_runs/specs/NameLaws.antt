-- The laws of names: where only principals with names are named, turns and runs name no other one, and their entries can be printed.
use Rattle.std.specs.Prelude.{◌≡◌, ℕ, List, All, Some}
use Rattle.lio_labels.specs.declared.label.Label.{Label}
use Rattle.lio_values.specs.declared.value.Content.{Content}
use Rattle.lio_values.specs.Named.{IsContentNamed}
use Rattle.lio_values.specs.Purity.{IsContentPure}
use Rattle.lio_values.specs.declared.entry.Entry.{Entry}
use Rattle.lio_events.specs.Printable.{IsPrintable}
use Rattle.lio_events.specs.Views.{releases}
use Rattle.lio_calculus.specs.Step.{Configuration, Turn, step}
use Rattle.lio_calculus.specs.Erased.{LowTurn, erase, low}
use Rattle.lio_calculus.specs.Run.{Ran, run}
use Rattle.lio_calculus_runs.specs.Configuration.{NamesOnly}

-- what a turn shows can be printed, and the configuration after it names only principals that have names
pub record IsTurnNamed (names : List (List ℕ)) (turn : Turn) : Type 0 where
  pub entry : IsPrintable names turn.entry
  pub next : NamesOnly names turn.next

-- a turn of a configuration that names only principals that have names, sound or not
abbrev pub TurnNamesOnly : Type 0
TurnNamesOnly = (names : List (List ℕ)) (ticket : ℕ) (c : Configuration) (k : ℕ) (turn : Turn)
    → NamesOnly names c → step ticket c k ≡ Some turn → IsTurnNamed names turn

-- each entry of a run can be printed, and its last configuration names only principals that have names
pub record IsRunNamed (names : List (List ℕ)) (ran : Ran) : Type 0 where
  pub entries : All (IsPrintable names) ran.entries
  pub last : NamesOnly names ran.last

-- a run from a configuration that names only principals that have names
abbrev pub RunNamesOnly : Type 0
RunNamesOnly = (names : List (List ℕ)) (ticket : ℕ) (c : Configuration) (ks : List ℕ) (ran : Ran)
    → NamesOnly names c → run ticket c ks ≡ Some ran → IsRunNamed names ran

-- what an observer sees of a configuration names no more principals than the configuration
abbrev pub ErasedNamesOnly : Type 0
ErasedNamesOnly = (names : List (List ℕ)) (observer : Label) (c : Configuration) → NamesOnly names c → NamesOnly names (erase observer c)

-- a content that can be printed: each principal in it has a name, and what it keeps is pure
abbrev pub IsContentPrintable : List (List ℕ) → Content → Type 0
IsContentPrintable names content = IsContentNamed names content × IsContentPure content

-- what a journal that can be printed releases to an observer
abbrev pub ReleasesArePrintable : Type 0
ReleasesArePrintable = (names : List (List ℕ)) (observer : Label) (entries : List Entry) → All (IsPrintable names) entries → All (IsContentPrintable names) (releases observer entries)

-- what a turn of the erased calculus shows can be printed, and so can the released contents that are left; the configuration after it names only principals that have names
pub record IsLowTurnNamed (names : List (List ℕ)) (turn : LowTurn) : Type 0 where
  pub entry : IsPrintable names turn.entry
  pub next : NamesOnly names turn.next
  pub left : All (IsContentPrintable names) turn.left

-- a turn of the erased calculus from a configuration that names only principals that have names, and with released contents that can be printed
abbrev pub LowTurnNamesOnly : Type 0
LowTurnNamesOnly = (names : List (List ℕ)) (observer : Label) (ticket : ℕ) (c : Configuration) (k : ℕ) (contents : List Content) (turn : LowTurn)
    → NamesOnly names c → All (IsContentPrintable names) contents → low observer ticket c k contents ≡ Some turn → IsLowTurnNamed names turn
