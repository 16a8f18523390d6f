-- The laws of the calculus: what a turn of a sound configuration shows to an observer (the noninterference of the concurrent calculus of LIO, ICFP 2012).
use Rattle.std.specs.Prelude.{◌≡◌, ℕ, IsTrue, IsFalse, List, [], ◌++◌, All, Some}
use Rattle.lio_labels.specs.declared.label.Label.{Label}
use Rattle.lio_labels.specs.Flow.{flows}
use Rattle.lio_values.specs.declared.value.Content.{Content}
use Rattle.lio_values.specs.Views.{inner_of}
use Rattle.lio_values.specs.Erasure.{erase_entry}
use Rattle.lio_calculus.specs.Task.{TaskState}
use Rattle.lio_calculus.specs.Step.{Configuration, Turn, step}
use Rattle.lio_events.specs.Views.{released_to}
use Rattle.lio_calculus.specs.Erased.{erase, low}
use Rattle.lio_events.specs.Views.{view, who, releases}
use Rattle.lio_calculus.specs.Run.{Ran, run, low_run}
use Rattle.lio_calculus.specs.Sound.{InnerIsOpen, IsTaskOf, IsSound}

-- each turn keeps a configuration sound
abbrev pub TurnKeepsSoundness : Type 0
TurnKeepsSoundness = (ticket : ℕ) (c : Configuration) (k : ℕ) (task : TaskState) (turn : Turn) → IsSound c → IsTaskOf c k task → step ticket c k ≡ Some turn → IsSound turn.next

-- the turn of a task whose label doesn't flow to the observer's changes nothing that the observer sees
abbrev pub UnseenTurnChangesNothing : Type 0
UnseenTurnChangesNothing = (observer : Label) (ticket : ℕ) (c : Configuration) (k : ℕ) (task : TaskState) (turn : Turn)
    → IsSound c → IsTaskOf c k task → IsFalse (flows task.label observer) → step ticket c k ≡ Some turn
    → erase observer turn.next ≡ erase observer c

-- nor does it release anything to the observer
abbrev pub UnseenTurnReleasesNothing : Type 0
UnseenTurnReleasesNothing = (observer : Label) (ticket : ℕ) (c : Configuration) (k : ℕ) (task : TaskState) (turn : Turn)
    → IsSound c → IsTaskOf c k task → IsFalse (flows task.label observer) → step ticket c k ≡ Some turn
    → released_to observer turn.entry.act turn.entry.reply ≡ []

-- the turn of a task whose label flows to the observer's is the turn of the erased calculus: it shows the erased entry, leads to the erased
-- configuration, and takes the contents that it releases to the observer from the front of those that were released
abbrev pub SeenTurnIsErasedTurn : Type 0
SeenTurnIsErasedTurn = (observer : Label) (ticket : ℕ) (c : Configuration) (k : ℕ) (task : TaskState) (turn : Turn) (rest : List Content)
    → IsSound c → IsTaskOf c k task → IsTrue (flows task.label observer) → step ticket c k ≡ Some turn
    → low observer ticket (erase observer c) k (released_to observer turn.entry.act turn.entry.reply ++ rest)
    ≡ Some (record { entry = erase_entry observer turn.entry; next = erase observer turn.next; left = rest })

-- a content that isn't hidden, and what it keeps is pure
abbrev pub IsShownContent : Content → Type 0
IsShownContent content = InnerIsOpen (inner_of content)

-- A run from a sound configuration, seen by an observer, is the run of the erased calculus from what the observer sees of the configuration, over the actors that it sees
-- and the contents that the journal releases to it: it gives the view, what the observer sees of the last configuration, and no released content is left. None of these contents is hidden, what they keep is pure, and the last configuration is sound.
pub record RunSeenAs (observer : Label) (c : Configuration) (ran : Ran) : Type 0 where
  pub erased : low_run observer 0 (erase observer c) (who observer ran.entries) (releases observer ran.entries)
      ≡ Some (record { entries = view observer 0 ran.entries; last = erase observer ran.last; left = [] })
  pub released : All IsShownContent (releases observer ran.entries)
  pub sound : IsSound ran.last

abbrev pub RunIsErasedRun : Type 0
RunIsErasedRun = (observer : Label) (c : Configuration) (ks : List ℕ) (ran : Ran) → IsSound c → run 0 c ks ≡ Some ran → RunSeenAs observer c ran
