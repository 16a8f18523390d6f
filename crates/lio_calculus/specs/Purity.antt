-- Configurations whose contents are pure: no content keeps a list that holds a sealed value, so an entry can show it and an observer sees all of it. Each turn leaves them so,
-- from a sound configuration or not.
use Rattle.std.specs.Prelude.{◌≡◌, ℕ, List, All, Some}
use Rattle.lio_labels.specs.declared.label.Label.{Label}
use Rattle.lio_values.specs.declared.value.Content.{Content}
use Rattle.lio_values.specs.declared.entry.Entry.{Entry}
use Rattle.lio_values.specs.Purity.{KeepsPure, IsContentPure}
use Rattle.lio_events.specs.Printable.{ActKeepsPure, ReplyKeepsPure}
use Rattle.lio_calculus.specs.Task.{TaskState}
use Rattle.lio_calculus.specs.Step.{Configuration, Turn, cell_at, step}
use Rattle.lio_calculus.specs.Erased.{LowTurn, erase, low}
use Rattle.lio_calculus.specs.Sound.{EachInTask, EachInState, IsTaskOf, IsSound}

-- What each content keeps and each fault carries is pure: in environments, callers' too, in faults, in nodes and in results.
pub record ContentsArePure (c : Configuration) : Type 0 where
  pub tasks : (k : ℕ) (task : TaskState) → IsTaskOf c k task → EachInTask KeepsPure task
  pub nodes : (n : ℕ) → EachInState KeepsPure (cell_at c n).state

-- so it is in an entry
pub record EntryIsPure (entry : Entry) : Type 0 where
  pub act : ActKeepsPure entry.act
  pub reply : ReplyKeepsPure entry.reply

-- and in a turn of the calculus, and of the erased one: in what it shows, in what it leaves, and in the released contents that are left
pub record TurnIsPure (turn : Turn) : Type 0 where
  pub entry : EntryIsPure turn.entry
  pub next : ContentsArePure turn.next

pub record LowTurnIsPure (turn : LowTurn) : Type 0 where
  pub entry : EntryIsPure turn.entry
  pub next : ContentsArePure turn.next
  pub left : All IsContentPure turn.left

-- the contents of a sound configuration are pure
abbrev pub SoundIsPure : Type 0
SoundIsPure = (c : Configuration) → IsSound c → ContentsArePure c

-- and so are those that an observer sees of pure ones
abbrev pub ErasedIsPure : Type 0
ErasedIsPure = (observer : Label) (c : Configuration) → ContentsArePure c → ContentsArePure (erase observer c)

-- a turn
abbrev pub TurnKeepsPurity : Type 0
TurnKeepsPurity = (ticket : ℕ) (c : Configuration) (k : ℕ) (turn : Turn) → ContentsArePure c → step ticket c k ≡ Some turn → TurnIsPure turn

-- a turn of the erased calculus, where the released contents are pure
abbrev pub LowTurnKeepsPurity : Type 0
LowTurnKeepsPurity = (observer : Label) (ticket : ℕ) (c : Configuration) (k : ℕ) (contents : List Content) (turn : LowTurn)
    → ContentsArePure c → All IsContentPure contents → low observer ticket c k contents ≡ Some turn → LowTurnIsPure turn
