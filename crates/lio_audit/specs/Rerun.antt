-- What an observer computes of a run by rounds, of which it is told what was released (the erased calculus under a round-robin scheduler; LIO, ICFP 2012).
use Rattle.std.specs.Prelude.{◌≡◌, ℕ, List, [], ◌∷◌, ◌++◌, All, Some}
use Rattle.lio_labels.specs.declared.label.Label.{Label}
use Rattle.lio_values.specs.declared.value.Content.{Content}
use Rattle.lio_values.specs.declared.entry.Entry.{Entry}
use Rattle.lio_values.specs.Named.{IsContentNamed}
use Rattle.lio_events.specs.Printable.{IsPrintable}
use Rattle.lio_calculus.specs.Run.{LowRan, low_run}
use Rattle.lio_calculus.specs.Step.{Configuration}
use Rattle.lio_calculus_runs.specs.Configuration.{NamesOnly}
use Rattle.lio_calculus_runs.specs.LowRounds.{low_rounds, low_run_by_rounds}
use Rattle.lio_erasure.specs.Turn.{LacksRelease}
use Rattle.lio_audit.specs.declared.view_fault.RerunFault.{RerunFault}
use Rattle.lio_audit.specs.declared.view_fault.RerunFault.TheVariants.{NoRelease, NoMemory}

-- The erased rounds with these released contents give these entries, and leave these contents.
pub record AreRoundsOf (observer : Label) (c : Configuration) (contents : List Content) (entries : List Entry) (left : List Content) : Type 0 where
  pub last : Configuration
  pub is_run : low_run_by_rounds observer c contents ≡ Some (record { entries = entries; last = last; left = left })
  -- and no task lacked a content: whatever further ones there were, the same tasks would take their turns
  pub enough : (more : List Content) → low_rounds observer c (contents ++ more) ≡ low_rounds observer c contents

-- entries can be printed over all names among which the principals in the configuration and in the contents have theirs
abbrev pub CanBePrinted : Configuration → List Content → List Entry → Type 0
CanBePrinted c contents entries = (names : List (List ℕ)) → NamesOnly names c → All (IsContentNamed names) contents → All (IsPrintable names) entries

-- In the erased rounds with these released contents a task's turn needs a content, and none is left.
pub record LacksInRounds (observer : Label) (c : Configuration) (contents : List Content) (k : ℕ) : Type 0 where
  -- the turns that were taken before
  pub before : List ℕ
  pub ran : LowRan
  pub is_run : low_run observer 0 c before contents ≡ Some ran
  -- the task can take its turn then, but for the content
  pub lacks : LacksRelease observer ran.last k ran.left
  -- the rounds begin with these turns, whatever further contents there were
  pub begins : (more : List Content) → (later : List ℕ) × (low_rounds observer c (contents ++ more) ≡ before ++ later)
  -- and with one content more, whichever it is, the task would take the next turn of the rounds
  pub next : (content : Content) → (later : List ℕ) × (low_rounds observer c (contents ++ content ∷ []) ≡ before ++ k ∷ later)

-- why the rounds weren't computed to their end
abbrev pub RerunSays : Label → Configuration → List Content → RerunFault → Type 0
RerunSays observer c contents (NoRelease k) = LacksInRounds observer c contents k
RerunSays observer c contents NoMemory = Unit {0}
