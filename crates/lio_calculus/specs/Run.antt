-- Runs: the turns of tasks in order, and the run of the erased calculus (the concurrent calculus of LIO and its erasure, ICFP 2012).
use Rattle.std.specs.Prelude.{ℕ, ◌+◌, List, [], ◌∷◌, Option, Some, option_and_then}
use Rattle.std.specs.Option.{option_map}
use Rattle.lio_labels.specs.declared.label.Label.{Label}
use Rattle.lio_values.specs.declared.value.Content.{Content}
use Rattle.lio_values.specs.declared.entry.Entry.{Entry}
use Rattle.lio_calculus.specs.Step.{Configuration, step}
use Rattle.lio_calculus.specs.Erased.{low}

-- what a run gives: its journal, and its last configuration
pub record Ran : Type 0 where
  pub entries : List Entry
  pub last : Configuration

abbrev pub ran_after : Entry → Ran → Ran
ran_after entry ran = record { entries = entry ∷ ran.entries; last = ran.last }

-- the turns of these tasks in order, with tickets from a first one; none where a task can't take its turn
unfoldable pub run : ℕ → Configuration → List ℕ → Option Ran
run ticket c [] = Some (record { entries = []; last = c })
run ticket c (k ∷ ks) = option_and_then (λ turn. option_map (ran_after turn.entry) (run (ticket + 1) turn.next ks)) (step ticket c k)

-- what a run of the erased calculus gives: its entries, its last configuration, and the released contents that are left
pub record LowRan : Type 0 where
  pub entries : List Entry
  pub last : Configuration
  pub left : List Content

abbrev pub low_ran_after : Entry → LowRan → LowRan
low_ran_after entry ran = record { entries = entry ∷ ran.entries; last = ran.last; left = ran.left }

-- the erased turns of these tasks in order, with the released contents
unfoldable pub low_run : Label → ℕ → Configuration → List ℕ → List Content → Option LowRan
low_run observer ticket c [] contents = Some (record { entries = []; last = c; left = contents })
low_run observer ticket c (k ∷ ks) contents =
    option_and_then (λ turn. option_map (low_ran_after turn.entry) (low_run observer (ticket + 1) turn.next ks turn.left)) (low observer ticket c k contents)
