-- Rounds of the erased calculus: who takes the turns that an observer sees, as a function of what it sees (round-robin over the erasure of the concurrent
-- calculus of LIO, ICFP 2012).
use Rattle.std.specs.Prelude.{ℕ, List, Option}
use Rattle.std.specs.Option.{option_map}
use Rattle.lio_labels.specs.declared.label.Label.{Label}
use Rattle.lio_values.specs.declared.value.Content.{Content}
use Rattle.lio_calculus.specs.Step.{Configuration}
use Rattle.lio_calculus.specs.Erased.{LowTurn, low}
use Rattle.lio_calculus.specs.Run.{LowRan, low_run}
use Rattle.lio_calculus_runs.specs.Round.{Taken, rounds_within}
use Rattle.lio_calculus_runs.specs.Rounds.{measure, tasks}

-- a configuration of the erased calculus, and the released contents that are left
pub record LowState : Type 0 where
  pub configuration : Configuration
  pub contents : List Content

-- an erased turn as rounds see it; who moves doesn't depend on the ticket
abbrev pub low_taken : LowTurn → Taken LowState
low_taken turn = record { entry = turn.entry; next = record { configuration = turn.next; contents = turn.left } }

abbrev pub low_stepped : Label → LowState → ℕ → Option (Taken LowState)
low_stepped observer s k = option_map low_taken (low observer 0 s.configuration k s.contents)

-- who takes the turns, in order, in rounds of the erased calculus from an order until one moves nothing; the measure bounds their number
abbrev pub low_rounds_from : Label → List ℕ → LowState → List ℕ
low_rounds_from observer order s = rounds_within (low_stepped observer) (measure s.configuration) order s

-- the rounds of the erased calculus: over the tasks that stand in its configuration, by number, and who is born later
abbrev pub low_rounds : Label → Configuration → List Content → List ℕ
low_rounds observer c contents = low_rounds_from observer (tasks c) (record { configuration = c; contents = contents })

-- the run of the erased calculus by its rounds
abbrev pub low_run_by_rounds : Label → Configuration → List Content → Option LowRan
low_run_by_rounds observer c contents = low_run observer 0 c (low_rounds observer c contents) contents
