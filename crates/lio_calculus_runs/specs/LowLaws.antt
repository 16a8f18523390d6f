-- The laws of the erased calculus's rounds: in rounds an observer's view, its order with it, is a function of what the observer sees (the noninterference of the
-- concurrent calculus of LIO, ICFP 2012, under a round-robin scheduler).
use Rattle.std.specs.Prelude.{◌≡◌, ℕ, ◌<◌, List, [], Some, None}
use Rattle.lio_labels.specs.declared.label.Label.{Label}
use Rattle.lio_values.specs.declared.value.Content.{Content}
use Rattle.lio_calculus.specs.Step.{Configuration}
use Rattle.lio_calculus.specs.Erased.{erase, LowTurn, low}
use Rattle.lio_events.specs.Views.{view, who, releases}
use Rattle.lio_calculus.specs.Run.{Ran, run, LowRan}
use Rattle.lio_calculus.specs.Sound.{IsSound}
use Rattle.lio_calculus_runs.specs.Round.{round, order_after, followed}
use Rattle.lio_calculus_runs.specs.Rounds.{IsComplete, measure, rounds}
use Rattle.lio_calculus_runs.specs.LowRounds.{LowState, low_stepped, low_rounds_from, low_rounds, low_run_by_rounds}

-- where no task can take a turn, none can take one in the erased calculus
abbrev pub CompleteIsCompleteBelow : Type 0
CompleteIsCompleteBelow = (observer : Label) (c : Configuration) → IsSound c → IsComplete c → IsComplete (erase observer c)

-- an erased turn with one ticket is an erased turn with every other: the ticket stands in its entry alone, so who can move doesn't depend on it
abbrev pub LowTicketStandsInTheEntry : Type 0
LowTicketStandsInTheEntry = (observer : Label) (one two : ℕ) (c : Configuration) (k : ℕ) (contents : List Content) (turn : LowTurn) → low observer one c k contents ≡ Some turn
    → low observer two c k contents ≡ Some (record { entry = record turn.entry { ticket = two }; next = turn.next; left = turn.left })

-- each turn of the erased calculus lowers the measure, in every configuration
abbrev pub LowTurnLowersMeasure : Type 0
LowTurnLowersMeasure = (observer : Label) (ticket : ℕ) (c : Configuration) (k : ℕ) (contents : List Content) (turn : LowTurn) → low observer ticket c k contents ≡ Some turn → measure turn.next < measure c

-- rounds of the erased calculus are a round and, if it moved a task, rounds from the order and the state after it; no bound is seen
abbrev pub LowRoundsGoOn : Type 0
LowRoundsGoOn = (observer : Label) (order : List ℕ) (s : LowState)
    → low_rounds_from observer order s ≡ followed (round (low_stepped observer) order s).moved (low_rounds_from observer (order_after order (round (low_stepped observer) order s)) (round (low_stepped observer) order s).after)

-- The rounds of the erased calculus run to the end: each whom they name can take its erased turn at its place, and then no task can take one with the contents that are left.
pub record LowRunsToTheEnd (observer : Label) (c : Configuration) (contents : List Content) : Type 0 where
  pub ran : LowRan
  pub defined : low_run_by_rounds observer c contents ≡ Some ran
  pub still : (k : ℕ) → low observer 0 ran.last k ran.left ≡ None

-- so an observer can run them from every configuration and with any contents, be they invented
abbrev pub LowRoundsRunToTheEnd : Type 0
LowRoundsRunToTheEnd = (observer : Label) (c : Configuration) (contents : List Content) → LowRunsToTheEnd observer c contents

-- A run by rounds, seen by an observer, is the run by rounds of the erased calculus from what the observer sees of the configuration and what the journal releases to it.
pub record RoundsSeenAs (observer : Label) (c : Configuration) (ran : Ran) : Type 0 where
  -- who takes the turns that the observer sees, in their order
  pub order : low_rounds observer (erase observer c) (releases observer ran.entries) ≡ who observer ran.entries
  -- so these give the view and what the observer sees of the last configuration, and no released content is left
  pub erased : low_run_by_rounds observer (erase observer c) (releases observer ran.entries)
      ≡ Some (record { entries = view observer 0 ran.entries; last = erase observer ran.last; left = [] })
  -- and there no task can take a turn in the erased calculus
  pub complete : IsComplete (erase observer ran.last)

abbrev pub RoundsAreErasedRounds : Type 0
RoundsAreErasedRounds = (observer : Label) (c : Configuration) (ran : Ran) → IsSound c → run 0 c (rounds c) ≡ Some ran → RoundsSeenAs observer c ran

-- Two runs look alike to an observer.
pub record LookAlike (observer : Label) (one two : Ran) : Type 0 where
  pub views : view observer 0 one.entries ≡ view observer 0 two.entries
  pub last : erase observer one.last ≡ erase observer two.last

-- two runs by rounds from configurations that look alike, with the same contents released, look alike: the order of what is seen tells nothing of what isn't
abbrev pub RoundsLookAlike : Type 0
RoundsLookAlike = (observer : Label) (c d : Configuration) (one two : Ran) → IsSound c → IsSound d → run 0 c (rounds c) ≡ Some one → run 0 d (rounds d) ≡ Some two
    → erase observer c ≡ erase observer d → releases observer one.entries ≡ releases observer two.entries → LookAlike observer one two
