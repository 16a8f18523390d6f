-- The laws of schedules: each turn lowers the measure, and rounds run to the end.
use Rattle.std.specs.Prelude.{◌≡◌, ℕ, ◌+◌, ◌<◌, ◌≤◌, ◌==◌, true, List, ◌++◌, length, All, Some, is_some}
use Rattle.std.specs.List.{Contains, IsDistinct}
use Rattle.lio_calculus.specs.Task.{TaskState}
use Rattle.lio_calculus.specs.Step.{Configuration, Turn, cell_at, step}
use Rattle.lio_calculus.specs.Run.{Ran, run}
use Rattle.lio_calculus.specs.Sound.{IsTaskOf, IsSound}
use Rattle.lio_calculus_runs.specs.Round.{round, joined, IsFrom, order_after, followed}
use Rattle.lio_calculus_runs.specs.Rounds.{IsComplete, measure, tasks, stepped, rounds_from, rounds}

-- a turn with one ticket is a turn with every other: the ticket stands in its entry alone, so who can move doesn't depend on it
abbrev pub TicketStandsInTheEntry : Type 0
TicketStandsInTheEntry = (one two : ℕ) (c : Configuration) (k : ℕ) (turn : Turn) → step one c k ≡ Some turn → step two c k ≡ Some (record { entry = record turn.entry { ticket = two }; next = turn.next })

-- each turn lowers the measure, in every configuration; so every run is finite
abbrev pub TurnLowersMeasure : Type 0
TurnLowersMeasure = (ticket : ℕ) (c : Configuration) (k : ℕ) (turn : Turn) → step ticket c k ≡ Some turn → measure turn.next < measure c

-- so a run has no more turns than the measure falls
abbrev pub RunIsBounded : Type 0
RunIsBounded = (ticket : ℕ) (c : Configuration) (actors : List ℕ) (ran : Ran) → run ticket c actors ≡ Some ran → measure ran.last + length actors ≤ measure c

-- these actors take their turns to the end: each can take its turn at its place, then no task can take one, and the last configuration is sound where the first one was
pub record RunsToTheEnd (c : Configuration) (actors : List ℕ) : Type 0 where
  pub ran : Ran
  pub defined : run 0 c actors ≡ Some ran
  pub complete : IsComplete ran.last
  pub sound : IsSound c → IsSound ran.last

-- rounds run to the end
abbrev pub RoundsRunToTheEnd : Type 0
RoundsRunToTheEnd = (c : Configuration) → RunsToTheEnd c (rounds c)

-- a round over an order in two parts is a round over the first and then one over the second
abbrev pub RoundOfTwoParts : Type 0
RoundOfTwoParts = (c : Configuration) (one two : List ℕ) → round stepped (one ++ two) c ≡ joined (round stepped one c) (round stepped two (round stepped one c).after)

-- who moves in a round is some of its order, in its order
abbrev pub RoundMovesInOrder : Type 0
RoundMovesInOrder = (c : Configuration) (order : List ℕ) → IsFrom order (round stepped order c).moved

-- rounds are a round and, if it moved a task, rounds from the order and the configuration after it; no bound is seen
abbrev pub RoundsGoOn : Type 0
RoundsGoOn = (order : List ℕ) (c : Configuration) → rounds_from order c ≡ followed (round stepped order c).moved (rounds_from (order_after order (round stepped order c)) (round stepped order c).after)

-- an order lists the tasks of a configuration, each once, and nothing else
pub record IsOrderOf (c : Configuration) (order : List ℕ) : Type 0 where
  pub all : (k : ℕ) (task : TaskState) → IsTaskOf c k task → Contains order k
  pub tasks_alone : All (λ k. is_some (cell_at c k).task ≡ true) order
  pub once : IsDistinct (λ j k. j == k) order

-- the tasks by number are an order, and a round with who was born in it gives the order of the next one
abbrev pub TasksAreAnOrder : Type 0
TasksAreAnOrder = (c : Configuration) → IsOrderOf c (tasks c)

abbrev pub RoundKeepsTheOrder : Type 0
RoundKeepsTheOrder = (c : Configuration) (order : List ℕ) → IsSound c → IsOrderOf c order → IsOrderOf (round stepped order c).after (order_after order (round stepped order c))
