-- How many turns the tasks of a configuration have left in all (turns are this calculus's own; the calculus is that of LIO, ICFP 2012).
use Rattle.std.specs.Prelude.{ℕ, ◌≤◌, ◌^◌, Option, Some, None, sum_by}
use Rattle.lio_calculus.specs.Task.{TaskState}
use Rattle.lio_calculus.specs.Step.{Configuration}

-- the turns that a cell's task has left, if there is one
abbrev pub turns_of : Option TaskState → ℕ
turns_of None = 0
turns_of (Some task) = task.turns

-- the turns that all tasks of a configuration have left
abbrev pub turns_left : Configuration → ℕ
turns_left c = sum_by (λ cell. turns_of cell.task) c.cells

-- they add up to at most 2^40
abbrev pub TurnsAreFew : Configuration → Type 0
TurnsAreFew c = turns_left c ≤ 2 ^ 40
