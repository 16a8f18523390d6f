-- What the code's holders and configurations stand for.
use Rattle.std.specs.Prelude.{ℕ, List, map, Option, option_and_then, slice_get}
use Rattle.std.specs.Option.{option_map}
use Rattle.lio_syntax.specs.Statements.{Procedure}
use Rattle.lio_calculus.specs.Step.{Cell, Configuration}
use Rattle.lio_task_turns.specs.StateOf.{program_of}
use Rattle.lio_task.specs.declared.task.Task.{Task}
use Rattle.lio_task.specs.declared.config.Holder.{Holder}
use Rattle.lio_task.specs.declared.config.Config.{Config}
use Rattle.lio_task.specs.StateOf.{state_in}

-- the cell that a holder stands for
abbrev pub cell_of : List Procedure → Holder → Cell
cell_of script holder = record { state = holder.node.state; task = option_map (state_in script) holder.task }

-- the configuration that the holders stand for, with a script
abbrev pub configuration_of : List Procedure → Config → Configuration
configuration_of script config = record { program = program_of script config.longest; cells = map (cell_of script) config.holders.items }

-- the task with a number
abbrev pub task_in : Config → ℕ → Option Task
task_in config k = option_and_then (λ holder. holder.task) (slice_get config.holders.items k)
