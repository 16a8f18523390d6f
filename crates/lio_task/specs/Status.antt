-- Where a task stands: at an access, or elsewhere (blocking variables and the results of tasks; LIO, ICFP 2012).
use Rattle.std.specs.Prelude.{List, ◌∷◌, Option, Some, None, if◌then◌else◌}
use Rattle.lio_values.specs.declared.value.Handle.{Handle}
use Rattle.lio_syntax_lines.specs.declared.line.Simple.{Simple}
use Rattle.lio_syntax_lines.specs.declared.line.Simple.TheVariants.{Read, Take, Put, Wait}
use Rattle.lio_cells.specs.declared.wish.Wish.{Wish}
use Rattle.lio_cells.specs.declared.wish.Wish.TheVariants as wish
use Rattle.lio_syntax.specs.Environment.{Environment}
use Rattle.lio_syntax.specs.Items.{Item, Access}
use Rattle.lio_calculus.specs.Operands.{seen_as, reference_of, variable_of, result_of}
use Rattle.lio_calculus.specs.Task.{TaskState}
use Rattle.lio_task.specs.declared.status.Status.{Status}
use Rattle.lio_task.specs.declared.status.Status.TheVariants as status

-- at the access of what a handle names
abbrev pub reading : Option Handle → Status
reading (Some handle) = status.Reading handle.number
reading None = status.Running

abbrev pub waiting : Option Handle → Wish → Status
waiting (Some handle) wish = status.Access handle.number wish
waiting None wish = status.Running

-- at the access of a statement
abbrev pub status_at : Environment → Simple → Status
status_at environment (Read x r) = reading (seen_as reference_of environment r)
status_at environment (Take x v) = waiting (seen_as variable_of environment v) wish.Take
status_at environment (Put v a) = waiting (seen_as variable_of environment v) wish.Put
status_at environment (Wait x r) = waiting (seen_as result_of environment r) wish.Wait
status_at environment simple = status.Running

-- by what comes first
abbrev pub status_by : Environment → List Item → Status
status_by environment (Access simple ∷ items) = status_at environment simple
status_by environment items = status.Running

-- where a task stands: it has ended, or stands at the access that comes first, or runs
abbrev pub status_of : TaskState → Status
status_of task = if task.ended then status.Ended else status_by task.environment task.items
