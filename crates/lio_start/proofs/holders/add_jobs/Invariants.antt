use Rattle.std.proofs.Common.{◌≡◌, ◌++◌, map, drop}
use Rattle.lio_task.specs.Configuration.{cell_of}
use Rattle.lio_task.specs.Logs.{HaveNoLogs}
use Rattle.lio_start.specs.Start.{job_cells}
use Rattle.lio_start.specs.Making.{CanBeginAll}
use Rattle.lio_start.proofs.holders.add_jobs.Given as goal

-- the tasks that are left can begin, and the cells so far stand before those of their jobs
abbrev pub invariant-loop-entry : goal.invariant-loop-entry
invariant-loop-entry l = record {
  can : CanBeginAll l.script l.inputs l.next (drop l.entry-index l.tasks);
  adds : map (cell_of l.script) l.holders.items ++ job_cells l.script l.inputs l.next (drop l.entry-index l.tasks)
      ≡ map (cell_of l.script) l.initial.holders.items ++ job_cells l.script l.inputs l.first l.tasks;
  fresh : HaveNoLogs l.initial.holders.items → HaveNoLogs l.holders.items;
}
