use Rattle.std.proofs.Common.{List, map, take}
use Rattle.lio_syntax.specs.Statements.{Procedure}
use Rattle.lio_start.specs.Start.{channel_cell}
use Rattle.lio_task.specs.Logs.{HaveNoLogs}
use Rattle.lio_start.specs.Making.{Adds}
use Rattle.lio_start.proofs.holders.add_channels.Given as goal

-- the channels so far were put behind the holders
abbrev pub invariant-loop-entry : goal.invariant-loop-entry
invariant-loop-entry l = record {
  adds : (script : List Procedure) → Adds script l.initial.holders.items l.holders.items (map channel_cell (take l.entry-index l.channels));
  fresh : HaveNoLogs l.initial.holders.items → HaveNoLogs l.holders.items;
}
