use Rattle.std.proofs.Common.{List}
use Rattle.std.specs.Prelude.{replicate}
use Rattle.lio_syntax.specs.Statements.{Procedure}
use Rattle.lio_calculus.specs.Step.{blank}
use Rattle.lio_task.specs.Logs.{HaveNoLogs}
use Rattle.lio_start.specs.Making.{Adds}
use Rattle.lio_start.proofs.holders.add_free.Given as goal

-- so many numbers were put behind the holders
abbrev pub invariant-loop-n : goal.invariant-loop-n
invariant-loop-n l = record {
  adds : (script : List Procedure) → Adds script l.initial.holders.items l.holders.items (replicate l._n blank);
  fresh : HaveNoLogs l.initial.holders.items → HaveNoLogs l.holders.items;
}
