use Rattle.std.proofs.Common.{◌≡◌, ◌++◌, drop, take, All}
use Rattle.lio_cells.specs.Node.{IsKept}
use Rattle.lio_task.specs.declared.config.Holder.{Holder}
use Rattle.lio_rounds.specs.Acted.{acted_from, lent}
use Rattle.lio_rounds.proofs.logs.acted.Given as goal

-- the entries so far, and those of the holders that are left; the nodes so far keep what each node keeps
abbrev pub invariant-loop-n : goal.invariant-loop-n
invariant-loop-n l = record {
  entries : lent l.entries.items ++ acted_from l.n (drop l.n l.holder-items) ≡ acted_from 0 l.holder-items;
  kept : All (λ (holder : Holder). IsKept holder.node) (take l.n l.holder-items);
}
