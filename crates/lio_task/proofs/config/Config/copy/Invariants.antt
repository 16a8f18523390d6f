use Rattle.std.proofs.Common.{◌≡◌, List, map, take}
use Rattle.lio_syntax.specs.Statements.{Procedure}
use Rattle.lio_cells.specs.Node.{at_rest}
use Rattle.lio_task.specs.Configuration.{cell_of}
use Rattle.lio_task.proofs.config.Config.copy.Given as goal

-- the holders so far are copied
abbrev pub invariant-loop-holder : goal.invariant-loop-holder
invariant-loop-holder l = record {
  cells : (script : List Procedure) → map (cell_of script) l.holders.items ≡ map (cell_of script) (take l.holder-index l.holder-items);
  nodes : map (λ holder. holder.node) l.holders.items ≡ map at_rest (map (λ holder. holder.node) (take l.holder-index l.holder-items));
}
