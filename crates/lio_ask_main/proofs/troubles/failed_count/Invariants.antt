use Rattle.std.proofs.Common.{◌≡◌, ◌≤◌, List, take}
use Rattle.std.specs.List.{count_by}
use Rattle.lio_syntax.specs.Statements.{Procedure}
use Rattle.lio_task.specs.Configuration.{cell_of}
use Rattle.lio_ask_main.specs.Troubles.{has_failed}
use Rattle.lio_ask_main.proofs.troubles.failed_count.Given as goal

-- those of the holders so far are counted
abbrev pub invariant-loop-holder : goal.invariant-loop-holder
invariant-loop-holder l = record {
  count : (script : List Procedure) → l.count ≡ count_by (λ holder. has_failed (cell_of script holder)) (take l.holder-index l.config.holders.items);
  most : l.count ≤ l.holder-index;
}
