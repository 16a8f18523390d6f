use Rattle.std.proofs.Common.{◌≡◌, List, map, take}
use Rattle.lio_syntax.specs.Statements.{Procedure}
use Rattle.lio_calculus.specs.Erased.{erase_cell}
use Rattle.lio_task.specs.Configuration.{cell_of}
use Rattle.lio_erasure.specs.Low.{LeavesOutBlanks, low_cell_of}
use Rattle.lio_erasure.proofs.erased.erase_config.Given as goal

-- the cells so far are those of the holders, erased, and none stands for a cell that is left out
abbrev pub invariant-loop-holder : goal.invariant-loop-holder
invariant-loop-holder l = ((script : List Procedure) → map (low_cell_of script) l.low ≡ map (erase_cell l.observer) (map (cell_of script) (take l.holder-index l.holder-items))) × LeavesOutBlanks l.low
