-- When a worker ends.
use Rattle.std.specs.Prelude.{Bool, ◌||◌, nat_le}
use Rattle.lio_runq.specs.declared.rule.Bound.{Ghosts}
use Rattle.lio_table.specs.Tables.{view_of}
use Rattle.lio_workers.specs.declared.worker.Worker.{Worker}

module _ {X : Type 0} {bound : Ghosts X} where
  -- it was refused memory, has looked for a number a thousand times in a row in vain, or has one ticket left
  abbrev pub has_to_end : Worker X bound → Bool
  has_to_end worker = worker.refused || nat_le 1000 worker.looks || nat_le (view_of worker.seat).left 1
