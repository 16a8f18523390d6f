use Rattle.std.proofs.Common.{◌≤◌, length}
use Rattle.lio_table.specs.Tables.{view_of}
use Rattle.lio_rows.specs.Tables.{IsOnlySeat}
use Rattle.lio_rows.proofs.tables.turns.Given as goal

-- the seat is the only one, and has drawn no more tickets than turns were tried
abbrev pub invariant-loop-k : goal.invariant-loop-k
invariant-loop-k l = record { seat : IsOnlySeat l.table l.seat; drawn : length (view_of l.seat).drawn ≤ l.k-index }
