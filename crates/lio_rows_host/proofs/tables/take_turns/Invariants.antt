use Rattle.std.proofs.Common.{◌≡◌, []}
use Rattle.lio_table.specs.Tables.{IsSeatOf, view_of}
use Rattle.lio_table.specs.Views.{rights}
use Rattle.lio_rows_host.proofs.tables.take_turns.Given as goal

-- the seat holds no node, and has all its tickets, drawn or left
abbrev pub invariant-loop : goal.invariant-loop
invariant-loop g l = record {
  seat : IsSeatOf l.table l.seat;
  bare : (view_of l.seat).claimed ≡ [];
  rights : rights (view_of l.seat) ≡ rights (view_of l.initial.seat);
}

abbrev pub invariant-loop-k : goal.invariant-loop-k
invariant-loop-k g l = record {
  seat : IsSeatOf l.table l.seat;
  bare : (view_of l.seat).claimed ≡ [];
  rights : rights (view_of l.seat) ≡ rights (view_of l.initial.seat);
}
