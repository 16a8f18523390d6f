-- Tables of nodes with one seat.
use Rattle.std.specs.Prelude.{◌≡◌, ◌^◌, []}
use Rattle.lio_start.specs.Job.{JobParts, first_of as start_of}
use Rattle.lio_table.specs.declared.seat.LioSeat.{LioSeat}
use Rattle.lio_table.specs.declared.table.Table.{Table}
use Rattle.lio_table.specs.Tables.{IsSeatOf, first_of, view_of}
use Rattle.lio_table.specs.Views.{configuration_from, rights}

-- A table began with the first configuration of a job.
pub record Begins (job : JobParts) (table : Table) : Type 0 where
  pub script : (first_of table).script ≡ job.script
  pub start : configuration_from (first_of table) ≡ start_of job

-- A seat of a table holds no node, and is its only one: it has all tickets, drawn or left.
pub record IsOnlySeat (table : Table) (seat : LioSeat) : Type 0 where
  pub is_seat : IsSeatOf table seat
  pub bare : (view_of seat).claimed ≡ []
  pub rights : rights (view_of seat) ≡ 2 ^ 62
