-- What contracts see of a table and its seats.
use Rattle.std.specs.Prelude.{◌≡◌, List}
use Rattle.lio_syntax.specs.Statements.{Procedure}
use Rattle.lio_task.specs.declared.config.Config.{Config}
use Rattle.lio_table.specs.declared.view.Beginning.{Beginning}
use Rattle.lio_table.specs.declared.view.View.{View}
use Rattle.lio_table.specs.Views.{beginning_of}
use Rattle.lio_table.specs.Seats.{AreOut}
use Rattle.lio_table.specs.declared.seat.LioSeat.{LioSeat}
use Rattle.lio_table.specs.declared.table.Table.{Table}

-- what a table began with
abbrev pub first_of : Table → Beginning
first_of table = beginning_of table.nodes.shared.key

-- a configuration and a script, as what a table begins with
abbrev pub beginning_with : List Procedure → Config → Beginning
beginning_with script config = record { holders = config.holders.items; longest = config.longest; script = script }

-- what a seat knows
abbrev pub view_of : LioSeat → View
view_of seat = seat.seat.me.0

-- A seat is one of this table, and the slots that are out with it are those of its nodes.
pub record IsSeatOf (table : Table) (seat : LioSeat) : Type 0 where
  pub table_id : seat.seat.table_id ≡ table.nodes.shared.table_id
  pub first : (view_of seat).first ≡ first_of table
  pub out : AreOut (view_of seat).first (view_of seat).claimed seat.seat.me.1
