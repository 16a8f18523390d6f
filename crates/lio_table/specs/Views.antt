-- What a seat's view says of the nodes that it holds, and of the tickets.
use Rattle.std.specs.Prelude.{◌≡◌, ℕ, ◌+◌, ◌^◌, List, [], map, length, Contains}
use Rattle.lio_values.specs.declared.entry.Entry.{Entry}
use Rattle.lio_calculus.specs.Step.{Cell, Configuration, cell_at}
use Rattle.lio_calculus.specs.Sound.{IsSound}
use Rattle.lio_calculus.specs.Logs.{fold}
use Rattle.lio_task_turns.specs.StateOf.{program_of}
use Rattle.lio_task.specs.declared.config.Holder.{Holder}
use Rattle.lio_task.specs.Configuration.{cell_of}
use Rattle.lio_table.specs.declared.origin.Origin.{Origin}
use Rattle.lio_table.specs.declared.view.Beginning.{Beginning}
use Rattle.lio_table.specs.declared.view.Claimed.{Claimed}
use Rattle.lio_table.specs.declared.view.View.{View}

-- what a table began with, as views have it
abbrev pub beginning_of : Origin → Beginning
beginning_of origin = record {
  holders = origin.config.value.holders.items;
  longest = origin.config.value.longest;
  script = origin.script.value;
}

-- the configuration that nodes stand for, with a script
unfoldable pub configuration_from : Beginning → Configuration
configuration_from first = record { program = program_of first.script first.longest; cells = map (cell_of first.script) first.holders }

-- what a log makes of the cell with which a table began node n
abbrev pub cell_after : Beginning → ℕ → List Entry → Cell
cell_after first n log = fold (configuration_from first).program n (cell_at (configuration_from first) n) log

-- A holder has a log, and stands for what this log makes of node n's first cell.
pub record HasLog (first : Beginning) (n : ℕ) (entries : List Entry) (holder : Holder) : Type 0 where
  pub log : holder.node.log ≡ entries
  pub cell : cell_of first.script holder ≡ cell_after first n entries

-- a seat holds node n
pub record HoldsNode (view : View) (n : ℕ) : Type 0 where
  pub node : Claimed
  pub has : Contains view.claimed node
  pub number : node.number ≡ n

-- The nodes that a seat holds are cells of a sound configuration of the table: each is what its log makes of it.
pub record StandIn (view : View) (c : Configuration) : Type 0 where
  pub program : c.program ≡ program_of view.first.script view.first.longest
  pub size : length c.cells ≡ length view.first.holders
  pub sound : IsSound c
  pub cells : (node : Claimed) → Contains view.claimed node → cell_at c node.number ≡ cell_after view.first node.number node.log

-- the tickets that a seat has drawn or may draw
abbrev pub rights : View → ℕ
rights view = length view.drawn + view.left

-- a seat that holds nothing and may draw this many tickets, after so many splits and joins
abbrev pub with_tickets : Beginning → ℕ → ℕ → View
with_tickets first left cuts = record {
  first = first;
  claimed = [];
  drawn = [];
  left = left;
  given = [];
  taken = 0;
  busy = 0;
  noted = 0;
  cuts = cuts;
}

-- the first seat of a table, which has all tickets
abbrev pub with_all_tickets : Beginning → View
with_all_tickets first = with_tickets first (2 ^ 62) 0
