-- The seats and passes of workers.
use Rattle.std.specs.Prelude.{◌≡◌, ℕ, ◌+◌, ◌*◌, ◌^◌, List, [], All, length}
use Rattle.lio_calculus.specs.Journals.{HaveSameEntries}
use Rattle.lio_runq.specs.declared.rule.Bound.{Ghosts}
use Rattle.lio_runq.specs.Passes.{IsPassOf}
use Rattle.lio_table.specs.declared.seat.LioSeat.{LioSeat}
use Rattle.lio_table.specs.declared.table.Table.{Table}
use Rattle.lio_table.specs.Tables.{IsSeatOf, view_of}
use Rattle.lio_table.specs.Views.{rights}
use Rattle.lio_workers.specs.declared.shared.Shared.{Shared}
use Rattle.lio_workers.specs.declared.worker.Worker.{Worker}

-- A seat is one of this table, holds no node, and has so many tickets, drawn or left.
pub record HasRights (table : Table) (tickets : ℕ) (seat : LioSeat) : Type 0 where
  pub is_seat : IsSeatOf table seat
  pub bare : (view_of seat).claimed ≡ []
  pub rights : rights (view_of seat) ≡ tickets

module _ {X : Type 0} {bound : Ghosts X} where
  -- A worker has a seat at the table, with 2^40 tickets, drawn or left, the entries of the turns that it took, and a pass of the queue, whose numbers are
  -- below the table's size.
  pub record IsWorkerAt (shared : Shared X) (worker : Worker X bound) : Type 0 where
    pub seated : HasRights shared.table (2 ^ 40) worker.seat
    pub entries : HaveSameEntries worker.entries.items (view_of worker.seat).drawn
    pub pass : IsPassOf shared.numbers.numbers worker.pass.seat
    pub below : bound.bound ≡ shared.table.len

  -- each is a worker at this table and queue
  abbrev pub AreWorkersAt : Shared X → List (Worker X bound) → Type 0
  AreWorkersAt shared workers = All (IsWorkerAt shared) workers

  -- a seat has all tickets but those of the workers
  abbrev pub HasTheRest : Table → List (Worker X bound) → LioSeat → Type 0
  HasTheRest table workers seat = (rest : ℕ) × (rest + length workers * 2 ^ 40 ≡ 2 ^ 62) × HasRights table rest seat
