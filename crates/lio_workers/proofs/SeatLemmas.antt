-- The seats of workers, joined into the first one.
use Rattle.std.proofs.Common.{◌≡◌, ◌∙◌, ap, arith, ℕ, ◌+◌, length-append}
use Rattle.lio_table.specs.declared.seat.LioSeat.{LioSeat}
use Rattle.lio_table.specs.declared.table.Table.{Table}
use Rattle.lio_table.specs.Tables.{IsSeatOf, view_of}
use Rattle.lio_table.specs.declared.view.View.{View}
use Rattle.lio_table.specs.Cuts.{joined}
use Rattle.lio_table.specs.Views.{rights}
use Rattle.lio_workers.specs.Seated.{HasRights}

-- a seat that has taken in another has the tickets of both
pub joined-rights : (table : Table) (tickets more : ℕ) (first other new : LioSeat) → HasRights table tickets first → HasRights table more other → IsSeatOf table new → view_of new ≡ joined (view_of first) (view_of other)
    → HasRights table (tickets + more) new
joined-rights table tickets more first other new has its seat is =
    let both = length-append (view_of other).drawn (view_of first).drawn in
    let one = has.rights in
    let two = its.rights in
    let all : rights (view_of new) ≡ rights (joined (view_of first) (view_of other)) = ap rights is in
    record {
      is_seat = seat;
      bare = ap (λ (v : View). v.claimed) is ∙ has.bare;
      rights = omega (arith, both, one, two, all);
    }
