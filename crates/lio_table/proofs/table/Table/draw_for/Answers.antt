use Rattle.std.proofs.Common.{arith, subst, sym}
use Rattle.lio_values.specs.declared.entry.Entry.{Entry}
use Rattle.lio_table.specs.Views.{beginning_of}
use Rattle.lio_table.specs.Steps.{CanRecord, DrawsTicket}
use Rattle.lio_table.proofs.TicketKept.{ticket-kept}
use Rattle.lio_table.proofs.table.Table.draw_for.Goals as goal

pub fetch_add-requires : goal.fetch_add-requires
fetch_add-requires g c =
    let shared = c.args.self.now.nodes.shared in
    let words = c.args.self.now.words in (
      c.requires.table,
      omega (arith, words),
      ticket-kept (beginning_of shared.key) shared.table_id.slots c.args.seat.now.id c.args.seat.now.me g.R.Recorded.entry
          (subst (λ (entry : Entry). CanRecord entry c.args.seat.now.me.0) c.requires.entry c.requires.can_record),
    )

pub returns-clause-drawn : goal.returns-clause-drawn
returns-clause-drawn g c =
    subst (λ (entry : Entry). DrawsTicket entry c.args.seat.now.me c.fetch_add.result c.fetch_add.new.seat.me) (sym c.requires.entry) c.fetch_add.ensures.2
