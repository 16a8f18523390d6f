use Rattle.std.proofs.Common.{◌∙◌, ap, subst, sym, ◌<◌, length}
use Rattle.lio_table.specs.declared.view.Beginning.{Beginning}
use Rattle.lio_table.specs.declared.view.View.{View}
use Rattle.lio_table.specs.Views.{rights}
use Rattle.lio_table.proofs.SeatLemmas.{numbers-more, out-more}
use Rattle.lio_table.proofs.table.Table.claim.Goals as goal

pub invariant_of-seat : goal.invariant_of-seat
invariant_of-seat c =
    let seat = c.args.seat.now in
    let takes = c.if-claim_node.ensures.claimed in
    record {
      counted = seat.counted ∙ sym (ap (λ (v : View). v.left) takes.view);
      used = subst (λ m. 0 < m) (sym (ap rights takes.view)) seat.used;
      numbers = numbers-more c.args.n seat.last seat.other seat.seat.me c.claim_node.new.seat.me c.requires.few seat.numbers c.requires.not_held takes;
    }

pub returns-then-claim_node-clause-seat : goal.returns-then-claim_node-clause-seat
returns-then-claim_node-clause-seat c =
    let seat = c.args.seat.now in
    let takes = c.if-claim_node.ensures.claimed in
    record {
      table_id = c.if-claim_node.ensures.table ∙ c.requires.seat.table_id;
      first = ap (λ (v : View). v.first) takes.view ∙ c.requires.seat.first;
      out = out-more seat.seat.me c.claim_node.new.seat.me c.args.n c.requires.seat.out takes
          (subst (λ l. c.args.n < l) (sym (ap (λ (f : Beginning). length f.holders) c.requires.seat.first ∙ c.args.self.now.holders)) c.requires.node);
    }
