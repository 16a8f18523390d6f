use Rattle.std.proofs.Common.{sym}
use Rattle.lio_table.specs.Steps.{with_busy}
use Rattle.lio_table.proofs.AnswerLemmas.{itself-still, meets-here, some-busy, target-busy, target-inside, within-holders}
use Rattle.lio_table.proofs.EndLemmas.{one-busy, one-can_put, other-free, taken-in_turn, two-taken}
use Rattle.lio_table.proofs.table.Table.visit.Goals as goal

pub put-requires-clause-can_put : goal.put-requires-clause-can_put
put-requires-clause-can_put c = one-can_put c.requires.has.0 c.args.k c.args.holder c.args.seat.now.me c.requires.has.1

pub returns-then-n-k-clause-ok : goal.returns-then-n-k-clause-ok
returns-then-n-k-clause-ok c = λ before has.
    itself-still before c.args.k c.args.holder c.args.seat.now.me has c.put.new.seat.me c.args.n c.args.act c.if-n-k.true
    (meets-here before c.args.k c.args.holder c.args.seat.now.me has c.args.self.now c.args.script.now c.args.act c.args.n c.args.onward c.requires.turn.first c.requires.turn.script_is c.requires.plans) c.put.ensures.put

pub take-requires-clause-node : goal.take-requires-clause-node
take-requires-clause-node c =
    target-inside c.requires.has.0 c.args.k c.args.holder c.args.seat.now.me c.requires.has.1 c.args.self.now c.args.script.now c.args.act c.args.n c.args.onward c.requires.turn.first c.requires.turn.script_is c.requires.plans

pub take-requires-clause-not_held : goal.take-requires-clause-not_held
take-requires-clause-not_held c = other-free c.requires.has.0 c.args.k c.args.n c.args.holder c.args.seat.now.me c.requires.has.1 (λ e. c.if-n-k.false (sym e))

pub meet-requires-clause-turn : goal.meet-requires-clause-turn
meet-requires-clause-turn c = taken-in_turn c.args.self.now c.args.script.now c.args.k c.args.n c.in-Some.met c.args.seat.now.me c.take.new.seat.me c.requires.turn c.in-Some.ensures.taken

pub meet-requires-clause-target : goal.meet-requires-clause-target
meet-requires-clause-target c =
    target-inside c.requires.has.0 c.args.k c.args.holder c.args.seat.now.me c.requires.has.1 c.args.self.now c.args.script.now c.args.act c.args.n c.args.onward c.requires.turn.first c.requires.turn.script_is c.requires.plans

pub meet-requires-clause-has : goal.meet-requires-clause-has
meet-requires-clause-has c =
    let before = c.requires.has.0 in
    let has = c.requires.has.1 in
    let inside = target-inside before c.args.k c.args.holder c.args.seat.now.me has c.args.self.now c.args.script.now c.args.act c.args.n c.args.onward c.requires.turn.first c.requires.turn.script_is c.requires.plans in (
      before,
      two-taken before c.args.k c.args.n c.args.holder c.in-Some.met c.args.seat.now.me c.take.new.seat.me has (λ e. c.if-n-k.false (sym e))
          (within-holders before c.args.k c.args.n c.args.holder c.args.seat.now.me has c.args.self.now c.requires.turn.first inside) c.in-Some.ensures.taken,
    )

pub returns-in-Some-clause-ok : goal.returns-in-Some-clause-ok
returns-in-Some-clause-ok c = λ before has.
    let inside = target-inside before c.args.k c.args.holder c.args.seat.now.me has c.args.self.now c.args.script.now c.args.act c.args.n c.args.onward c.requires.turn.first c.requires.turn.script_is c.requires.plans in
    c.meet.ensures.ok before (two-taken before c.args.k c.args.n c.args.holder c.in-Some.met c.args.seat.now.me c.take.new.seat.me has (λ e. c.if-n-k.false (sym e))
    (within-holders before c.args.k c.args.n c.args.holder c.args.seat.now.me has c.args.self.now c.requires.turn.first inside) c.in-Some.ensures.taken)

pub returns-in-Some-clause-err : goal.returns-in-Some-clause-err
returns-in-Some-clause-err c = λ before has.
    let inside = target-inside before c.args.k c.args.holder c.args.seat.now.me has c.args.self.now c.args.script.now c.args.act c.args.n c.args.onward c.requires.turn.first c.requires.turn.script_is c.requires.plans in
    c.meet.ensures.err before (two-taken before c.args.k c.args.n c.args.holder c.in-Some.met c.args.seat.now.me c.take.new.seat.me has (λ e. c.if-n-k.false (sym e))
    (within-holders before c.args.k c.args.n c.args.holder c.args.seat.now.me has c.args.self.now c.requires.turn.first inside) c.in-Some.ensures.taken)

pub put-requires-in-None-clause-some : goal.put-requires-in-None-clause-some
put-requires-in-None-clause-some c = some-busy c.args.n c.args.seat.now.me c.take.new.seat.me c.requires.turn.left c.in-None.ensures.taken

pub put-requires-in-None-clause-can_put : goal.put-requires-in-None-clause-can_put
put-requires-in-None-clause-can_put c =
    let before = c.requires.has.0 in
    one-can_put (with_busy c.args.n before) c.args.k c.args.holder c.take.new.seat.me
    (one-busy before c.args.k c.args.n c.args.holder c.args.seat.now.me c.take.new.seat.me c.requires.has.1 c.in-None.ensures.taken)

pub returns-in-None-clause-ok : goal.returns-in-None-clause-ok
returns-in-None-clause-ok c = λ before has.
    target-busy before c.args.k c.args.holder c.args.seat.now.me has c.take.new.seat.me c.put-in-None.new.seat.me c.args.n c.args.act (λ e. c.if-n-k.false (sym e))
    (meets-here before c.args.k c.args.holder c.args.seat.now.me has c.args.self.now c.args.script.now c.args.act c.args.n c.args.onward c.requires.turn.first c.requires.turn.script_is c.requires.plans) c.in-None.ensures.taken c.put-in-None.ensures.put
