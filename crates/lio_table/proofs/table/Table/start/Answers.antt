use Rattle.lio_table.proofs.AnswerLemmas.{free-seat, start-busy}
use Rattle.lio_table.proofs.EndLemmas.{one-taken, taken-in_turn}
use Rattle.lio_table.proofs.table.Table.start.Goals as goal

pub take-requires-clause-not_held : goal.take-requires-clause-not_held
take-requires-clause-not_held c = free-seat c.args.k c.args.seat.now.me c.requires.bare

pub go_on-requires-clause-turn : goal.go_on-requires-clause-turn
go_on-requires-clause-turn c = taken-in_turn c.args.self.now c.args.script.now c.args.k c.args.k c.in-Some.holder c.args.seat.now.me c.take.new.seat.me c.requires.turn c.in-Some.ensures.taken

pub go_on-requires-clause-has : goal.go_on-requires-clause-has
go_on-requires-clause-has c =
    (c.args.seat.now.me.0, one-taken c.args.k c.in-Some.holder c.args.seat.now.me c.take.new.seat.me c.requires.bare c.requires.slots c.in-Some.ensures.taken)

pub returns-in-Some-clause-ok : goal.returns-in-Some-clause-ok
returns-in-Some-clause-ok c =
    c.go_on.ensures.ok c.args.seat.now.me.0 (one-taken c.args.k c.in-Some.holder c.args.seat.now.me c.take.new.seat.me c.requires.bare c.requires.slots c.in-Some.ensures.taken)

pub returns-in-Some-clause-err : goal.returns-in-Some-clause-err
returns-in-Some-clause-err c =
    c.go_on.ensures.err c.args.seat.now.me.0 (one-taken c.args.k c.in-Some.holder c.args.seat.now.me c.take.new.seat.me c.requires.bare c.requires.slots c.in-Some.ensures.taken)

pub returns-in-None-clause-ok : goal.returns-in-None-clause-ok
returns-in-None-clause-ok c = start-busy c.args.k c.args.seat.now.me c.take.new.seat.me c.requires.slots c.in-None.ensures.taken
