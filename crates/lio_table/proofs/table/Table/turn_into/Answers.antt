use Rattle.std.proofs.Common.{◌∙◌}
use Rattle.lio_table.proofs.AnswerLemmas.{few-after, left-after, left-same, numbers-after, out-after, refused-after, says-after}
use Rattle.lio_table.proofs.SeatLemmas.{bare-slots}
use Rattle.lio_table.proofs.table.Table.turn_into.Goals as goal

pub start-requires-clause-turn : goal.start-requires-clause-turn
start-requires-clause-turn c = record { first = c.requires.seat.first; script_is = c.requires.script; left = c.requires.left; node = c.requires.node }

pub start-requires-clause-slots : goal.start-requires-clause-slots
start-requires-clause-slots c =
    let seat = c.args.seat.now in bare-slots seat.seat.me.0.first seat.seat.me.0.claimed seat.seat.me.1 c.requires.seat.out c.requires.bare

pub overflow_sub-left : goal.overflow_sub-left
overflow_sub-left c =
    let seat = c.args.seat.now in let old = seat.seat.me.0 in let new = c.start.new.seat.me in
    few-after seat.left c.tickets.result _ old new.0 seat.counted c.tickets.ensures (says-after c.args.k old new.0 c.in-Ok.end c.requires.left c.in-Ok.ensures.ok.0)

pub invariant_of-seat : goal.invariant_of-seat
invariant_of-seat c =
    let seat = c.args.seat.now in let old = seat.seat.me.0 in let new = c.start.new.seat.me in
    let after = says-after c.args.k old new.0 c.in-Ok.end c.requires.left c.in-Ok.ensures.ok.0 in
    record {
      counted = left-after seat.left c.tickets.result _ old new.0 seat.counted c.tickets.ensures after;
      used = after.used;
      numbers = numbers-after seat.last seat.other old new.0 _ c.requires.bare after;
    }

pub invariant_of-seat-in-Err : goal.invariant_of-seat-in-Err
invariant_of-seat-in-Err c =
    let seat = c.args.seat.now in let old = seat.seat.me.0 in let new = c.start.new.seat.me in
    let after = refused-after c.args.k old new.0 c.requires.left c.in-Err.ensures.err.0 in
    record {
      counted = left-same seat.left old new.0 seat.counted after;
      used = after.used;
      numbers = numbers-after seat.last seat.other old new.0 _ c.requires.bare after;
    }

pub returns-in-Ok-clause-seat : goal.returns-in-Ok-clause-seat
returns-in-Ok-clause-seat c =
    let seat = c.args.seat.now in let old = seat.seat.me.0 in let new = c.start.new.seat.me in
    let after = says-after c.args.k old new.0 c.in-Ok.end c.requires.left c.in-Ok.ensures.ok.0 in
    record {
      table_id = c.start.ensures.table ∙ c.requires.seat.table_id;
      first = after.first ∙ c.requires.seat.first;
      out = out-after seat.seat.me new _ c.requires.bare after c.in-Ok.ensures.ok.1;
    }

pub returns-in-Err-clause-seat : goal.returns-in-Err-clause-seat
returns-in-Err-clause-seat c =
    let seat = c.args.seat.now in let old = seat.seat.me.0 in let new = c.start.new.seat.me in
    let after = refused-after c.args.k old new.0 c.requires.left c.in-Err.ensures.err.0 in
    record {
      table_id = c.start.ensures.table ∙ c.requires.seat.table_id;
      first = after.first ∙ c.requires.seat.first;
      out = out-after seat.seat.me new _ c.requires.bare after c.in-Err.ensures.err.1;
    }

pub returns-in-Ok-clause-bare : goal.returns-in-Ok-clause-bare
returns-in-Ok-clause-bare c =
    let old = c.args.seat.now.seat.me.0 in let new = c.start.new.seat.me in
    (says-after c.args.k old new.0 c.in-Ok.end c.requires.left c.in-Ok.ensures.ok.0).claimed ∙ c.requires.bare

pub returns-in-Err-clause-bare : goal.returns-in-Err-clause-bare
returns-in-Err-clause-bare c =
    let old = c.args.seat.now.seat.me.0 in let new = c.start.new.seat.me in
    (refused-after c.args.k old new.0 c.requires.left c.in-Err.ensures.err.0).claimed ∙ c.requires.bare

pub returns-in-Ok-clause-ok : goal.returns-in-Ok-clause-ok
returns-in-Ok-clause-ok c = c.in-Ok.ensures.ok.0

pub returns-in-Err-clause-err : goal.returns-in-Err-clause-err
returns-in-Err-clause-err c = c.in-Err.ensures.err.0

pub returns-in-Ok-clause-entry : goal.returns-in-Ok-clause-entry
returns-in-Ok-clause-entry c = c.in-Ok.ensures.ok.2
