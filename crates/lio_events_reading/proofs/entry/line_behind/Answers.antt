use Rattle.std.proofs.Common.{rules}
use Rattle.lio_events_reading.proofs.LineLemmas.{finds_line}
use Rattle.lio_events_reading.proofs.entry.line_behind.Goals as goal

pub returns-clause-finds : goal.returns-clause-finds
returns-clause-finds c =
    finds_line c.args.names.now c.args.ticket c.args.text.now c.number-actor.result c.number-actor.new.text c.skip.new.self c.target-target.result c.target-target.new.text c.skip-2.new.self c.in_ok-at.at c.label.new.text
    c.skip-3.new.self c.in_ok-act.act c.in_ok-act.reply c.turn.new.text c.number-actor.ensures.finds c.skip.ensures.left c.target-target.ensures.finds c.skip-2.ensures.left c.in_ok-at.ensures.finds c.skip-3.ensures.left
    c.in_ok-act.ensures.finds

pub returns-clause-over : goal.returns-clause-over
returns-clause-over c = record {
  printable = record { at = c.in_ok-at.ensures.over.0; act = c.in_ok-act.ensures.over.0.0; raise = c.in_ok-act.ensures.over.0.1; reply = c.in_ok-act.ensures.over.1.0; pure = (c.in_ok-act.ensures.over.0.3, c.in_ok-act.ensures.over.1.2) };
  fits = record { ticket = search rules; actor = search rules; target = c.target-target.ensures.fits; at = c.in_ok-at.ensures.over.1; act = c.in_ok-act.ensures.over.0.2; reply = c.in_ok-act.ensures.over.1.1 };
}
