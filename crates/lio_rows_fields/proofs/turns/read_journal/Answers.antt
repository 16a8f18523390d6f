use Rattle.std.proofs.Common.{◌≤◌, arith}
use Rattle.lio_events.specs.Printable.{IsPrintable}
use Rattle.lio_rows_fields.proofs.Added.{All-with, below_with}
use Rattle.lio_rows_fields.proofs.turns.read_journal.Goals as goal

pub loop-preserved : goal.loop-preserved
loop-preserved c =
    let later : c.loop.next ≤ c.in_ok-entry.entry.ticket = omega arith in
    record {
      below = rw c.in_ok-push.ensures.ok (below_with c.loop.journal c.in_ok-entry.entry c.loop.next c.loop.invariant.below later);
      printable = rw c.in_ok-push.ensures.ok (All-with (IsPrintable c.args.names.now) c.loop.journal c.in_ok-entry.entry c.loop.invariant.printable c.in_ok-entry.ensures);
    }
