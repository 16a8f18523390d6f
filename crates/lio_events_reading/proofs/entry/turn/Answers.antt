use Rattle.lio_events_reading.specs.Over.{IsActOver, IsReplyOver}
use Rattle.lio_events_reading.proofs.ReadingLemmas.{both_beside}
use Rattle.lio_events_reading.proofs.entry.turn.Goals as goal

pub returns-clause-over : goal.returns-clause-over
returns-clause-over c =
    both_beside (IsActOver c.args.names.now) (IsReplyOver c.args.names.now) c.reply.result c.in_ok-act.act c.beside.result c.beside.ensures c.in_ok-act.ensures.over c.reply.ensures.over
