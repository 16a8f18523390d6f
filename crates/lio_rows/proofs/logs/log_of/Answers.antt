use Rattle.lio_rows.proofs.LogRows.{found_printable}
use Rattle.lio_rows.proofs.logs.log_of.Goals as goal

pub lines_of-requires : goal.lines_of-requires
lines_of-requires c =
    found_printable c.args.names.now c.args.config.now c.args.number c.deref.result.now c.in-Some.holder.now c.log.result.now c.deref.ensures.value c.in-Some.ensures.lookup.0 c.in-Some.ensures.lookup.1 c.log.ensures.log c.requires
