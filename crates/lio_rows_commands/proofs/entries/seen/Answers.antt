use Rattle.lio_rows_commands.proofs.entries.seen.Goals as goal

pub line-requires : goal.line-requires
line-requires c = rw c.in_ok-seen.ensures (c.erased_is_printable.ensures c.args.names.now c.args.observer.now c.args.entry.now c.requires)
