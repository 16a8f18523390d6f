use Rattle.lio_rows_commands.proofs.entries.copied.Goals as goal

pub line-requires : goal.line-requires
line-requires c = rw c.in_ok-copy.ensures c.requires
