use Rattle.lio_rows_commands.proofs.Given.{one_is_named}
use Rattle.lio_rows_commands.proofs.operators.on_one.Goals as goal

pub given-requires : goal.given-requires
given-requires c = one_is_named c.args.names.now c.args.longest c.args.op c.args.a.now c.operate1.result c.operate1.ensures c.requires
