use Rattle.lio_rows_commands.proofs.Given.{two_is_named}
use Rattle.lio_rows_commands.proofs.operators.on_two.Goals as goal

pub given-requires : goal.given-requires
given-requires c =
    two_is_named c.args.names.now c.args.longest c.args.op c.args.a.now c.args.b.now c.operate2.result c.operate2.ensures c.requires.left c.requires.right
