use Rattle.lio_clauses.proofs.NameLemmas.{bytes_of-insert}
use Rattle.lio_policy.proofs.table.Table.add.Goals as goal

pub returns : goal.returns
returns c =
    bytes_of-insert c.self.inside.set.keys c.insert.new.self.keys c.in_ok-text.text c.args.self.now c.args.text.now c.in_ok-insert.ensures.keys
    c.in_ok-text.ensures.items c.self.view_is c.requires
