use Rattle.lio_table.proofs.MomentLemmas.{nodes-stand}
use Rattle.lio_table.proofs.laws.seats_nodes_stand.Goals as goal

pub returns : goal.returns
returns c = nodes-stand
