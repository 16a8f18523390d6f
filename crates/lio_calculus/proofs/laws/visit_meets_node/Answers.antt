use Rattle.lio_calculus.proofs.MeetingLemmas.{visit_meets_node}
use Rattle.lio_calculus.proofs.laws.visit_meets_node.Goals as goal

pub returns : goal.returns
returns c = visit_meets_node
