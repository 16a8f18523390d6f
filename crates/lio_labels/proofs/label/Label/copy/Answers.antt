use Rattle.lio_labels.proofs.FlowLemmas.{same-label}
use Rattle.lio_labels.proofs.label.Label.copy.Goals as goal

pub returns-clause-ok : goal.returns-clause-ok
returns-clause-ok c = same-label _ c.args.self.now c.in_ok-secrecy.ensures.ok c.in_ok-integrity.ensures.ok
