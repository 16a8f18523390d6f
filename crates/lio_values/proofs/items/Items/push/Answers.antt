use Rattle.lio_values.proofs.ItemsLemmas.{pushed-depth, pushed}
use Rattle.lio_values.proofs.items.Items.push.Goals as goal

pub invariant_of-self : goal.invariant_of-self
invariant_of-self c = pushed-depth c.push.result _ _ c.args.value c.push.ensures.ok c.push.ensures.err c.self.invariant c.requires

pub returns-clause-ok : goal.returns-clause-ok
returns-clause-ok c = pushed c.push.result _ _ _ c.args.value c.push.ensures.ok c.self.view_is
