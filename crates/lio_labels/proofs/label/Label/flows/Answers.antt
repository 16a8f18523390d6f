use Rattle.lio_clauses.specs.Implication.{implies}
use Rattle.lio_labels.specs.Flow.{flows}
use Rattle.lio_labels.proofs.FlowLemmas.{after-both, after-first, flows-by}
use Rattle.lio_labels.proofs.label.Label.flows.Goals as goal

pub returns-then-implies-clause-test : goal.returns-then-implies-clause-test
unfolding flows
returns-then-implies-clause-test c =
    after-both c.implies.result c.implies-then-implies.result (implies c.args.to.now.secrecy c.args.self.now.secrecy) (implies c.args.self.now.integrity c.args.to.now.integrity)
    c.if-implies.true c.implies.ensures.test c.implies-then-implies.ensures.test

pub returns-then-implies-clause-all_sets : goal.returns-then-implies-clause-all_sets
returns-then-implies-clause-all_sets c = flows-by c.implies-then-implies.result c.args.self.now c.args.to.now (returns-then-implies-clause-test c)

pub returns-else-implies-clause-test : goal.returns-else-implies-clause-test
unfolding flows
returns-else-implies-clause-test c =
    after-first c.implies.result (implies c.args.to.now.secrecy c.args.self.now.secrecy) (implies c.args.self.now.integrity c.args.to.now.integrity) c.if-implies.false c.implies.ensures.test

pub returns-else-implies-clause-all_sets : goal.returns-else-implies-clause-all_sets
returns-else-implies-clause-all_sets c = flows-by c.implies.result c.args.self.now c.args.to.now (returns-else-implies-clause-test c)
