use Rattle.std.proofs.Common.{◌++◌}
use Rattle.lio_clauses.specs.Implication.{implies}
use Rattle.lio_labels.specs.Privilege.{flows_with}
use Rattle.lio_labels.proofs.FlowLemmas.{after-both, after-first}
use Rattle.lio_labels.proofs.PrivilegeLemmas.{flows_with-by}
use Rattle.lio_labels.proofs.label.Label.flows_with.Goals as goal

pub returns-then-implies_with-clause-test : goal.returns-then-implies_with-clause-test
unfolding flows_with
returns-then-implies_with-clause-test c =
    after-both c.implies_with.result c.implies_with-then-implies_with.result
    (implies (c.args.p.now.power ++ c.args.to.now.secrecy) c.args.self.now.secrecy) (implies (c.args.p.now.power ++ c.args.self.now.integrity) c.args.to.now.integrity)
    c.if-implies_with.true c.implies_with.ensures.test c.implies_with-then-implies_with.ensures.test

pub returns-then-implies_with-clause-all_sets : goal.returns-then-implies_with-clause-all_sets
returns-then-implies_with-clause-all_sets c =
    flows_with-by c.implies_with-then-implies_with.result c.args.p.now c.args.self.now c.args.to.now (returns-then-implies_with-clause-test c)

pub returns-else-implies_with-clause-test : goal.returns-else-implies_with-clause-test
unfolding flows_with
returns-else-implies_with-clause-test c =
    after-first c.implies_with.result
    (implies (c.args.p.now.power ++ c.args.to.now.secrecy) c.args.self.now.secrecy) (implies (c.args.p.now.power ++ c.args.self.now.integrity) c.args.to.now.integrity)
    c.if-implies_with.false c.implies_with.ensures.test

pub returns-else-implies_with-clause-all_sets : goal.returns-else-implies_with-clause-all_sets
returns-else-implies_with-clause-all_sets c = flows_with-by c.implies_with.result c.args.p.now c.args.self.now c.args.to.now (returns-else-implies_with-clause-test c)
