use Rattle.std.proofs.Common.{Bool, cond, Option, Some, None, ◌∙◌}
use Rattle.lio_labels.specs.declared.label.Label.{Label}
use Rattle.lio_labels.specs.declared.privilege.Priv.{Priv}
use Rattle.lio_values.specs.declared.fault.FaultKind.{FaultKind}
use Rattle.lio_values.specs.declared.fault.FaultKind.TheVariants.{FlowPrivilege}
use Rattle.lio_guards.specs.Guard.{release_fault}
use Rattle.lio_guards.proofs.faults.release_fault.Goals as goal

-- the fault, by the outcome of the test
abbrev by_test : Label → Label → Priv → Bool → Option FaultKind
by_test source target power a = cond a None (Some (FlowPrivilege power source target))

pub returns-then-flows_with : goal.returns-then-flows_with
unfolding release_fault
returns-then-flows_with c = λ i. by_test c.args.source.now c.args.target.now c.args.power.now (c.if-flows_with.ensures.test i)

pub returns-in_ok-copy-3 : goal.returns-in_ok-copy-3
unfolding release_fault
returns-in_ok-copy-3 c =
    (λ i. Some (FlowPrivilege (c.in_ok-copy.ensures.ok i) (c.in_ok-copy-2.ensures.ok i) (c.in_ok-copy-3.ensures.ok i)))
    ∙ (λ i. by_test c.args.source.now c.args.target.now c.args.power.now (c.if-flows_with.ensures.test i))
