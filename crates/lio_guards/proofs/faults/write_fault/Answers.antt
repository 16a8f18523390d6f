use Rattle.std.proofs.Common.{Bool, cond, Option, Some, None, ◌∙◌}
use Rattle.lio_labels.specs.declared.label.Label.{Label}
use Rattle.lio_labels.specs.Flow.{flows}
use Rattle.lio_values.specs.declared.fault.FaultKind.{FaultKind}
use Rattle.lio_values.specs.declared.fault.FaultKind.TheVariants.{FlowCurrent, FlowClearance}
use Rattle.lio_guards.specs.Guard.{write_fault}
use Rattle.lio_guards.proofs.faults.write_fault.Goals as goal

-- the fault, by the outcomes of the two tests
abbrev by_tests : Label → Label → Label → Bool → Bool → Option FaultKind
by_tests current clearance target a b = cond a (cond b None (Some (FlowClearance target clearance))) (Some (FlowCurrent current target))

pub returns-in_ok-copy-2 : goal.returns-in_ok-copy-2
unfolding write_fault
returns-in_ok-copy-2 c =
    (λ i. Some (FlowCurrent (c.in_ok-copy.ensures.ok i) (c.in_ok-copy-2.ensures.ok i)))
    ∙ (λ i. by_tests c.args.current.now c.args.clearance.now c.args.target.now (c.if-not-flows.ensures.test i) (flows c.args.target.now c.args.clearance.now))

pub returns-in_ok-copy-4 : goal.returns-in_ok-copy-4
unfolding write_fault
returns-in_ok-copy-4 c =
    (λ i. Some (FlowClearance (c.in_ok-copy-3.ensures.ok i) (c.in_ok-copy-4.ensures.ok i)))
    ∙ (λ i. by_tests c.args.current.now c.args.clearance.now c.args.target.now (c.if-not-flows.ensures.test i) (c.if-not-flows-2.ensures.test i))

pub returns-else-not-flows-2 : goal.returns-else-not-flows-2
unfolding write_fault
returns-else-not-flows-2 c =
    λ i. by_tests c.args.current.now c.args.clearance.now c.args.target.now (c.if-not-flows.ensures.test i) (c.if-not-flows-2.ensures.test i)
