use Rattle.std.proofs.Common.{◌≡◌, Bool, true, false, ◌||◌, cond, Some, None, refl, sym, ap, ◌∙◌}
use Rattle.lio_labels.specs.declared.label.Label.{Label}
use Rattle.lio_labels.specs.Flow.{flows}
use Rattle.lio_labels.specs.Privilege.{downgraded}
use Rattle.lio_values.specs.declared.fault.FaultKind.TheVariants.{FlowRaise, LabelWide}
use Rattle.lio_guards.specs.declared.verdict.Verdict.{Verdict}
use Rattle.lio_guards.specs.declared.verdict.Verdict.TheVariants.{No}
use Rattle.lio_guards.specs.Width.{is_wide}
use Rattle.lio_guards.specs.Guard.{go_unless, exposed, expose_fault, guarded_expose}
use Rattle.lio_guards.proofs.guards.guard_expose.Goals as goal

-- the verdict, by the outcomes of the two tests
abbrev by_tests : Label → Label → Label → Label → Bool → Bool → Verdict
by_tests current clearance source raised wide flows =
    go_unless (cond wide (Some (LabelWide current source)) (cond flows None (Some (FlowRaise raised clearance)))) raised

narrow : (wide : Bool) (label raised : Label) → Some label ≡ cond wide None (Some raised) → (false ≡ wide) × (label ≡ raised)
narrow true label raised e = absurd (cc)
narrow false label raised e = let same : label ≡ raised = cc in (refl, same)

too_wide : (wide : Bool) (raised : Label) → None ≡ cond wide None (Some raised) → true ≡ wide
too_wide true raised e = refl
too_wide false raised e = absurd (cc)

pub returns-in_ok-copy-in-Some : goal.returns-in_ok-copy-in-Some
unfolding expose_fault guarded_expose
returns-in_ok-copy-in-Some c =
    let raised : Label = exposed c.args.current.now c.args.source.now c.args.power.now in
    let wide : Bool = is_wide (downgraded c.args.power.now c.args.source.now) || is_wide raised in
    let n = narrow wide c.in-Some.raised raised (sym c.in-Some.is ∙ c.in_ok-raised.ensures) in
    let test = c.if-flows.ensures.test ∙ ap (λ (label : Label). flows label c.args.clearance.now) n.1 in
    (λ i. No (FlowRaise (n.1 i) (c.in_ok-copy-in-Some.ensures.ok i))) ∙ (λ i. by_tests c.args.current.now c.args.clearance.now c.args.source.now raised (n.0 i) (test i))

pub returns-in_ok-copy-in-None-2 : goal.returns-in_ok-copy-in-None-2
unfolding expose_fault guarded_expose
returns-in_ok-copy-in-None-2 c =
    let raised : Label = exposed c.args.current.now c.args.source.now c.args.power.now in
    let found = too_wide (is_wide (downgraded c.args.power.now c.args.source.now) || is_wide raised) raised (sym c.in-None.is ∙ c.in_ok-raised.ensures) in
    (λ i. No (LabelWide (c.in_ok-copy-in-None.ensures.ok i) (c.in_ok-copy-in-None-2.ensures.ok i)))
    ∙ (λ i. by_tests c.args.current.now c.args.clearance.now c.args.source.now raised (found i) (flows raised c.args.clearance.now))
