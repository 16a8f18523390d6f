use Rattle.std.proofs.Common.{◌≡◌, Bool, true, false, cond, Some, None, refl, sym, ap, ◌∙◌}
use Rattle.lio_labels.specs.declared.label.Label.{Label}
use Rattle.lio_labels.specs.Flow.{flows}
use Rattle.lio_labels.specs.Bounds.{join}
use Rattle.lio_values.specs.declared.fault.FaultKind.TheVariants.{FlowRaise, LabelWide}
use Rattle.lio_guards.specs.declared.verdict.Verdict.{Verdict}
use Rattle.lio_guards.specs.declared.verdict.Verdict.TheVariants.{No}
use Rattle.lio_guards.specs.Width.{is_wide}
use Rattle.lio_guards.specs.Guard.{go_unless, raise_fault}
use Rattle.lio_guards.proofs.guards.raise.Goals as goal

-- the verdict, by the outcomes of the two tests
abbrev by_tests : Label → Label → Label → Label → Bool → Bool → Verdict
by_tests current clearance target joined wide flows =
    go_unless (cond wide (Some (LabelWide current target)) (cond flows None (Some (FlowRaise joined clearance)))) joined

narrow : (wide : Bool) (label joined : Label) → Some label ≡ cond wide None (Some joined) → (false ≡ wide) × (label ≡ joined)
narrow true label joined e = absurd (cc)
narrow false label joined e = let same : label ≡ joined = cc in (refl, same)

too_wide : (wide : Bool) (joined : Label) → None ≡ cond wide None (Some joined) → true ≡ wide
too_wide true joined e = refl
too_wide false joined e = absurd (cc)

pub returns-in_ok-copy-in-Some : goal.returns-in_ok-copy-in-Some
unfolding raise_fault
returns-in_ok-copy-in-Some c =
    let joined : Label = join c.args.current.now c.args.target.now in
    let n = narrow (is_wide joined) c.in-Some.label joined (sym c.in-Some.is ∙ c.in_ok-label.ensures) in
    let test = c.if-flows.ensures.test ∙ ap (λ (label : Label). flows label c.args.clearance.now) n.1 in
    (λ i. No (FlowRaise (n.1 i) (c.in_ok-copy-in-Some.ensures.ok i))) ∙ (λ i. by_tests c.args.current.now c.args.clearance.now c.args.target.now joined (n.0 i) (test i))

pub returns-in_ok-copy-in-None-2 : goal.returns-in_ok-copy-in-None-2
unfolding raise_fault
returns-in_ok-copy-in-None-2 c =
    let joined : Label = join c.args.current.now c.args.target.now in
    let wide = too_wide (is_wide joined) joined (sym c.in-None.is ∙ c.in_ok-label.ensures) in
    (λ i. No (LabelWide (c.in_ok-copy-in-None.ensures.ok i) (c.in_ok-copy-in-None-2.ensures.ok i)))
    ∙ (λ i. by_tests c.args.current.now c.args.clearance.now c.args.target.now joined (wide i) (flows joined c.args.clearance.now))
