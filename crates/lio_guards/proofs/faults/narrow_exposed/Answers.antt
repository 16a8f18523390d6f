use Rattle.std.proofs.Common.{◌≡◌, Bool, false, ◌||◌, cond, Option, Some, None, Result, IfOk, sym, ap, subst}
use Rattle.lio_clauses.specs.declared.faults.NoMemory.{NoMemory}
use Rattle.lio_labels.specs.declared.label.Label.{Label}
use Rattle.lio_labels.specs.Bounds.{join}
use Rattle.lio_labels.specs.Privilege.{downgraded}
use Rattle.lio_guards.specs.Width.{is_wide}
use Rattle.lio_guards.specs.Guard.{exposed}
use Rattle.lio_guards.proofs.WidthLemmas.{made-narrow, refused-wide}
use Rattle.lio_guards.proofs.faults.narrow_exposed.Goals as goal

abbrev unless_wide : Label → Bool → Option Label
unless_wide label wide = cond wide None (Some label)

-- what is made is the lowered label, which isn't wide
with_lowered : (r : Result (Option Label) NoMemory) (current made lowered : Label) (wide : Bool) → made ≡ lowered → wide ≡ false
    → IfOk r (λ label. label ≡ unless_wide (join current made) (is_wide (join current made)))
    → IfOk r (λ label. label ≡ unless_wide (join current lowered) (wide || is_wide (join current lowered)))
with_lowered r current made lowered wide e f h =
    let P : Label → Type 0 = λ l. IfOk r (λ label. label ≡ unless_wide (join current l) (is_wide (join current l))) in
    let Q : Bool → Type 0 = λ b. IfOk r (λ label. label ≡ unless_wide (join current lowered) (b || is_wide (join current lowered))) in
    subst Q (sym f) (subst P e h)

pub returns-in-Ok : goal.returns-in-Ok
unfolding exposed
returns-in-Ok c =
    let lowered : Label = downgraded c.args.power.now c.args.source.now in
    with_lowered c.narrow_join.result c.args.current.now c.in-Ok.lowered lowered (is_wide lowered) c.in-Ok.ensures.ok
    (made-narrow lowered c.in-Ok.lowered c.in-Ok.ensures.wide) c.narrow_join.ensures

pub returns-in-Err-Wide : goal.returns-in-Err-Wide
returns-in-Err-Wide c =
    let lowered : Label = downgraded c.args.power.now c.args.source.now in
    let raised : Label = exposed c.args.current.now c.args.source.now c.args.power.now in
    ap (λ b. unless_wide raised (b || is_wide raised)) (sym (refused-wide lowered c.in-Err-Wide.field-0 c.in-Err-Wide.field-0-is c.in-Err-Wide.ensures.wide))
