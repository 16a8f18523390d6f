use Rattle.std.proofs.Common.{◌∙◌, Some, ap, sym}
use Rattle.std.specs.Option.{option_copied}
use Rattle.lio_values.specs.declared.value.Value.TheVariants.{Bare}
use Rattle.lio_syntax.specs.Lines.{script_lines}
use Rattle.lio_operators.specs.Operators.{operate2}
use Rattle.lio_calculus.specs.Operands.{seen_as}
use Rattle.lio_calculus.specs.Plan.{plan_simple}
use Rattle.lio_task_plan.specs.Planned.{state_at}
use Rattle.lio_task_plan.proofs.ShortLemmas.{two_is}
use Rattle.lio_task_plan.proofs.short.short_let_two.Goals as goal

pub returns-in-Some-bare-clause-plan : goal.returns-in-Some-bare-clause-plan
returns-in-Some-bare-clause-plan c = λ program items.
    let state = state_at program c.args.task.now in let here = c.environment-environment.ensures (script_lines program.procedures) in
    let left = c.in-Some.left.now in let right = c.in-Some-bare.right.now in
    c.answered.ensures.plan program state items (operate2 program.longest c.args.op (Bare left) (Bare right)) (c.outcome2.ensures.given program.longest)
    (two_is program state c.args.name.now c.args.left.now c.args.op c.args.right.now left right
    (ap option_copied (sym c.in-Some.is) ∙ c.bare.ensures ∙ ap (λ e. seen_as Some e c.args.left.now) here)
    (ap option_copied (sym c.in-Some-bare.is) ∙ c.bare-2.ensures ∙ ap (λ e. seen_as Some e c.args.right.now) here)
    ∙ ap (plan_simple program state) (sym c.requires))
