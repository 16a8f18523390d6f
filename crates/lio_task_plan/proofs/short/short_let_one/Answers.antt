use Rattle.std.proofs.Common.{◌∙◌, Some, ap, sym}
use Rattle.std.specs.Option.{option_copied}
use Rattle.lio_values.specs.declared.value.Value.TheVariants.{Bare}
use Rattle.lio_syntax.specs.Lines.{script_lines}
use Rattle.lio_operators.specs.Operators.{operate1}
use Rattle.lio_calculus.specs.Operands.{seen_as}
use Rattle.lio_calculus.specs.Plan.{plan_simple}
use Rattle.lio_task_plan.specs.Planned.{state_at}
use Rattle.lio_task_plan.proofs.ShortLemmas.{one_is}
use Rattle.lio_task_plan.proofs.short.short_let_one.Goals as goal

pub returns-in-Some-clause-plan : goal.returns-in-Some-clause-plan
returns-in-Some-clause-plan c = λ program items.
    let state = state_at program c.args.task.now in let plain = c.in-Some.plain.now in
    c.answered.ensures.plan program state items (operate1 program.longest c.args.op (Bare plain)) (c.plain_outcome.ensures.given program.longest)
    (one_is program state c.args.name.now c.args.op c.args.value.now plain
    (ap option_copied (sym c.in-Some.is) ∙ c.bare.ensures ∙ ap (λ here. seen_as Some here c.args.value.now) (c.environment.ensures (script_lines program.procedures)))
    ∙ ap (plan_simple program state) (sym c.requires))
