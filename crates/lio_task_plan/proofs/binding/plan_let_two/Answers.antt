use Rattle.std.proofs.Common.{◌∙◌, sym, ap, Some}
use Rattle.std.specs.Prelude.{option_and_then}
use Rattle.std.specs.Option.{option_copied}
use Rattle.lio_syntax.specs.Lines.{script_lines}
use Rattle.lio_syntax.specs.Environment.{Environment}
use Rattle.lio_calculus.specs.Operands.{bound, seen_as}
use Rattle.lio_task_turns.specs.Operands.{sealed_value_of}
use Rattle.lio_task_turns.specs.StateOf.{program_of}
use Rattle.lio_task_plan.proofs.TwoLemmas.{both-plan, left-refuses, right-seals}
use Rattle.lio_task_plan.proofs.binding.plan_let_two.Goals as goal

pub returns-in_default : goal.returns-in_default
returns-in_default c =
    left-refuses (program_of c.args.script.now c.args.longest) c.args.task.now c.args.name.now c.args.left.now c.args.op c.args.right.now c.bad_type.result c.bad_type.ensures
    (sym (ap option_copied c.in_default.is) ∙ c.bare.ensures ∙ ap (λ (here : Environment). seen_as Some here c.args.left.now) (c.environment-environment.ensures (script_lines c.args.script.now)))

pub returns-in-Some-bare : goal.returns-in-Some-bare
returns-in-Some-bare c =
    both-plan (program_of c.args.script.now c.args.longest) c.args.task.now c.args.name.now c.args.left.now c.args.op c.args.right.now c.in-Some.left.now c.in-Some-bare.right.now
    c.operate_plains.result c.computed.result c.computed.ensures c.operate_plains.ensures
    (sym (ap option_copied c.in-Some.is) ∙ c.bare.ensures ∙ ap (λ (here : Environment). seen_as Some here c.args.left.now) (c.environment-environment.ensures (script_lines c.args.script.now)))
    (sym (ap option_copied c.in-Some-bare.is) ∙ c.bare-2.ensures ∙ ap (λ (here : Environment). seen_as Some here c.args.right.now) (c.environment-environment.ensures (script_lines c.args.script.now)))

pub returns-in-None : goal.returns-in-None
returns-in-None c =
    right-seals (program_of c.args.script.now c.args.longest) c.args.task.now c.args.name.now c.args.left.now c.args.op c.args.right.now c.in-Some.left.now
    (option_copied c.sealed_value-sealed.result) c.let_two_sealed.result c.let_two_sealed.ensures
    (sym (ap option_copied c.in-Some.is) ∙ c.bare.ensures ∙ ap (λ (here : Environment). seen_as Some here c.args.left.now) (c.environment-environment.ensures (script_lines c.args.script.now)))
    (sym (ap option_copied c.in-None.is) ∙ c.bare-2.ensures ∙ ap (λ (here : Environment). seen_as Some here c.args.right.now) (c.environment-environment.ensures (script_lines c.args.script.now)))
    (c.sealed_value-sealed.ensures ∙ ap (λ (here : Environment). option_and_then sealed_value_of (bound here c.args.right.now)) (c.environment-environment.ensures (script_lines c.args.script.now)))
