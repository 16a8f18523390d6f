use Rattle.std.specs.Option.{is_some}
use Rattle.std.proofs.Common.{◌≡◌, ◌∙◌, Option, Some, None, ap, refl, sym, true}
use Rattle.std.proofs.lemmas.Result.{IfOk-weaker}
use Rattle.lio_values.specs.declared.act.Op.TheVariants as op
use Rattle.lio_values.specs.declared.value.Handle.{Handle}
use Rattle.lio_values.specs.declared.value.Value.{Value}
use Rattle.lio_syntax_lines.specs.declared.line.Operand.{Operand}
use Rattle.lio_syntax_lines.specs.declared.line.Simple.TheVariants as line
use Rattle.lio_calculus.specs.Operands.{bound, seen_as, variable_of}
use Rattle.lio_calculus.specs.Plan.{Plan, Program, plan_simple, raising, with_seen}
use Rattle.lio_calculus.specs.Task.{TaskState}
use Rattle.lio_task_turns.specs.StateOf.{state_of}
use Rattle.lio_task_plan.proofs.nodes.plan_put.Goals as goal

there : (task : TaskState) (o : Option Value) (p : Plan) → is_some o ≡ true → with_seen task o (λ value. p) ≡ p
there task None p is = cc
there task (Some value) p is = refl

-- the raise of a `put` of a value that is there
put-raises : (program : Program) (task : TaskState) (v a : Operand) (handle : Handle) → seen_as variable_of task.environment v ≡ Some handle → is_some (bound task.environment a) ≡ true
    → raising task op.Put (line.Put v a) handle ≡ plan_simple program task (line.Put v a)
unfolding plan_simple
put-raises program task v a handle seen is =
    let p = raising task op.Put (line.Put v a) in
    sym (ap (λ (h : Option Handle). with_seen task h (λ handle. with_seen task (bound task.environment a) (λ value. p handle))) seen ∙ there task (bound task.environment a) (p handle) is)

pub returns : goal.returns
returns c =
    let v = c.args.variable.now in
    let a = c.args.value.now in
    IfOk-weaker c.raising.result _ _ (λ made raises program lines.
    let here = c.environment-environment.ensures lines in
    raises (line.Put v a) lines
    ∙ put-raises program (state_of lines c.args.task.now) v a c.in-Some.handle.now
    (ap (λ e. seen_as variable_of e v) (sym here) ∙ sym c.in-Some.ensures)
    (ap (λ e. is_some (bound e a)) (sym here) ∙ sym c.is_bound.ensures ∙ c.if-not-is_bound.false)) c.raising.ensures
