use Rattle.std.proofs.Common.{◌∙◌, ℕ, List, ap}
use Rattle.std.proofs.lemmas.Result.{IfOk-weaker}
use Rattle.lio_syntax_lines.specs.declared.line.Line.{Line}
use Rattle.lio_guards.specs.declared.verdict.Verdict.{Verdict}
use Rattle.lio_values.specs.declared.act.Act.TheVariants as act
use Rattle.lio_values.specs.declared.act.Op.TheVariants as op
use Rattle.lio_values.specs.declared.act.Reply.TheVariants as reply
use Rattle.lio_values.specs.declared.value.Content.{Content}
use Rattle.lio_labels.specs.declared.label.Label.{Label}
use Rattle.lio_calculus.specs.Going as going
use Rattle.lio_calculus.specs.Plan as plan
use Rattle.lio_task_turns.specs.declared.standing.Standing.{Standing}
use Rattle.lio_task_turns.specs.StateOf.{state_of}
use Rattle.lio_task_turns.specs.Turns.{turn_of}
use Rattle.lio_task_turns.proofs.standing.Standing.unlabelling.Goals as goal

-- what a verdict lets go
abbrev by : Standing → List Line → List ℕ → Label → Content → Verdict → plan.Plan
by task lines name label content verdict =
    plan.with_verdict (state_of lines task) (act.Raise op.Unlabel label) verdict
    (λ current. plan.Own (act.Raise op.Unlabel label) reply.Done (going.Unlabel name current label content))

pub returns-in-Ok-Go : goal.returns-in-Ok-Go
returns-in-Ok-Go c =
    let verdict = rw c.in-Ok-Go.field-0-is at c.in-Ok-Go.ensures in
    IfOk-weaker c.unlabel_turn.result _ _ (λ made is simple lines. ap (turn_of lines simple) is ∙ ap (by c.args.self.now lines c.args.name.now c.args.label.now c.args.content.now) verdict) c.unlabel_turn.ensures

pub returns-in-Ok-No : goal.returns-in-Ok-No
returns-in-Ok-No c =
    let verdict = rw c.in-Ok-No.field-0-is at c.in-Ok-No.ensures in
    IfOk-weaker c.refused_raise.result _ _ (λ made is simple lines. ap (turn_of lines simple) is ∙ ap (by c.args.self.now lines c.args.name.now c.args.label.now c.args.content.now) verdict) c.refused_raise.ensures
