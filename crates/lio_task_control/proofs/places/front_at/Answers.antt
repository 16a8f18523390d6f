use Rattle.std.proofs.Common.{sym}
use Rattle.lio_syntax.specs.Lines.{script_lines}
use Rattle.lio_syntax.proofs.GrammarLemmas.{accepts-script_lines}
use Rattle.lio_task_control.proofs.BlockLemmas.{says}
use Rattle.lio_task_control.proofs.FrontLemmas.{simple_front, loop_front, choice_front, guarded_front, mark_front, no_front, past_front}
use Rattle.lio_task_control.proofs.places.front_at.Goals as goal

pub returns-in_err-simple : goal.returns-in_err-simple
returns-in_err-simple c = rw c.from_residual.ensures (past_front (script_lines c.args.script.now) c.args.at c.settled-at.result (accepts-script_lines c.args.script.now) c.settled-at.ensures (sym c.in_err-simple.ensures.line))

pub returns-in-Do : goal.returns-in-Do
returns-in-Do c =
    let ls = script_lines c.args.script.now in
    simple_front ls c.args.at c.settled-at.result c.in-Do.simple (accepts-script_lines c.args.script.now) c.settled-at.ensures (says ls c.settled-at.result _ _ c.in_ok-simple.ensures.line c.in-Do.is)

pub returns-in-While : goal.returns-in-While
returns-in-While c =
    let ls = script_lines c.args.script.now in
    loop_front ls c.args.at c.settled-at.result c.in-While.condition (accepts-script_lines c.args.script.now) c.settled-at.ensures (says ls c.settled-at.result _ _ c.in_ok-simple.ensures.line c.in-While.is)

pub returns-in-If : goal.returns-in-If
returns-in-If c =
    let ls = script_lines c.args.script.now in
    choice_front ls c.args.at c.settled-at.result c.in-If.condition (accepts-script_lines c.args.script.now) c.settled-at.ensures (says ls c.settled-at.result _ _ c.in_ok-simple.ensures.line c.in-If.is)

pub returns-in-Try : goal.returns-in-Try
returns-in-Try c =
    let ls = script_lines c.args.script.now in
    guarded_front ls c.args.at c.settled-at.result (accepts-script_lines c.args.script.now) c.settled-at.ensures (says ls c.settled-at.result _ _ c.in_ok-simple.ensures.line c.in-Try.is)

pub returns-in-Catch : goal.returns-in-Catch
returns-in-Catch c =
    let ls = script_lines c.args.script.now in
    mark_front ls c.args.at c.settled-at.result _ _ (accepts-script_lines c.args.script.now) c.settled-at.ensures (says ls c.settled-at.result _ _ c.in_ok-simple.ensures.line c.in-Catch.is)

pub returns-in_default : goal.returns-in_default
returns-in_default c =
    let ls = script_lines c.args.script.now in
    no_front ls c.args.at c.settled-at.result c.in_ok-simple.field-0.now (accepts-script_lines c.args.script.now) c.settled-at.ensures (sym c.in_ok-simple.ensures.line)
    c.in_default.not-Do c.in_default.not-While c.in_default.not-If c.in_default.not-Try c.in_default.not-Catch
