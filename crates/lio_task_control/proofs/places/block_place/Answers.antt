use Rattle.std.proofs.Common.{◌∙◌, ap, sym}
use Rattle.lio_syntax.specs.Lines.{script_lines}
use Rattle.lio_syntax.proofs.GrammarLemmas.{accepts-script_lines}
use Rattle.lio_task_control.specs.Continuation.{items_at}
use Rattle.lio_task_control.specs.Front.{entered}
use Rattle.lio_task_control.proofs.BlockLemmas.{says}
use Rattle.lio_task_control.proofs.ItemLemmas.{if_entered, while_entered, try_entered}
use Rattle.lio_task_control.proofs.ExitLemmas.{goes_behind}
use Rattle.lio_task_control.proofs.FrontLemmas.{line_entered, past_entered}
use Rattle.lio_task_control.proofs.places.block_place.Goals as goal

pub returns-in-If : goal.returns-in-If
returns-in-If c =
    let ls = script_lines c.args.script.now in
    if_entered ls c.settled-at.result _ (accepts-script_lines c.args.script.now) (says ls c.settled-at.result _ _ c.in-Some.ensures.line c.in-If.is) ∙ ap entered c.settled-at.ensures.same

pub returns-in-While : goal.returns-in-While
returns-in-While c =
    let ls = script_lines c.args.script.now in
    while_entered ls c.settled-at.result _ (accepts-script_lines c.args.script.now) (says ls c.settled-at.result _ _ c.in-Some.ensures.line c.in-While.is) ∙ ap entered c.settled-at.ensures.same

pub returns-in-Try : goal.returns-in-Try
returns-in-Try c =
    let ls = script_lines c.args.script.now in
    try_entered ls c.settled-at.result (accepts-script_lines c.args.script.now) (says ls c.settled-at.result _ _ c.in-Some.ensures.line c.in-Try.is) ∙ ap entered c.settled-at.ensures.same

pub returns-in_default : goal.returns-in_default
returns-in_default c = past_entered (script_lines c.args.script.now) c.args.at c.settled-at.result (accepts-script_lines c.args.script.now) c.settled-at.ensures (sym c.in_default.ensures.line)

pub returns-in_default-line : goal.returns-in_default-line
returns-in_default-line c =
    let ls = script_lines c.args.script.now in
    let s = c.settled-at.ensures in
    ap (items_at ls) c.behind.ensures ∙ goes_behind ls c.settled-at.result (accepts-script_lines c.args.script.now) s.ends
    ∙ line_entered ls c.args.at c.settled-at.result c.in-Some.line.now (accepts-script_lines c.args.script.now) s (sym c.in-Some.ensures.line) c.in_default-line.not-If c.in_default-line.not-While c.in_default-line.not-Try
