use Rattle.std.proofs.Common.{◌∙◌, ap, sym}
use Rattle.lio_syntax.specs.Lines.{script_lines}
use Rattle.lio_syntax.proofs.GrammarLemmas.{accepts-script_lines}
use Rattle.lio_task_control.specs.Continuation.{items_at}
use Rattle.lio_task_control.specs.Front.{entered_other}
use Rattle.lio_task_control.proofs.BlockLemmas.{says}
use Rattle.lio_task_control.proofs.ItemLemmas.{other_entered, none_entered}
use Rattle.lio_task_control.proofs.ExitLemmas.{goes_behind}
use Rattle.lio_task_control.proofs.FrontLemmas.{line_other, past_other}
use Rattle.lio_task_control.proofs.places.other_place.Goals as goal

pub returns-in-Some-else_of : goal.returns-in-Some-else_of
returns-in-Some-else_of c =
    let ls = script_lines c.args.script.now in
    other_entered ls c.settled-at.result c.in-Some-else_of.place _ (accepts-script_lines c.args.script.now) (says ls c.settled-at.result _ _ c.in-Some.ensures.line c.in-If.is) c.in-Some-else_of.ensures.place
    ∙ ap entered_other c.settled-at.ensures.same

pub returns-in-None : goal.returns-in-None
returns-in-None c =
    let ls = script_lines c.args.script.now in
    let s = c.settled-at.ensures in
    ap (items_at ls) c.behind.ensures ∙ goes_behind ls c.settled-at.result (accepts-script_lines c.args.script.now) s.ends
    ∙ none_entered ls c.settled-at.result _ (accepts-script_lines c.args.script.now) (says ls c.settled-at.result _ _ c.in-Some.ensures.line c.in-If.is) c.in-None.ensures.place
    ∙ ap entered_other s.same

pub returns-in_default : goal.returns-in_default
returns-in_default c = past_other (script_lines c.args.script.now) c.args.at c.settled-at.result (accepts-script_lines c.args.script.now) c.settled-at.ensures (sym c.in_default.ensures.line)

pub returns-in_default-line : goal.returns-in_default-line
returns-in_default-line c =
    let ls = script_lines c.args.script.now in
    let s = c.settled-at.ensures in
    ap (items_at ls) c.behind-in_default-line.ensures ∙ goes_behind ls c.settled-at.result (accepts-script_lines c.args.script.now) s.ends
    ∙ line_other ls c.args.at c.settled-at.result c.in-Some.line.now (accepts-script_lines c.args.script.now) s (sym c.in-Some.ensures.line) c.in_default-line.not-If
