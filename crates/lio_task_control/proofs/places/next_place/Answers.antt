use Rattle.std.proofs.Common.{◌∙◌, ap}
use Rattle.lio_syntax.specs.Lines.{script_lines}
use Rattle.lio_syntax.proofs.GrammarLemmas.{accepts-script_lines}
use Rattle.lio_syntax.specs.Items.{rest_of}
use Rattle.lio_task_control.specs.Continuation.{items_at}
use Rattle.lio_task_control.proofs.ExitLemmas.{goes_behind}
use Rattle.lio_task_control.proofs.places.next_place.Goals as goal

pub returns : goal.returns
returns c =
    let ls = script_lines c.args.script.now in
    let s = c.settled-at.ensures in
    ap (items_at ls) c.behind.ensures ∙ goes_behind ls c.settled-at.result (accepts-script_lines c.args.script.now) s.ends ∙ ap rest_of s.same
