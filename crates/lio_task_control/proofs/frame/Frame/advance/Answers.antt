use Rattle.std.proofs.Common.{◌∙◌}
use Rattle.lio_syntax.specs.Lines.{script_lines}
use Rattle.lio_task_control.specs.Continuation.{items_at}
use Rattle.lio_task_control.proofs.FrameLemmas.{gone_past}
use Rattle.lio_task_control.proofs.frame.Frame.advance.Goals as goal

pub returns-clause-items : goal.returns-clause-items
returns-clause-items c =
    let ls = script_lines c.args.script.now in
    c.go_to.ensures.items ls ∙ gone_past ls c.args.self.now.at c.args.self.now.stage (items_at ls c.next_place.result) c.next_place.ensures
