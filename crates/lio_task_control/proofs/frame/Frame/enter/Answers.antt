use Rattle.std.proofs.Common.{◌∙◌}
use Rattle.lio_syntax.specs.Lines.{script_lines}
use Rattle.lio_task_control.specs.Continuation.{items_at}
use Rattle.lio_task_control.proofs.FrameLemmas.{gone_in}
use Rattle.lio_task_control.proofs.frame.Frame.enter.Goals as goal

pub returns-clause-items : goal.returns-clause-items
returns-clause-items c =
    let ls = script_lines c.args.script.now in
    c.go_to.ensures.items ls ∙ gone_in ls c.args.self.now.at c.args.self.now.stage (items_at ls c.block_place.result) c.block_place.ensures
