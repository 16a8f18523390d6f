use Rattle.lio_task_control.proofs.FrameLemmas.{access_stage}
use Rattle.lio_task_control.proofs.frame.Frame.access.Goals as goal

pub returns-clause-items : goal.returns-clause-items
returns-clause-items c = λ lines. access_stage lines c.args.self.now.at c.args.self.now.stage
