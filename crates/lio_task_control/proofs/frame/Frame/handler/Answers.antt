use Rattle.lio_syntax.specs.Lines.{script_lines}
use Rattle.lio_task_control.proofs.FrameLemmas.{rest_handles, access_handles, nothing_handles, fail_handles}
use Rattle.lio_task_control.proofs.frame.Frame.handler.Goals as goal

pub returns-in-Rest : goal.returns-in-Rest
returns-in-Rest c = rest_handles (script_lines c.args.script.now) c.args.self.now c.handler_at.result c.in-Rest.is c.handler_at.ensures

pub returns-in-Access : goal.returns-in-Access
returns-in-Access c = access_handles (script_lines c.args.script.now) c.args.self.now c.handler_at-in-Access.result c.in-Access.is c.handler_at-in-Access.ensures

pub returns-in-Nothing : goal.returns-in-Nothing
returns-in-Nothing c = nothing_handles (script_lines c.args.script.now) c.args.self.now c.in-Nothing.is

pub returns-in-Fail : goal.returns-in-Fail
returns-in-Fail c = fail_handles (script_lines c.args.script.now) c.args.self.now _ c.in-Fail.is
