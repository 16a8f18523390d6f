use Rattle.std.proofs.Common.{◌∙◌, sym}
use Rattle.lio_syntax.specs.Lines.{script_lines}
use Rattle.lio_task_control.proofs.BlockLemmas.{says}
use Rattle.lio_task_control.proofs.ExitLemmas.{proc_body}
use Rattle.lio_task_control.proofs.FrameLemmas.{body_begins, body_none, body_other}
use Rattle.lio_task_control.proofs.places.begins_procedure.Goals as goal

pub returns-in_default-clause-body : goal.returns-in_default-clause-body
returns-in_default-clause-body c = body_none (script_lines c.args.script.now) c.args.at (sym c.in_default.ensures.line)

pub returns-in-Proc-clause-body : goal.returns-in-Proc-clause-body
returns-in-Proc-clause-body c =
    let ls = script_lines c.args.script.now in
    let is = says ls c.args.at _ _ c.in-Some.ensures.line c.in-Proc.is in
    proc_body ls c.args.at _ _ is ∙ body_begins ls c.args.at _ _ is

pub returns-in_default-line-clause-body : goal.returns-in_default-line-clause-body
returns-in_default-line-clause-body c = body_other (script_lines c.args.script.now) c.args.at c.in-Some.line.now (sym c.in-Some.ensures.line) c.in_default-line.not-Proc
