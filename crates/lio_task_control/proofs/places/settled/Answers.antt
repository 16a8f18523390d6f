use Rattle.std.proofs.Common.{subst, sym}
use Rattle.lio_syntax.specs.Lines.{script_lines}
use Rattle.lio_syntax.proofs.GrammarLemmas.{accepts-script_lines}
use Rattle.lio_task_control.specs.Parts.{SettlesAt}
use Rattle.lio_task_control.proofs.BlockLemmas.{says}
use Rattle.lio_task_control.proofs.ExitLemmas.{else_settles, end_settles}
use Rattle.lio_task_control.proofs.places.settled.Goals as goal

pub returns-in-Some-Else : goal.returns-in-Some-Else
returns-in-Some-Else c =
    let ls = script_lines c.args.script.now in
    subst (SettlesAt ls c.args.at) (sym c.behind.ensures) (else_settles ls c.args.at (accepts-script_lines c.args.script.now) (says ls c.args.at _ _ c.in-Some-Else.ensures.line c.in-Some-Else.field-0-is))

pub returns-in-Some-End : goal.returns-in-Some-End
returns-in-Some-End c =
    let ls = script_lines c.args.script.now in
    subst (SettlesAt ls c.args.at) (sym c.behind-in-Some-End.ensures) (end_settles ls c.args.at (accepts-script_lines c.args.script.now) (says ls c.args.at _ _ c.in-Some-End.ensures.line c.in-Some-End.field-0-is))
