use Rattle.std.proofs.Common.{ap, sym}
use Rattle.lio_syntax.specs.Lines.{script_lines}
use Rattle.lio_syntax.proofs.GrammarLemmas.{accepts-script_lines}
use Rattle.lio_syntax.specs.declared.places.Place.{Place}
use Rattle.lio_task_control.proofs.BlockLemmas.{says}
use Rattle.lio_task_control.proofs.ExitLemmas.{past_caught, none_caught, other_caught, is_caught}
use Rattle.lio_task_control.proofs.places.handler_at.Goals as goal

pub returns-in_err-catch : goal.returns-in_err-catch
returns-in_err-catch c = rw c.from_residual.ensures (past_caught (script_lines c.args.script.now) c.args.at (accepts-script_lines c.args.script.now) c.in_err-catch.ensures)

pub returns-in_err-code : goal.returns-in_err-code
returns-in_err-code c =
    let ls = script_lines c.args.script.now in
    rw c.from_residual-in_err-code.ensures (none_caught ls c.args.at c.in_ok-catch.field-0.now.handler (accepts-script_lines c.args.script.now) (ap (λ (p : Place). p.handler) c.in_ok-catch.ensures) (sym c.in_err-code.ensures.line))

pub returns-in-Catch : goal.returns-in-Catch
returns-in-Catch c =
    let ls = script_lines c.args.script.now in
    is_caught ls c.args.at c.in_ok-catch.field-0.now.handler c.in-Catch.code c.in-Catch.payload (accepts-script_lines c.args.script.now) (ap (λ (p : Place). p.handler) c.in_ok-catch.ensures)
    (says ls c.in_ok-catch.field-0.now.handler _ _ c.in_ok-code.ensures.line c.in-Catch.is)

pub returns-in_default : goal.returns-in_default
returns-in_default c =
    let ls = script_lines c.args.script.now in
    other_caught ls c.args.at c.in_ok-catch.field-0.now.handler c.in_ok-code.field-0.now (accepts-script_lines c.args.script.now) (ap (λ (p : Place). p.handler) c.in_ok-catch.ensures) (sym c.in_ok-code.ensures.line) c.in_default.not-Catch
