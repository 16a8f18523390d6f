use Rattle.std.proofs.Common.{◌≡◌, ◌<◌, Some, ap, sym, refl, ◌∙◌, length, get_or}
use borrow.Author.Tests.{ltb-true}
use Rattle.std.specs.Prelude.{slice_get}
use Rattle.std.proofs.lemmas.Option.{slice_get_read}
use Rattle.lio_syntax_lines.specs.declared.line.Line.TheVariants as line
use Rattle.lio_syntax.specs.Lines.{script_lines}
use Rattle.lio_task_turns.proofs.ProcedureLemmas.{numbered_is}
use Rattle.lio_task_turns.proofs.procedure.Procedure.numbered.Goals as goal

pub returns-clause-procedure : goal.returns-clause-procedure
returns-clause-procedure c =
    let within : c.procedure_line-line.result < length c.lines.result.now = ltb-true _ _ (sym c.in-Some-Proc.ensures.lookup.0) in
    let read : c.in-Some-Proc.field-0.now ≡ get_or c.lines.result.now c.procedure_line-line.result c.in-Some-Proc.field-0.now = c.in-Some-Proc.ensures.lookup.1 in
    let found : slice_get (script_lines c.args.script.now) c.procedure_line-line.result ≡ Some (line.Proc c.in-Some-Proc.field-0-0 c.in-Some-Proc.parameters) =
    ap (λ ls. slice_get ls c.procedure_line-line.result) c.lines.ensures.lines ∙ slice_get_read c.lines.result.now _ c.procedure_line-line.result c.in-Some-Proc.field-0.now refl within read ∙ ap Some c.in-Some-Proc.field-0-is in
    numbered_is c.args.script.now c.args.number c.procedure_line-line.result c.in-Some-Proc.field-0-0 c.in-Some-Proc.parameters c.procedure_line-line.ensures found
