use Rattle.std.proofs.Common.{◌<◌, List, length, map, ap, sym, subst, ◌∙◌, arith}
use Rattle.lio_syntax_lines.specs.declared.line.Line.{Line}
use Rattle.lio_syntax.specs.Statements.{Procedure}
use Rattle.lio_syntax.specs.Behind.{script_of_lines}
use Rattle.lio_syntax.specs.declared.script.Kept.{Kept}
use Rattle.lio_syntax.specs.Beginnings.{Beginning, beginnings, BeginsAt}
use Rattle.lio_syntax.proofs.FaultLemmas.{keeps-lines}
use Rattle.lio_syntax.proofs.BeginningLemmas.{begins_at, length-places}
use Rattle.lio_syntax.proofs.script.Script.procedure_line.Goals as goal

pub line-requires : goal.line-requires
line-requires c =
    let lines : List Line = c.self.inside.kept.value.lines.items in
    let places = ap (λ (kept : Kept). kept.procedures.places.items) c.deref.ensures ∙ c.self.invariant.3.places ∙ ap (λ (ls : List Line). map (λ (b : Beginning). b.at) (beginnings 0 ls)) (sym (keeps-lines lines c.self.invariant.0)) in
    omega (arith, length-places (script_of_lines lines) c.deref.result.now.procedures.places.items places, ap length c.self.view_is, c.requires)

pub returns : goal.returns
returns c =
    let lines : List Line = c.self.inside.kept.value.lines.items in
    let script : List Procedure = script_of_lines lines in
    let places = ap (λ (kept : Kept). kept.procedures.places.items) c.deref.ensures ∙ c.self.invariant.3.places ∙ ap (λ (ls : List Line). map (λ (b : Beginning). b.at) (beginnings 0 ls)) (sym (keeps-lines lines c.self.invariant.0)) in
    let within : c.args.number < length script = omega (arith, ap length c.self.view_is, c.requires) in
    subst (λ (s : List Procedure). BeginsAt s c.args.number c.line.result) c.self.view_is
    (subst (BeginsAt script c.args.number) (sym c.line.ensures) (begins_at script c.deref.result.now.procedures.places.items c.args.number places within))
