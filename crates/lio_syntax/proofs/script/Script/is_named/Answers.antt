use Rattle.std.proofs.Common.{◌≡◌, ◌<◌, Some, List, length, ap, sym, subst, refl, ◌∙◌, get_or}
use Rattle.std.specs.Prelude.{slice_get}
use Rattle.std.proofs.lemmas.Option.{slice_get_read}
use Rattle.std.proofs.lemmas.Slice.Eq.{bytes_eq-Decides}
use borrow.Author.Tests.{ltb-true}
use Rattle.lio_syntax_lines.specs.declared.line.Line.{Line}
use Rattle.lio_syntax_lines.specs.declared.line.Line.TheVariants as line
use Rattle.lio_syntax.specs.Statements.{Procedure}
use Rattle.lio_syntax.specs.declared.script.Kept.{Kept}
use Rattle.lio_syntax.specs.Beginnings.{number_of}
use Rattle.lio_syntax.specs.Behind.{script_of_lines}
use Rattle.lio_syntax.proofs.NameLemmas.{named_at}
use Rattle.lio_syntax.proofs.script.Script.is_named.Goals as goal

pub returns-in-Some-Proc : goal.returns-in-Some-Proc
returns-in-Some-Proc c = λ is_it.
    let kept : Kept = c.self.inside.kept.value in
    let lines : List Line = kept.lines.items in
    let read_lines : c.deref-in-Some-2.result.now ≡ lines = c.deref-in-Some-2.ensures.value ∙ ap (λ (k : Kept). k.lines.items) c.deref-in-Some.ensures in
    let within : c.in-Some.at < length c.deref-in-Some-2.result.now = ltb-true _ _ (sym c.in-Some-Proc.ensures.lookup.0) in
    let read : c.in-Some-Proc.field-0.now ≡ get_or c.deref-in-Some-2.result.now c.in-Some.at c.in-Some-Proc.field-0.now = c.in-Some-Proc.ensures.lookup.1 in
    let begins : slice_get lines c.in-Some.at ≡ Some (line.Proc c.in-Some-Proc.other c.in-Some-Proc.field-0-1) =
    ap (λ ls. slice_get ls c.in-Some.at) (sym read_lines) ∙ slice_get_read c.deref-in-Some-2.result.now _ c.in-Some.at c.in-Some-Proc.field-0.now refl within read ∙ ap Some c.in-Some-Proc.field-0-is in
    let found : slice_get kept.procedures.places.items c.args.number ≡ Some c.in-Some.at = ap (λ (k : Kept). slice_get k.procedures.places.items c.args.number) (sym c.deref.ensures) ∙ sym c.find_line.ensures ∙ c.in-Some.is in
    let same : c.in-Some-Proc.other ≡ c.args.name.now = (bytes_eq-Decides c.in-Some-Proc.other c.args.name.now).0 (sym c.is.ensures ∙ is_it) in
    let number : number_of (script_of_lines lines) c.in-Some-Proc.other ≡ Some c.args.number =
    named_at lines kept.procedures.places.items c.args.number c.in-Some.at c.in-Some-Proc.other c.in-Some-Proc.field-0-1 c.self.invariant.0 c.self.invariant.3.places found begins in
    subst (λ (s : List Procedure). number_of s c.args.name.now ≡ Some c.args.number) c.self.view_is (ap (number_of (script_of_lines lines)) (sym same) ∙ number)
