use Rattle.std.proofs.Common.{ℕ, List, ap, sym, ◌∙◌}
use Rattle.lio_syntax_lines.specs.declared.line.Line.{Line}
use Rattle.lio_syntax.specs.Statements.{Procedure}
use Rattle.lio_syntax.specs.declared.script.Kept.{Kept}
use Rattle.lio_syntax.specs.Headers.{count_in}
use Rattle.lio_syntax.specs.Behind.{script_of_lines}
use Rattle.lio_syntax.specs.Beginnings.{beginnings, number_in, number_of}
use Rattle.lio_syntax.proofs.FaultLemmas.{keeps-lines}
use Rattle.lio_syntax.proofs.BeginningLemmas.{number_in-script, number_of-within, few_procedures}
use Rattle.lio_syntax.proofs.script.Script.procedure_number.Goals as goal

number-is : goal.returns-clause-number
number-is c =
    let lines : List Line = c.self.inside.kept.value.lines.items in
    let name : List ℕ = c.args.name.now in
    c.number.ensures ∙ ap (λ (kept : Kept). count_in kept.procedures.numbers name) c.deref.ensures ∙ c.self.invariant.3.numbers name ∙ ap (λ (ls : List Line). number_in (beginnings 0 ls) name) (sym (keeps-lines lines c.self.invariant.0))
    ∙ number_in-script (script_of_lines lines) name ∙ ap (λ (s : List Procedure). number_of s name) c.self.view_is

pub returns-clause-number : goal.returns-clause-number
returns-clause-number c = number-is c

pub returns-clause-within : goal.returns-clause-within
returns-clause-within c = number_of-within c.args.self.now c.args.name.now c.number.result (number-is c)

pub returns-clause-few : goal.returns-clause-few
returns-clause-few c = few_procedures c.self.inside.kept.value.lines.items c.args.self.now c.self.inside.kept.value.procedures c.self.invariant.0 c.self.view_is c.self.invariant.3
