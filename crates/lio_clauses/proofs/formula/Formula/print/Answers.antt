use Rattle.std.proofs.Common.{◌∙◌, ◌++◌, ap}
use Rattle.lio_clauses.specs.FormulaPrint.{formula_text}
use Rattle.lio_clauses.specs.FormulaText.{reading}
use Rattle.lio_clauses.proofs.PrintedLemmas.{reads_kept}
use Rattle.lio_clauses.proofs.formula.Formula.print.Goals as goal

pub returns-clause-read : goal.returns-clause-read
returns-clause-read c =
    ap (reading c.args.names.now) (c.in_ok-append_formula.ensures.ok ∙ ap (λ bytes. bytes ++ formula_text c.args.names.now c.args.self.now) c.new-text.ensures.items)
    ∙ reads_kept c.args.names.now c.clauses.result.now c.args.self.now c.len.ensures.names c.clauses.ensures.canonical c.clauses.ensures.masks c.clauses.ensures.few c.requires
