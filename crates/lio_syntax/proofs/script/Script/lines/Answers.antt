use Rattle.std.proofs.Common.{sym, ap, ◌∙◌}
use Rattle.lio_syntax.specs.declared.script.Kept.{Kept}
use Rattle.lio_syntax.specs.Lines.{script_lines}
use Rattle.lio_syntax.proofs.FaultLemmas.{keeps-lines}
use Rattle.lio_syntax.proofs.script.Script.lines.Goals as goal

pub returns-clause-lines : goal.returns-clause-lines
returns-clause-lines c = ap script_lines (sym c.self.view_is) ∙ keeps-lines c.self.inside.kept.value.lines.items c.self.invariant.0 ∙ sym (c.as_slice.ensures.value ∙ ap (λ (kept : Kept). kept.lines.items) c.deref.ensures)
