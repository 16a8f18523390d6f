-- The laws of scripts.
use Rattle.std.proofs.Common.{List, ap, sym, subst, ◌∙◌, IsTrue}
use Rattle.lio_syntax_lines.specs.declared.line.Line.{Line}
use Rattle.lio_syntax.specs.Behind.{script_of_lines}
use Rattle.lio_syntax.specs.Laws.{PlacedLinesAreOfScripts, TextHasOneScript}
use Rattle.lio_syntax.specs.OpenBlocks.{are_placed}
use Rattle.lio_syntax.specs.ScriptCode.{script_of_lines-script_lines}
use Rattle.lio_syntax.proofs.GrammarLemmas.{script_lines-accepted, accepts-script_lines}

pub text_has_one_script : TextHasOneScript
text_has_one_script names text one other h k =
    sym (script_of_lines-script_lines one) ∙ ap script_of_lines (sym h.lines ∙ k.lines) ∙ script_of_lines-script_lines other

pub placed_lines_are_of_scripts : PlacedLinesAreOfScripts
placed_lines_are_of_scripts lines = (
  λ placed. (script_of_lines lines, script_lines-accepted lines placed),
  λ p. subst (λ (ls : List Line). IsTrue (are_placed ls)) p.1 (accepts-script_lines p.0),
)
