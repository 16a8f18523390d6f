-- What is printed of a script is read as it.
use Rattle.std.proofs.Common.{◌≡◌, ℕ, suc, ◌≤◌, ◌==◌, Bool, true, false, not, All, List, [], ◌∷◌, ◌++◌, length, map, refl, ap, sym, arith, ◌∙◌, None, codes, true≢false}
use Rattle.std.proofs.lemmas.Bool.{and_parts}
use Rattle.std.specs.List.{list_all, onto_first}
use Rattle.lio_clauses.specs.Names.{AreNames}
use Rattle.lio_syntax_lines.proofs.LabelLemmas.{is_inline}
use Rattle.lio_syntax_lines.specs.declared.line.Line.{Line}
use Rattle.lio_syntax_lines.specs.declared.line.ParsedLine.TheVariants.{Says}
use Rattle.lio_syntax_lines.specs.Line.{line_of}
use Rattle.lio_syntax_lines.specs.Line.{line_text}
use Rattle.lio_syntax_lines.specs.Line.{IsLine}
use Rattle.lio_syntax_lines.proofs.PrintedLines.{line_inline, line_is_read}
use Rattle.lio_syntax.specs.Kept.{KeepsRules}
use Rattle.lio_syntax.specs.Lines.{script_lines}
use Rattle.lio_syntax.specs.ScriptText.{lines_text, script_text}
use Rattle.lio_syntax.specs.Statements.{Procedure}
use Rattle.lio_syntax.specs.Verdict.{text_lines, parsed_lines, said, lines_fault, IsScript, IsOver}
use Rattle.lio_syntax.proofs.FaultLemmas.{is_none-none, said_says}
use Rattle.lio_syntax.proofs.ReadLemmas.{short}

not_false : (b : Bool) → not b ≡ true → b ≡ false
not_false true e = absurd (true≢false (sym e))
not_false false e = refl

-- a line without a line end in it
text_lines-line : (line rest : List ℕ) → list_all is_inline line ≡ true → text_lines ((line ++ codes "\n") ++ rest) ≡ line ∷ text_lines rest
unfolding text_lines
text_lines-line [] rest all = refl
text_lines-line (byte ∷ line) rest all =
    let parts = and_parts (is_inline byte) (list_all is_inline line) all in
    let here : (byte == 10) ≡ false = not_false (byte == 10) (and_parts (not (byte == 10)) (not (byte == 13)) parts.0).0 in
    rw here (ap (onto_first byte) (text_lines-line line rest parts.1))

text_lines-lines : (names : List (List ℕ)) (lines : List Line) → AreNames names → All (IsLine names) lines → text_lines (lines_text names lines) ≡ map (line_text names) lines
unfolding text_lines lines_text
text_lines-lines names [] known all = refl
text_lines-lines names (line ∷ lines) known all =
    text_lines-line (line_text names line) (lines_text names lines) (line_inline names line known (all 0 line (omega arith)))
    ∙ ap (λ ls. line_text names line ∷ ls) (text_lines-lines names lines known (λ k d l. all (suc k) d (omega arith)))

parsed_all : (names : List (List ℕ)) (lines : List Line) → AreNames names → All (IsLine names) lines → map (line_of names) (map (line_text names) lines) ≡ map Says lines
parsed_all names [] known all = refl
parsed_all names (line ∷ lines) known all =
    rw (line_is_read names line known (all 0 line (omega arith))) (ap (λ ls. Says line ∷ ls) (parsed_all names lines known (λ k d l. all (suc k) d (omega arith))))

-- the text of a script, where it isn't too long, is read as the script
pub script_is_read : (names : List (List ℕ)) (script : List Procedure) (lines : List Line) → AreNames names → IsOver names script → script_lines script ≡ lines → KeepsRules lines
    → length (script_text names script) ≤ 262144 → IsScript names (script_text names script) script
script_is_read names script lines known over same keeps few =
    let parsed : parsed_lines names (script_text names script) ≡ map Says (script_lines script) =
    ap (map (line_of names)) (text_lines-lines names (script_lines script) known over) ∙ parsed_all names (script_lines script) known over in
    let none : lines_fault (map Says lines) ≡ None = is_none-none (lines_fault (map Says lines)) keeps in
    record {
      no_fault = short names (script_text names script) few ∙ ap lines_fault (parsed ∙ ap (map Says) same) ∙ none;
      lines = ap said parsed ∙ said_says (script_lines script);
    }
