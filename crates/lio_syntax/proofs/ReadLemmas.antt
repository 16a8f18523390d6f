-- How far the reading of a text has come.
use Rattle.std.proofs.Common.{◌≡◌, ℕ, ◌+◌, ◌≤◌, true, false, List, [], ◌∷◌, ◌++◌, length, map, refl, ap, sym, ◌∙◌, ◌<◌, arith, Option, Some, None, append_assoc, All, subst}
use Rattle.std.proofs.lemmas.List.{append-nil}
use Rattle.std.proofs.lemmas.Bool.Decides.{nat_tests}
use Rattle.std.specs.Prelude.{nat_lt}
use Rattle.lio_syntax_lines.specs.declared.line.Line.{Line}
use Rattle.lio_syntax_lines.specs.declared.line.ParsedLine.{ParsedLine}
use Rattle.lio_syntax_lines.specs.Line.{line_of}
use Rattle.lio_syntax_lines.specs.Header.{Signature, parsed_header}
use Rattle.lio_syntax_lines.specs.Line.{IsLine}
use Rattle.lio_syntax.specs.declared.fault.ScriptFault.{ScriptFault}
use Rattle.lio_syntax.specs.declared.fault.ScriptFault.TheVariants.{Bad, NoMemory}
use Rattle.lio_syntax.specs.declared.progress.Progress.{Progress}
use Rattle.lio_syntax.specs.Behind.{script_of_lines}
use Rattle.lio_syntax.specs.Kept.{KeepsRules}
use Rattle.lio_syntax.specs.Lines.{script_lines}
use Rattle.lio_syntax.specs.OpenBlocks.{open_behind}
use Rattle.lio_syntax.specs.Progress.{Stands}
use Rattle.lio_syntax.specs.Refusal.{Refuses}
use Rattle.lio_syntax.specs.Rules.{broken_rule, or_else, count_if_named, parameters_of}
use Rattle.lio_syntax.specs.Statements.{Procedure}
use Rattle.lio_syntax.specs.Verdict.{Place, text_lines, parsed_lines, said, unclosed, fault_or, first_fault, lines_fault, script_fault, IsScript, IsOver}
use Rattle.lio_syntax.proofs.FaultLemmas.{none-keeps, keeps-lines}
use Rattle.lio_syntax.proofs.HeaderLemmas.{or_else-none, or_else-assoc}

-- the reading stands behind lines that break no rule, before the rest
pub record Reached (all : List ParsedLine) (progress : Progress) (rest : List ParsedLine) : Type 0 where
  pub before : List ParsedLine
  pub whole : all ≡ before ++ rest
  pub stands : Stands progress before
  pub fault : lines_fault all ≡ first_fault all before rest

-- before the first line
pub reached-start : (all : List ParsedLine) (progress : Progress) → Stands progress [] → Reached all progress all
reached-start all progress stands = record { before = []; whole = refl; stands = stands; fault = refl }

-- a line that breaks no rule
pub reached-step : (all : List ParsedLine) (old new : Progress) (line : ParsedLine) (rest : List ParsedLine) (reached : Reached all old (line ∷ rest))
    → (broken_rule all reached.before line ≡ None) × Stands new (reached.before ++ line ∷ []) → Reached all new rest
unfolding first_fault
reached-step all old new line rest reached step = record {
  before = reached.before ++ line ∷ [];
  whole = reached.whole ∙ sym (append_assoc reached.before (line ∷ []) rest);
  stands = step.1;
  fault = reached.fault ∙ ap (λ rule. fault_or rule (length reached.before + 1) (first_fault all (reached.before ++ line ∷ []) rest)) step.0;
}

abbrev pub at_place : ℕ → ℕ → Place
at_place line rule = record { line = line; rule = rule }

fault_kept : (rule : Option ℕ) (line : ℕ) (more : Option Place) (fault : ScriptFault) → Refuses (fault_or rule line None) fault → Refuses (fault_or rule line more) fault
fault_kept rule line more NoMemory h = h
fault_kept (Some rule) line more (Bad l r) h = h
fault_kept None line more (Bad l r) h = let none : None ≡ Some (at_place l r) = h in absurd (cc)

refuses_along : (p q : Option Place) (fault : ScriptFault) → p ≡ q → Refuses q fault → Refuses p fault
refuses_along p q (Bad line rule) e h = e ∙ h
refuses_along p q NoMemory e h = h

pub short : (names : List (List ℕ)) (text : List ℕ) → length text ≤ 262144 → script_fault names text ≡ lines_fault (parsed_lines names text)
unfolding script_fault
short names text few = let no : nat_lt 262144 (length text) ≡ false = grind (arith, nat_tests) in rw no refl

-- a line that breaks a rule
pub reached-fault : (names : List (List ℕ)) (text : List ℕ) (progress : Progress) (line : ParsedLine) (rest : List ParsedLine) (fault : ScriptFault) → length text ≤ 262144
    → (reached : Reached (parsed_lines names text) progress (line ∷ rest))
    → Refuses (fault_or (broken_rule (parsed_lines names text) reached.before line) (length reached.before + 1) None) fault
    → Refuses (script_fault names text) fault
unfolding first_fault
reached-fault names text progress line rest fault few reached h =
    refuses_along _ _ fault (short names text few ∙ reached.fault) (fault_kept _ (length reached.before + 1) _ fault h)

-- something is open in the end
pub reached-unclosed : (names : List (List ℕ)) (text : List ℕ) (progress : Progress) (fault : ScriptFault) → length text ≤ 262144
    → (reached : Reached (parsed_lines names text) progress [])
    → Refuses (unclosed (length reached.before + 1) (open_behind reached.before)) fault
    → Refuses (script_fault names text) fault
unfolding first_fault
reached-unclosed names text progress fault few reached h = refuses_along _ _ fault (short names text few ∙ reached.fault) h

none_open : (all : List ParsedLine) (progress : Progress) (reached : Reached all progress []) → open_behind reached.before ≡ [] → lines_fault all ≡ None
unfolding first_fault
none_open all progress reached closed = reached.fault ∙ ap (unclosed (length reached.before + 1)) closed

said_all : (all : List ParsedLine) (progress : Progress) (reached : Reached all progress []) → progress.lines.items ≡ said all
said_all all progress reached = reached.stands.lines ∙ ap said (sym (reached.whole ∙ append-nil reached.before))

-- nothing is open in the end
pub reached-keeps : (all : List ParsedLine) (progress : Progress) (lines : List Line) (reached : Reached all progress []) → lines ≡ progress.lines.items → open_behind reached.before ≡ [] → KeepsRules lines
reached-keeps all progress lines reached same closed =
    rw (same, said_all all progress reached) (none-keeps all (none_open all progress reached closed))

pub reached-script : (names : List (List ℕ)) (text : List ℕ) (progress : Progress) (lines : List Line) (script : List Procedure) → length text ≤ 262144
    → (reached : Reached (parsed_lines names text) progress []) → lines ≡ progress.lines.items → open_behind reached.before ≡ [] → script ≡ script_of_lines lines
    → IsScript names text script
reached-script names text progress lines script few reached same closed is = record {
  no_fault = short names text few ∙ none_open (parsed_lines names text) progress reached closed;
  lines = sym (same ∙ said_all (parsed_lines names text) progress reached) ∙ sym (ap script_lines is ∙ keeps-lines lines (reached-keeps (parsed_lines names text) progress lines reached same closed));
}

-- the first line of a rest, as it is read
pub parsed-split : (names : List (List ℕ)) (rest line behind : List ℕ) (parsed : ParsedLine) → text_lines rest ≡ line ∷ text_lines behind → parsed ≡ line_of names line
    → parsed_lines names rest ≡ parsed ∷ parsed_lines names behind
parsed-split names rest line behind parsed e is = ap (map (line_of names)) e ∙ ap (λ p. p ∷ parsed_lines names behind) (sym is)

-- no line is left
pub parsed-none : (names : List (List ℕ)) (rest : List ℕ) → text_lines rest ≡ [] → parsed_lines names rest ≡ []
parsed-none names rest e = ap (map (line_of names)) e

-- the procedures of a rest are that of its first line and those behind it
pub headers-step : (names : List (List ℕ)) (rest line behind q : List ℕ) (all old new : Option ℕ) (header : Option Signature)
    → all ≡ or_else old (parameters_of (parsed_lines names rest) q) → text_lines rest ≡ line ∷ text_lines behind → parsed_header (line_of names line) ≡ header
    → new ≡ or_else old (count_if_named q header) → all ≡ or_else new (parameters_of (parsed_lines names behind) q)
unfolding parameters_of
headers-step names rest line behind q all old new header e split is more =
    e ∙ ap (λ lines. or_else old (parameters_of lines q)) (parsed-split names rest line behind (line_of names line) split refl)
    ∙ sym (or_else-assoc old (count_if_named q (parsed_header (line_of names line))) (parameters_of (parsed_lines names behind) q))
    ∙ ap (λ h. or_else (or_else old (count_if_named q h)) (parameters_of (parsed_lines names behind) q)) is
    ∙ ap (λ o. or_else o (parameters_of (parsed_lines names behind) q)) (sym more)

pub headers-end : (names : List (List ℕ)) (rest q : List ℕ) (all old : Option ℕ) → all ≡ or_else old (parameters_of (parsed_lines names rest) q) → text_lines rest ≡ [] → old ≡ all
unfolding parameters_of
headers-end names rest q all old e none = sym (e ∙ ap (λ lines. or_else old (parameters_of lines q)) (parsed-none names rest none) ∙ or_else-none old)

-- more than 262,144 bytes
pub too_long : (names : List (List ℕ)) (text : List ℕ) → 262144 < length text → script_fault names text ≡ Some (at_place 0 7)
unfolding script_fault
too_long names text many = let yes : nat_lt 262144 (length text) ≡ true = grind (arith, nat_tests) in rw yes refl

-- each line of the script is over the names
pub over-script : (names : List (List ℕ)) (lines : List Line) (script : List Procedure) → KeepsRules lines → script ≡ script_of_lines lines → All (IsLine names) lines → IsOver names script
over-script names lines script keeps is over = let same : script_lines script ≡ lines = ap script_lines is ∙ keeps-lines lines keeps in subst (All (IsLine names)) (sym same) over
