-- On the lines before a place, and on lines that break no rule.
use Rattle.std.proofs.Common.{◌≡◌, ℕ, suc, ◌+◌, ◌≤◌, Bool, true, false, not, ◌&&◌, ◌||◌, List, [], ◌∷◌, ◌++◌, length, map, refl, ap, sym, ◌∙◌, arith, Option, Some, None, is_some, is_none, true≢false}
use Rattle.std.specs.Prelude.{nat_le, if◌then◌else◌}
use Rattle.std.proofs.lemmas.List.{map-append}
use Rattle.std.proofs.lemmas.Bool.Decides.{nat_tests}
use Rattle.lio_syntax_lines.specs.declared.line.Line.{Line}
use Rattle.lio_syntax_lines.specs.declared.line.ParsedLine.{ParsedLine}
use Rattle.lio_syntax_lines.specs.declared.line.ParsedLine.TheVariants.{Blank, Invalid, Says}
use Rattle.lio_syntax_lines.specs.Header.{Signature, header_of, parsed_header, line_call}
use Rattle.lio_syntax.specs.declared.open_block.OpenBlock.{OpenBlock}
use Rattle.lio_syntax.specs.Lines.{script_lines}
use Rattle.lio_syntax.specs.Behind.{script_of_lines}
use Rattle.lio_syntax.specs.OpenBlocks.{accepts, is_misplaced, opened_by, opened_behind, open_from, open_behind, block_count}
use Rattle.lio_syntax.specs.Rules.{or_else, count_if_named, parameters_of, procedure_count, is_unknown, has_other_count, is_again, opens_block, is_past_limits, broken_call, broken_header, broken_limit, broken_by, broken_rule}
use Rattle.lio_syntax.specs.Verdict.{Place, said, unclosed, fault_or, first_fault, lines_fault}
use Rattle.lio_syntax.specs.Kept.{KeepsRules}
use Rattle.lio_syntax.proofs.GrammarLemmas.{script_lines-accepted}
use Rattle.lio_syntax.proofs.HeaderLemmas.{or_else-assoc}

-- one line more
pub open_from-push : (blocks : List OpenBlock) (lines : List ParsedLine) (line : ParsedLine) → open_from blocks (lines ++ line ∷ []) ≡ opened_behind (open_from blocks lines) line
unfolding open_from
open_from-push blocks [] line = refl
open_from-push blocks (first ∷ lines) line = open_from-push (opened_behind blocks first) lines line

or_else-right : {X : Type 0} (o : Option X) → or_else o None ≡ o
or_else-right None = refl
or_else-right (Some x) = refl

pub parameters_of-push : (lines : List ParsedLine) (line : ParsedLine) (name : List ℕ)
    → parameters_of (lines ++ line ∷ []) name ≡ or_else (parameters_of lines name) (count_if_named name (parsed_header line))
unfolding parameters_of
parameters_of-push [] line name = or_else-right (count_if_named name (parsed_header line))
parameters_of-push (first ∷ lines) line name =
    ap (or_else (count_if_named name (parsed_header first))) (parameters_of-push lines line name)
    ∙ sym (or_else-assoc (count_if_named name (parsed_header first)) (parameters_of lines name) (count_if_named name (parsed_header line)))

count_step : (first line : Bool) (more count : ℕ) → more ≡ (if line then suc count else count)
    → (if first then suc more else more) ≡ (if line then suc (if first then suc count else count) else (if first then suc count else count))
count_step true true more count e = ap suc e
count_step true false more count e = ap suc e
count_step false true more count e = e
count_step false false more count e = e

pub procedure_count-push : (lines : List ParsedLine) (line : ParsedLine)
    → procedure_count (lines ++ line ∷ []) ≡ (if is_some (parsed_header line) then suc (procedure_count lines) else procedure_count lines)
unfolding procedure_count
procedure_count-push [] line = refl
procedure_count-push (first ∷ lines) line =
    count_step (is_some (parsed_header first)) (is_some (parsed_header line)) (procedure_count (lines ++ line ∷ [])) (procedure_count lines) (procedure_count-push lines line)

pub said-push : (lines : List ParsedLine) (line : Line) → said (lines ++ Says line ∷ []) ≡ said lines ++ line ∷ []
unfolding said
said-push [] line = refl
said-push (Blank ∷ lines) line = said-push lines line
said-push (Invalid ∷ lines) line = said-push lines line
said-push (Says first ∷ lines) line = ap (λ ls. first ∷ ls) (said-push lines line)

pub said-blank : (lines : List ParsedLine) → said (lines ++ Blank ∷ []) ≡ said lines
unfolding said
said-blank [] = refl
said-blank (Blank ∷ lines) = said-blank lines
said-blank (Invalid ∷ lines) = said-blank lines
said-blank (Says first ∷ lines) = ap (λ ls. first ∷ ls) (said-blank lines)

-- a place
abbrev at_place : ℕ → ℕ → Place
at_place line rule = record { line = line; rule = rule }

-- a line without a fault, and what is behind it
pub fault_or-none : (rule : Option ℕ) (line : ℕ) (more : Option Place) → fault_or rule line more ≡ None → (rule ≡ None) × (more ≡ None)
fault_or-none None line more e = (refl, e)
fault_or-none (Some rule) line more e = let some : Some (at_place line rule) ≡ None = e in absurd (cc)

pub or_else-parts : {X : Type 0} (o p : Option X) → or_else o p ≡ None → (o ≡ None) × (p ≡ None)
or_else-parts None p e = (refl, e)
or_else-parts (Some x) p e = (e, absurd (let some : Some x ≡ None = e in cc))

-- nothing is open
unclosed-none : (line : ℕ) (blocks : List OpenBlock) → unclosed line blocks ≡ None → blocks ≡ []
unclosed-none line [] e = refl
unclosed-none line (innermost ∷ outer) e = let some : Some (at_place line 2) ≡ None = e in absurd (cc)

placed : (all before : List ParsedLine) (line : Line) → broken_by all before line ≡ None → is_misplaced (open_behind before) line ≡ false
placed all before line e = by (is_misplaced (open_behind before) line) refl
  where
    by : (b : Bool) → is_misplaced (open_behind before) line ≡ b → b ≡ false
    by false is = refl
    by true is = let some : Some 2 ≡ None = rw is at e in absurd (cc)

-- lines that break no rule stand where they can
pub none-accepts : (all before rest : List ParsedLine) → first_fault all before rest ≡ None → accepts (open_behind before) (said rest) ≡ true
unfolding first_fault said accepts
none-accepts all before [] e = let none : open_behind before ≡ [] = unclosed-none (length before + 1) (open_behind before) e in rw none refl
none-accepts all before (Blank ∷ rest) e =
    let parts = fault_or-none (broken_rule all before Blank) (length before + 1) (first_fault all (before ++ Blank ∷ []) rest) e in
    let same : open_behind (before ++ Blank ∷ []) ≡ open_behind before = open_from-push [] before Blank in
    ap (λ blocks. accepts blocks (said rest)) (sym same) ∙ none-accepts all (before ++ Blank ∷ []) rest parts.1
none-accepts all before (Invalid ∷ rest) e = let some : Some (at_place (length before + 1) 1) ≡ None = e in absurd (cc)
none-accepts all before (Says line ∷ rest) e =
    let parts = fault_or-none (broken_by all before line) (length before + 1) (first_fault all (before ++ Says line ∷ []) rest) e in
    let same : open_behind (before ++ Says line ∷ []) ≡ opened_by (open_behind before) line = open_from-push [] before (Says line) in
    let here : is_misplaced (open_behind before) line ≡ false = placed all before line parts.0 in
    ap (λ b. not b && accepts (opened_by (open_behind before) line) (said rest)) here
    ∙ ap (λ blocks. accepts blocks (said rest)) (sym same) ∙ none-accepts all (before ++ Says line ∷ []) rest parts.1

-- lines that say nothing can be left out
pub open-said : (blocks : List OpenBlock) (lines : List ParsedLine) → open_from blocks (map Says (said lines)) ≡ open_from blocks lines
unfolding open_from said
open-said blocks [] = refl
open-said blocks (Blank ∷ lines) = open-said blocks lines
open-said blocks (Invalid ∷ lines) = open-said blocks lines
open-said blocks (Says line ∷ lines) = open-said (opened_by blocks line) lines

pub parameters-said : (lines : List ParsedLine) (name : List ℕ) → parameters_of (map Says (said lines)) name ≡ parameters_of lines name
unfolding parameters_of said
parameters-said [] name = refl
parameters-said (Blank ∷ lines) name = parameters-said lines name
parameters-said (Invalid ∷ lines) name = parameters-said lines name
parameters-said (Says line ∷ lines) name = ap (or_else (count_if_named name (header_of line))) (parameters-said lines name)

pub procedures-said : (lines : List ParsedLine) → procedure_count (map Says (said lines)) ≡ procedure_count lines
unfolding procedure_count said
procedures-said [] = refl
procedures-said (Blank ∷ lines) = procedures-said lines
procedures-said (Invalid ∷ lines) = procedures-said lines
procedures-said (Says line ∷ lines) = ap (λ n. if is_some (header_of line) then suc n else n) (procedures-said lines)

pub length-said : (lines : List ParsedLine) → length (map Says (said lines)) ≤ length lines
unfolding said
length-said [] = omega arith
length-said (Blank ∷ lines) = let rest : length (map Says (said lines)) ≤ length lines = length-said lines in omega arith
length-said (Invalid ∷ lines) = let rest : length (map Says (said lines)) ≤ length lines = length-said lines in omega arith
length-said (Says line ∷ lines) = let rest : length (map Says (said lines)) ≤ length lines = length-said lines in omega arith

unknown-said : (all : List ParsedLine) (call : Option Signature) → is_unknown (map Says (said all)) call ≡ is_unknown all call
unknown-said all None = refl
unknown-said all (Some call) = ap is_none (parameters-said all call.name)

count-said : (all : List ParsedLine) (call : Option Signature) → has_other_count (map Says (said all)) call ≡ has_other_count all call
count-said all None = refl
count-said all (Some call) = rw (parameters-said all call.name) refl

again-said : (before : List ParsedLine) (header : Option Signature) → is_again (map Says (said before)) header ≡ is_again before header
again-said before None = refl
again-said before (Some header) = ap is_some (parameters-said before header.name)

abbrev limit_rule : Bool → Option ℕ
limit_rule b = if b then Some 7 else None

limit_none : (b : Bool) → limit_rule b ≡ None → b ≡ false
limit_none true e = let some : Some 7 ≡ None = e in absurd (cc)
limit_none false e = refl

fewer : (m n : ℕ) (c d : Bool) → m ≤ n → (nat_le 8192 n || c || d) ≡ false → (nat_le 8192 m || c || d) ≡ false
fewer m n c d le e = grind (arith, nat_tests)

limits-said : (before : List ParsedLine) (line : Line) → is_past_limits before line ≡ false → is_past_limits (map Says (said before)) line ≡ false
limits-said before line e =
    rw (procedures-said before, open-said [] before)
    (fewer (length (map Says (said before))) (length before) (is_some (header_of line) && nat_le 512 (procedure_count before)) (opens_block line && nat_le 64 (block_count (open_behind before))) (length-said before) e)

by-said : (all before : List ParsedLine) (line : Line) → broken_by all before line ≡ None → broken_by (map Says (said all)) (map Says (said before)) line ≡ None
by-said all before line e =
    let here : is_misplaced (open_behind before) line ≡ false = placed all before line e in
    let more : or_else (broken_call all (line_call line)) (or_else (broken_header before line) (broken_limit before line)) ≡ None = rw here at e in
    let calls = or_else-parts (broken_call all (line_call line)) (or_else (broken_header before line) (broken_limit before line)) more in
    let headers = or_else-parts (broken_header before line) (broken_limit before line) calls.1 in
    let past : is_past_limits (map Says (said before)) line ≡ false = limits-said before line (limit_none (is_past_limits before line) headers.1) in
    let open_blocks : is_misplaced (open_behind (map Says (said before))) line ≡ false = rw (open-said [] before) here in
    let known : broken_call (map Says (said all)) (line_call line) ≡ None = rw (unknown-said all (line_call line), count-said all (line_call line)) calls.0 in
    let named : broken_header (map Says (said before)) line ≡ None = rw (again-said before (header_of line)) headers.0 in
    rw (open_blocks, known, named, past) refl

-- so the lines that are said break no rule
pub none-said : (all before rest : List ParsedLine) → first_fault all before rest ≡ None
    → first_fault (map Says (said all)) (map Says (said before)) (map Says (said rest)) ≡ None
unfolding first_fault said
none-said all before [] e =
    let none : open_behind before ≡ [] = unclosed-none (length before + 1) (open_behind before) e in
    rw (open-said [] before, none) refl
none-said all before (Blank ∷ rest) e =
    let parts = fault_or-none (broken_rule all before Blank) (length before + 1) (first_fault all (before ++ Blank ∷ []) rest) e in
    rw (said-blank before) at (none-said all (before ++ Blank ∷ []) rest parts.1)
none-said all before (Invalid ∷ rest) e = let some : Some (at_place (length before + 1) 1) ≡ None = e in absurd (cc)
none-said all before (Says line ∷ rest) e =
    let parts = fault_or-none (broken_by all before line) (length before + 1) (first_fault all (before ++ Says line ∷ []) rest) e in
    let more : first_fault (map Says (said all)) (map Says (said (before ++ Says line ∷ []))) (map Says (said rest)) ≡ None = none-said all (before ++ Says line ∷ []) rest parts.1 in
    let pushed : map Says (said (before ++ Says line ∷ [])) ≡ map Says (said before) ++ Says line ∷ [] = ap (map Says) (said-push before line) ∙ map-append Says (said before) (line ∷ []) in
    rw (by-said all before line parts.0) (rw pushed at more)

-- a text that breaks no rule says a script that keeps the rules
pub none-keeps : (all : List ParsedLine) → lines_fault all ≡ None → KeepsRules (said all)
unfolding said
none-keeps all e = ap is_none (none-said all [] all e)

pub said_says : (lines : List Line) → said (map Says lines) ≡ lines
unfolding said
said_says [] = refl
said_says (line ∷ lines) = ap (λ ls. line ∷ ls) (said_says lines)

pub is_none-none : {X : Type 0} (o : Option X) → is_none o ≡ true → o ≡ None
is_none-none None e = refl
is_none-none (Some x) e = absurd (true≢false (sym e))

-- lines that keep the rules are those of their script
pub keeps-lines : (lines : List Line) → KeepsRules lines → script_lines (script_of_lines lines) ≡ lines
unfolding open_from
keeps-lines lines keeps =
    let none : lines_fault (map Says lines) ≡ None = is_none-none (lines_fault (map Says lines)) keeps in
    script_lines-accepted lines (rw (said_says lines) at (none-accepts (map Says lines) [] (map Says lines) none))

again_none : (b : Bool) (other : Option ℕ) → (if b then Some 5 else other) ≡ None → b ≡ false
again_none true other e = let some : Some 5 ≡ None = e in absurd (cc)
again_none false other e = refl

-- a line that breaks no rule begins no procedure of an earlier name, and those behind it break none
pub none-again : (all before : List ParsedLine) (line : Line) (rest : List ParsedLine) → first_fault all before (Says line ∷ rest) ≡ None
    → (is_again before (header_of line) ≡ false) × (first_fault all (before ++ Says line ∷ []) rest ≡ None)
unfolding first_fault
none-again all before line rest e =
    let parts = fault_or-none (broken_by all before line) (length before + 1) (first_fault all (before ++ Says line ∷ []) rest) e in
    let here : is_misplaced (open_behind before) line ≡ false = placed all before line parts.0 in
    let more : or_else (broken_call all (line_call line)) (or_else (broken_header before line) (broken_limit before line)) ≡ None = rw here at parts.0 in
    let calls = or_else-parts (broken_call all (line_call line)) (or_else (broken_header before line) (broken_limit before line)) more in
    let headers = or_else-parts (broken_header before line) (broken_limit before line) calls.1 in
    (again_none (is_again before (header_of line)) _ headers.0, parts.1)
