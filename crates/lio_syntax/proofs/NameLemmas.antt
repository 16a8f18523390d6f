-- The names of a script's procedures differ, so that each has the number of its own name.
use Rattle.std.proofs.Common.{◌≡◌, ℕ, zero, suc, ◌+◌, Bool, true, false, cond, if◌then◌else◌, List, [], ◌∷◌, ◌++◌, length, map, get_or, Option, Some, None, bytes_eq, refl, ap, sym, subst, ◌∙◌, arith}
use Rattle.std.proofs.lemmas.Slice.Eq.{bytes_eq-Decides}
use Rattle.std.specs.Prelude.{slice_get, ◌<◌}
use Rattle.std.specs.List.{position_from}
use Rattle.lio_syntax_lines.specs.declared.line.Line.{Line}
use Rattle.lio_syntax_lines.specs.declared.line.Line.TheVariants as line
use Rattle.lio_syntax_lines.specs.declared.line.ParsedLine.{ParsedLine}
use Rattle.lio_syntax_lines.specs.declared.line.ParsedLine.TheVariants.{Says}
use Rattle.lio_syntax_lines.specs.Header.{Signature, header_of}
use Rattle.lio_syntax.specs.Statements.{Procedure}
use Rattle.lio_syntax.specs.Lines.{script_lines}
use Rattle.lio_syntax.specs.Behind.{script_of_lines}
use Rattle.lio_syntax.specs.Kept.{KeepsRules}
use Rattle.lio_syntax.specs.Rules.{count_if_named, parameters_of, is_again}
use Rattle.lio_syntax.specs.Verdict.{first_fault, lines_fault}
use Rattle.lio_syntax.specs.Beginnings.{Beginning, begun_by, beginnings, number_in, number_of, BeginsAt}
use Rattle.lio_syntax.proofs.FaultLemmas.{parameters_of-push, or_else-parts, none-again, is_none-none, keeps-lines}
use Rattle.lio_syntax.proofs.HeaderLemmas.{not_there}
use Rattle.lio_syntax.proofs.BeginningLemmas.{Begun, script-begun, number_in-script, begins_at, length-places}

other-name : (b : Bool) (count : ℕ) → (if b then Some count else None) ≡ None → b ≡ false
other-name true count e = let some : Some count ≡ None = e in absurd (cc)
other-name false count e = refl

same-name : (name : List ℕ) → bytes_eq name name ≡ true
same-name name = (bytes_eq-Decides name name).1 refl

-- a procedure that lines begin has a name of none before them, and of none of the earlier ones among them
IsFirst : List ParsedLine → List Beginning → ℕ → ℕ → Beginning → Type 0
IsFirst before begun i n beginning =
    (parameters_of before beginning.name ≡ None) × (position_from (λ other. bytes_eq beginning.name other.name) i begun ≡ Some (i + n))

-- so behind one line more, which begins the procedure with this header, or none
first-behind : (before : List ParsedLine) (l : Line) (at i n : ℕ) (begun : List Beginning) (b : Beginning) (header : Option Signature) → header_of l ≡ header
    → is_again before header ≡ false → slice_get (begun_by at header ++ begun) n ≡ Some b
    → ((j m : ℕ) → slice_get begun m ≡ Some b → IsFirst (before ++ Says l ∷ []) begun j m b)
    → IsFirst before (begun_by at header ++ begun) i n b
unfolding IsFirst
first-behind before l at i n begun b None is again found rest =
    let r = rest i n found in
    ((or_else-parts (parameters_of before b.name) (count_if_named b.name (header_of l)) (sym (parameters_of-push before (Says l) b.name) ∙ r.0)).0, r.1)
first-behind before l at i zero begun b (Some header) is again found rest =
    let this : record { name = header.name; at = at } ≡ b = cc in
    let named : header.name ≡ b.name = ap (λ (x : Beginning). x.name) this in
    let none : parameters_of before header.name ≡ None = not_there (parameters_of before header.name) again in
    let here : i ≡ i + 0 = omega arith in
    let same : bytes_eq b.name header.name ≡ true = ap (bytes_eq b.name) named ∙ same-name b.name in (
      ap (parameters_of before) (sym named) ∙ none,
      ap (λ t. cond t (Some i) (position_from (λ (other : Beginning). bytes_eq b.name other.name) (i + 1) begun)) same ∙ ap Some here,
    )
first-behind before l at i (suc n) begun b (Some header) is again found rest =
    let r = rest (i + 1) n found in
    let parts = or_else-parts (parameters_of before b.name) (count_if_named b.name (header_of l)) (sym (parameters_of-push before (Says l) b.name) ∙ r.0) in
    let other : bytes_eq b.name header.name ≡ false = other-name (bytes_eq b.name header.name) header.count (ap (count_if_named b.name) (sym is) ∙ parts.1) in
    let count : i + 1 + n ≡ i + suc n = omega arith in (
      parts.0,
      ap (λ t. cond t (Some i) (position_from (λ (o : Beginning). bytes_eq b.name o.name) (i + 1) begun)) other ∙ r.1 ∙ ap Some count,
    )

-- in lines that break no rule
first-named : (all before : List ParsedLine) (lines : List Line) (at i n : ℕ) (b : Beginning) → first_fault all before (map Says lines) ≡ None
    → slice_get (beginnings at lines) n ≡ Some b → IsFirst before (beginnings at lines) i n b
unfolding beginnings
first-named all before [] at i n b none found = absurd (cc)
first-named all before (l ∷ lines) at i n b none found =
    let parts = none-again all before l (map Says lines) none in
    first-behind before l at i n (beginnings (suc at) lines) b (header_of l) refl parts.0 found
    (λ j m here. first-named all (before ++ Says l ∷ []) lines (suc at) j m b parts.1 here)

-- the beginning of a procedure has its number and its name
begun-named : (all : List Line) (script : List Procedure) (begun : List Beginning) (n : ℕ) (p : Procedure) → Begun all script begun → slice_get script n ≡ Some p
    → (b : Beginning) × (slice_get begun n ≡ Some b) × (b.name ≡ p.name)
unfolding Begun
begun-named all [] begun n p h found = absurd (cc)
begun-named all (procedure ∷ others) [] n p h found = absurd h
begun-named all (procedure ∷ others) (b ∷ begun) zero p h found = let this : procedure ≡ p = cc in (b, refl, h.0.name ∙ ap (λ (q : Procedure). q.name) this)
begun-named all (procedure ∷ others) (b ∷ begun) (suc n) p h found = begun-named all others begun n p h.1 found

-- the number of a procedure's name is the procedure's
own_number : (script : List Procedure) (n : ℕ) (p : Procedure) → KeepsRules (script_lines script) → slice_get script n ≡ Some p → number_of script p.name ≡ Some n
unfolding IsFirst
own_number script n p keeps found =
    let lines : List Line = script_lines script in
    let none : lines_fault (map Says lines) ≡ None = is_none-none (lines_fault (map Says lines)) keeps in
    let b = begun-named lines script (beginnings 0 lines) n p (script-begun lines 0 script refl) found in
    let first : IsFirst [] (beginnings 0 lines) 0 n b.0 = first-named (map Says lines) [] lines 0 0 n b.0 none b.1 in
    let count : 0 + n ≡ n = omega arith in
    sym (number_in-script script p.name) ∙ ap (number_in (beginnings 0 lines)) (sym b.2) ∙ first.1 ∙ ap Some count

-- what is there at a place
there : (xs : List ℕ) (n x : ℕ) → slice_get xs n ≡ Some x → (n < length xs) × (get_or xs n 0 ≡ x)
there [] n x e = absurd (cc)
there (y ∷ xs) zero x e = (omega arith, let this : y ≡ x = cc in this)
there (y ∷ xs) (suc n) x e = let t = there xs n x e in (omega (arith, t.0), t.1)

line-name : (p : Procedure) (name : List ℕ) (parameters : List (List ℕ)) → Some (line.Proc p.name p.parameters) ≡ Some (line.Proc name parameters) → p.name ≡ name
line-name p name parameters e = cc

-- where the line that begins the procedure with a number has a name, that is the number of the name
pub named_at : (lines : List Line) (places : List ℕ) (number at : ℕ) (name : List ℕ) (parameters : List (List ℕ)) → KeepsRules lines
    → places ≡ map (λ (b : Beginning). b.at) (beginnings 0 lines) → slice_get places number ≡ Some at → slice_get lines at ≡ Some (line.Proc name parameters)
    → number_of (script_of_lines lines) name ≡ Some number
named_at lines places number at name parameters keeps is found begins =
    let script : List Procedure = script_of_lines lines in
    let same : lines ≡ script_lines script = sym (keeps-lines lines keeps) in
    let t = there places number at found in
    let places_are = is ∙ ap (λ (ls : List Line). map (λ (b : Beginning). b.at) (beginnings 0 ls)) same in
    let count : length places ≡ length script = length-places script places places_are in
    let b : BeginsAt script number at = subst (BeginsAt script number) t.1 (begins_at script places number places_are (omega (arith, t.0, count))) in
    let here = sym b.begins ∙ ap (λ (ls : List Line). slice_get ls at) (sym same) ∙ begins in
    sym (ap (number_of script) (line-name b.procedure name parameters here)) ∙ own_number script number b.procedure (subst KeepsRules same keeps) b.is
