-- The calls of a script fit where its lines break no rule.
use Rattle.std.proofs.Common.{◌≡◌, ◌∙◌, refl, sym, ap, ℕ, suc, ◌+◌, ◌==◌, Bool, true, false, not, cond, if◌then◌else◌, List, [], ◌∷◌, ◌++◌, length, map, bytes_eq, All, Option, Some, None, arith}
use Rattle.std.specs.Prelude.{slice_get, is_none}
use Rattle.std.specs.List.{position_from}
use Rattle.std.proofs.lemmas.Bool.Decides.{Decides-eqb}
use Rattle.std.proofs.lemmas.List.Elements.{All-nil, All-head, All-tail, All-cons}
use Rattle.lio_syntax_lines.specs.declared.line.Line.{Line}
use Rattle.lio_syntax_lines.specs.declared.line.Line.TheVariants as line
use Rattle.lio_syntax_lines.specs.declared.line.ParsedLine.{ParsedLine}
use Rattle.lio_syntax_lines.specs.declared.line.ParsedLine.TheVariants.{Says}
use Rattle.lio_syntax_lines.specs.Header.{Signature, line_call}
use Rattle.lio_syntax.specs.Statements.{Statement, Statements, Do, If, IfElse, While, Try, Nothing, Then, Procedure}
use Rattle.lio_syntax.specs.Lines.{statement_lines, block_lines, script_lines}
use Rattle.lio_syntax.specs.OpenBlocks.{is_misplaced, open_behind}
use Rattle.lio_syntax.specs.Rules.{or_else, parameters_of, differs, broken_call, broken_header, broken_limit, broken_by}
use Rattle.lio_syntax.specs.Verdict.{first_fault, lines_fault}
use Rattle.lio_syntax.proofs.FaultLemmas.{fault_or-none, is_none-none}
use Rattle.lio_calculus_runs.specs.Calls.{AnyFits, StatementFits, BlockFits}
use Rattle.lio_calculus_runs.specs.WellFormedLaws.{RulesFitCalls}

-- something isn't nothing
something : (n : ℕ) → Some n ≡ None → ⊥
something n e = cc

-- a line that breaks no rule breaks none on calls
unbroken : (all before : List ParsedLine) (l : Line) → broken_by all before l ≡ None → broken_call all (line_call l) ≡ None
unbroken all before l e = by (is_misplaced (open_behind before) l) (broken_call all (line_call l)) e
  where
    by : (b : Bool) (o : Option ℕ) → (if b then Some 2 else or_else o (or_else (broken_header before l) (broken_limit before l))) ≡ None → o ≡ None
    by true o f = absurd (something 2 f)
    by false None f = refl
    by false (Some n) f = absurd (something n f)

-- what each line has that breaks no rule on calls
each-line : (P : Line → Type 0) (all : List ParsedLine) → ((l : Line) → broken_call all (line_call l) ≡ None → P l) → (before : List ParsedLine) (rest : List Line) → first_fault all before (map Says rest) ≡ None → All P rest
unfolding first_fault
each-line P all each before [] e = All-nil P
each-line P all each before (l ∷ rest) e =
    let parts = fault_or-none (broken_by all before l) (length before + 1) (first_fault all (before ++ Says l ∷ []) (map Says rest)) e in
    All-cons P l rest (each l (unbroken all before l parts.0)) (each-line P all each (before ++ Says l ∷ []) rest parts.1)

-- a rule that is broken where a test holds
abbrev broken_where : Bool → ℕ → Option ℕ → Option ℕ
broken_where b rule other = if b then Some rule else other

-- there are as many parameters as the call gives arguments
counted : (all : List ParsedLine) (call : Signature) → broken_call all (Some call) ≡ None → parameters_of all call.name ≡ Some call.count
counted all call e = by (parameters_of all call.name) e
  where
    same : (b : Bool) → broken_where (not b) 4 None ≡ None → b ≡ true
    same true f = refl
    same false f = absurd (something 4 f)

    by : (o : Option ℕ) → broken_where (is_none o) 3 (broken_where (differs o call.count) 4 None) ≡ None → o ≡ Some call.count
    by None f = absurd (something 3 f)
    by (Some n) f = ap Some ((Decides-eqb n call.count).0 (same (n == call.count) f))

-- no statement begins a procedure
mutual
  unfolding statement_lines block_lines parameters_of

  statement-counts : (s : Statement) (rest : List Line) (name : List ℕ) → parameters_of (map Says (statement_lines s rest)) name ≡ parameters_of (map Says rest) name
  statement-counts (Do simple) rest name = refl
  statement-counts (If a block) rest name = block-counts block (line.End ∷ rest) name
  statement-counts (IfElse a block other) rest name = block-counts block (line.Else ∷ block_lines other (line.End ∷ rest)) name ∙ block-counts other (line.End ∷ rest) name
  statement-counts (While a block) rest name = block-counts block (line.End ∷ rest) name
  statement-counts (Try block code payload handler) rest name = block-counts block (line.Catch code payload ∷ block_lines handler (line.End ∷ rest)) name ∙ block-counts handler (line.End ∷ rest) name

  block-counts : (block : Statements) (rest : List Line) (name : List ℕ) → parameters_of (map Says (block_lines block rest)) name ≡ parameters_of (map Says rest) name
  block-counts Nothing rest name = refl
  block-counts (Then s block) rest name = statement-counts s (block_lines block rest) name ∙ block-counts block rest name

-- the first procedure with a name, where procedures are counted from a number
record Found (name : List ℕ) (from : ℕ) (script : List Procedure) (count : ℕ) : Type 0 where
  place : ℕ
  procedure : Procedure
  number : position_from (λ (p : Procedure). bytes_eq name p.name) from script ≡ Some (from + place)
  is : slice_get script place ≡ Some procedure
  arity : length procedure.parameters ≡ count

-- the parameters of the procedure with a name in a script
abbrev count_of : List Procedure → List ℕ → Option ℕ
count_of script name = parameters_of (map Says (script_lines script)) name

found : (name : List ℕ) (from : ℕ) (script : List Procedure) (count : ℕ) → count_of script name ≡ Some count → Found name from script count
unfolding script_lines parameters_of
found name from [] count e = absurd (let none : None ≡ Some count = e in cc)
found name from (p ∷ script) count e =
    by (bytes_eq name p.name) refl (ap (or_else (if bytes_eq name p.name then Some (length p.parameters) else None)) (block-counts p.body (line.End ∷ script_lines script) name)) (λ f. found name (from + 1) script count f)
  where
    by : (b : Bool) → bytes_eq name p.name ≡ b → count_of (p ∷ script) name ≡ or_else (if bytes_eq name p.name then Some (length p.parameters) else None) (count_of script name)
        → (count_of script name ≡ Some count → Found name (from + 1) script count) → Found name from (p ∷ script) count
    by true is same next =
        let here : Some (length p.parameters) ≡ Some count =
        sym (same ∙ ap (λ (b : Bool). or_else (if b then Some (length p.parameters) else None) (count_of script name)) is) ∙ e in
        record {
          place = 0;
          procedure = p;
          number = ap (λ (b : Bool). cond b (Some from) (position_from (λ (q : Procedure). bytes_eq name q.name) (from + 1) script)) is ∙ ap Some (omega arith);
          is = refl;
          arity = cc;
        }
    by false is same next =
        let there : count_of script name ≡ Some count =
        sym (same ∙ ap (λ (b : Bool). or_else (if b then Some (length p.parameters) else None) (count_of script name)) is) ∙ e in
        let r = next there in
        record {
          place = suc r.place;
          procedure = r.procedure;
          number = ap (λ (b : Bool). cond b (Some from) (position_from (λ (q : Procedure). bytes_eq name q.name) (from + 1) script)) is ∙ r.number ∙ ap Some (omega arith);
          is = r.is;
          arity = r.arity;
        }

-- so a call fits that breaks no rule
call-fits : (script : List Procedure) (call : Option Signature) → broken_call (map Says (script_lines script)) call ≡ None → AnyFits script call
call-fits script None e = tt
call-fits script (Some call) e =
    let f : Found call.name 0 script call.count = found call.name 0 script call.count (counted (map Says (script_lines script)) call e) in
    record { place = f.place; procedure = f.procedure; number = f.number ∙ ap Some (omega arith); is = f.is; arity = f.arity }

-- the call of a line fits, if it has one
abbrev LineFits : List Procedure → Line → Type 0
LineFits script l = AnyFits script (line_call l)

-- the lines behind a first one
behind : (script : List Procedure) (first : Line) (rest : List Line) → All (LineFits script) (first ∷ rest) → All (LineFits script) rest
behind script = All-tail (LineFits script)

mutual
  unfolding statement_lines block_lines StatementFits BlockFits

  statement-lines : (script : List Procedure) (s : Statement) (rest : List Line) → All (LineFits script) (statement_lines s rest) → StatementFits script s × All (LineFits script) rest
  statement-lines script (Do simple) rest e = (All-head (LineFits script) (line.Do simple) rest e, behind script (line.Do simple) rest e)
  statement-lines script (If a block) rest e =
      let inside = block-lines script block (line.End ∷ rest) (behind script (line.If a) (block_lines block (line.End ∷ rest)) e) in
      (inside.0, behind script line.End rest inside.1)
  statement-lines script (IfElse a block other) rest e =
      let later : List Line = block_lines other (line.End ∷ rest) in
      let inside = block-lines script block (line.Else ∷ later) (behind script (line.If a) (block_lines block (line.Else ∷ later)) e) in
      let second = block-lines script other (line.End ∷ rest) (behind script line.Else later inside.1) in
      ((inside.0, second.0), behind script line.End rest second.1)
  statement-lines script (While a block) rest e =
      let inside = block-lines script block (line.End ∷ rest) (behind script (line.While a) (block_lines block (line.End ∷ rest)) e) in
      (inside.0, behind script line.End rest inside.1)
  statement-lines script (Try block code payload handler) rest e =
      let later : List Line = block_lines handler (line.End ∷ rest) in
      let inside = block-lines script block (line.Catch code payload ∷ later) (behind script line.Try (block_lines block (line.Catch code payload ∷ later)) e) in
      let second = block-lines script handler (line.End ∷ rest) (behind script (line.Catch code payload) later inside.1) in
      ((inside.0, second.0), behind script line.End rest second.1)

  block-lines : (script : List Procedure) (block : Statements) (rest : List Line) → All (LineFits script) (block_lines block rest) → BlockFits script block × All (LineFits script) rest
  block-lines script Nothing rest e = (tt, e)
  block-lines script (Then s block) rest e =
      let first = statement-lines script s (block_lines block rest) e in
      let later = block-lines script block rest first.1 in
      ((first.0, later.0), later.1)

bodies : (script procedures : List Procedure) → All (LineFits script) (script_lines procedures) → All (λ (p : Procedure). BlockFits script p.body) procedures
unfolding script_lines
bodies script [] e = All-nil (λ (p : Procedure). BlockFits script p.body)
bodies script (first ∷ procedures) e =
    let lines : List Line = block_lines first.body (line.End ∷ script_lines procedures) in
    let inside = block-lines script first.body (line.End ∷ script_lines procedures) (behind script (line.Proc first.name first.parameters) lines e) in
    All-cons (λ (p : Procedure). BlockFits script p.body) first procedures inside.0 (bodies script procedures (behind script line.End (script_lines procedures) inside.1))

pub rules_fit_calls : RulesFitCalls
rules_fit_calls script keeps =
    let all : List ParsedLine = map Says (script_lines script) in
    bodies script script (each-line (LineFits script) all (λ l e. call-fits script (line_call l) e) [] (script_lines script) (is_none-none (lines_fault all) keeps))
