-- The procedures that the lines of a script begin are those of the script.
use Rattle.std.proofs.Common.{vec_len, ◌≡◌, ℕ, zero, suc, ◌+◌, ◌<◌, Bool, true, false, cond, if◌then◌else◌, List, [], ◌∷◌, ◌++◌, length, map, drop, get_or, Option, Some, None, bytes_eq, refl, ap, sym, subst, ◌∙◌, ◌^◌, arith, zero-add, append_assoc}
use Rattle.std.proofs.lemmas.List.{map-append, length-map, append-nil, drop_all}
use Rattle.std.specs.Prelude.{slice_get, IfSome, ◌≤◌}
use Rattle.std.specs.List.{position_from}
use Rattle.std.proofs.Math.Seq.{drop-cons}
use Rattle.lio_syntax_lines.specs.declared.line.Line.{Line}
use Rattle.lio_syntax_lines.specs.declared.line.Line.TheVariants as line
use Rattle.lio_syntax_lines.specs.Header.{Signature, header_of}
use Rattle.lio_syntax.specs.Statements.{Statement, Statements, Do, If, IfElse, While, Try, Nothing, Then, Procedure}
use Rattle.lio_syntax.specs.Lines.{statement_lines, block_lines, script_lines}
use Rattle.lio_syntax.specs.Behind.{Outside, Block, behind, script_of_lines}
use Rattle.lio_syntax.proofs.FaultLemmas.{keeps-lines}
use Rattle.lio_syntax.specs.ScriptCode.{behind-body}
use Rattle.lio_syntax.specs.Beginnings.{Beginning, begun_by, beginnings, number_in, number_of, BeginsAt}
use Rattle.lio_syntax.specs.Rules.{or_else}
use Rattle.lio_syntax.specs.Headers.{count_in}
use Rattle.lio_syntax.specs.Procedures.{Holds, Lists}
use Rattle.lio_syntax.specs.Kept.{KeepsRules}
use Rattle.lio_syntax.specs.declared.procedures.Procedures.{Procedures}

snoc-by : (b : Bool) (i : ℕ) (before after new : Option ℕ) → after ≡ or_else before new → cond b (Some i) after ≡ or_else (cond b (Some i) before) new
snoc-by true i before after new e = refl
snoc-by false i before after new e = e

-- the first with a test, in a list with one more behind it
pub position_from-snoc : {X : Type 0} (test : X → Bool) (i : ℕ) (xs : List X) (x : X)
    → position_from test i (xs ++ x ∷ []) ≡ or_else (position_from test i xs) (if test x then Some (i + length xs) else None)
position_from-snoc test i [] x = elim (test x) as (λ b. cond b (Some i) None ≡ (if b then Some (i + 0) else None)) [ true ↦ ap Some (omega arith) | false ↦ refl ]
position_from-snoc test i (y ∷ xs) x =
    let more : position_from test (i + 1) (xs ++ x ∷ []) ≡ or_else (position_from test (i + 1) xs) (if test x then Some (i + 1 + length xs) else None) = position_from-snoc test (i + 1) xs x in
    let count : i + 1 + length xs ≡ i + suc (length xs) = omega arith in
    snoc-by (test y) i (position_from test (i + 1) xs) (position_from test (i + 1) (xs ++ x ∷ [])) (if test x then Some (i + suc (length xs)) else None)
    (more ∙ ap (λ (n : ℕ). or_else (position_from test (i + 1) xs) (if test x then Some n else None)) count)

-- a line at a place, and those behind it
pub beginnings-drop : (at : ℕ) (lines : List Line) (l : Line) → at < length lines → l ≡ get_or lines at l → beginnings at (drop at lines) ≡ begun_by at (header_of l) ++ beginnings (suc at) (drop (suc at) lines)
unfolding beginnings
beginnings-drop at lines l within is =
    ap (beginnings at) (drop-cons lines at l within) ∙ ap (λ (x : Line). begun_by at (header_of x) ++ beginnings (suc at) (drop (suc at) lines)) (sym is)

-- behind the last line none begins
pub beginnings-end : (at : ℕ) (lines : List Line) (begun : List Beginning) → length lines ≤ at → begun ++ beginnings at (drop at lines) ≡ begun
unfolding beginnings
beginnings-end at lines begun past = ap (λ (ls : List Line). begun ++ beginnings at ls) (drop_all at lines past) ∙ append-nil begun

-- what is left of a list behind a place
pub slice_get-drop : {X : Type 0} (n : ℕ) (xs : List X) (x : X) (ys : List X) → drop n xs ≡ x ∷ ys → slice_get xs n ≡ Some x
slice_get-drop zero [] x ys e = absurd (cc)
slice_get-drop zero (z ∷ xs) x ys e = cc
slice_get-drop (suc n) [] x ys e = absurd (cc)
slice_get-drop (suc n) (z ∷ xs) x ys e = slice_get-drop n xs x ys e

drop-none : {X : Type 0} (k : ℕ) (none : List X) → none ≡ [] → drop k none ≡ []
drop-none zero none e = e
drop-none (suc k) [] e = refl
drop-none (suc k) (x ∷ none) e = absurd (cc)

pub drop-more : {X : Type 0} (n k : ℕ) (xs ys : List X) → drop n xs ≡ ys → drop (n + k) xs ≡ drop k ys
drop-more zero k xs ys e = let n : 0 + k ≡ k = omega arith in ap (λ (m : ℕ). drop m xs) n ∙ ap (drop k) e
drop-more (suc n) k [] ys e =
    let m : suc n + k ≡ suc (n + k) = omega arith in
    ap (λ (i : ℕ). drop i []) m ∙ sym (drop-none k ys (sym e))
drop-more (suc n) k (x ∷ xs) ys e =
    let m : suc n + k ≡ suc (n + k) = omega arith in
    ap (λ (i : ℕ). drop i (x ∷ xs)) m ∙ drop-more n k xs ys e

-- lines of which the first ones begin no procedure
pub record Skips (lines rest : List Line) : Type 0 where
  pub count : ℕ
  pub begins : (at : ℕ) → beginnings at lines ≡ beginnings (at + count) rest
  pub left : drop count lines ≡ rest

skip_none : (lines : List Line) → Skips lines lines
skip_none lines = record { count = 0; begins = λ at. ap (λ (n : ℕ). beginnings n lines) (omega arith); left = refl }

skip_line : (l : Line) (lines rest : List Line) → header_of l ≡ None → Skips lines rest → Skips (l ∷ lines) rest
unfolding beginnings
skip_line l lines rest none s = record {
  count = suc s.count;
  begins = λ at. ap (λ (o : Option Signature). begun_by at o ++ beginnings (suc at) lines) none ∙ s.begins (suc at) ∙ ap (λ (n : ℕ). beginnings n rest) (omega arith);
  left = s.left;
}

mutual
  unfolding statement_lines block_lines

  skip_statement : (statement : Statement) (lines rest : List Line) → Skips lines rest → Skips (statement_lines statement lines) rest
  skip_statement (Do simple) lines rest s = skip_line (line.Do simple) lines rest refl s
  skip_statement (If a block) lines rest s = skip_line (line.If a) _ rest refl (skip_block block (line.End ∷ lines) rest (skip_line line.End lines rest refl s))
  skip_statement (IfElse a block other) lines rest s =
      skip_line (line.If a) _ rest refl (skip_block block (line.Else ∷ block_lines other (line.End ∷ lines)) rest
      (skip_line line.Else _ rest refl (skip_block other (line.End ∷ lines) rest (skip_line line.End lines rest refl s))))
  skip_statement (While a block) lines rest s = skip_line (line.While a) _ rest refl (skip_block block (line.End ∷ lines) rest (skip_line line.End lines rest refl s))
  skip_statement (Try block x y handler) lines rest s =
      skip_line line.Try _ rest refl (skip_block block (line.Catch x y ∷ block_lines handler (line.End ∷ lines)) rest
      (skip_line (line.Catch x y) _ rest refl (skip_block handler (line.End ∷ lines) rest (skip_line line.End lines rest refl s))))

  skip_block : (block : Statements) (lines rest : List Line) → Skips lines rest → Skips (block_lines block lines) rest
  skip_block Nothing lines rest s = s
  skip_block (Then statement block) lines rest s = skip_statement statement (block_lines block lines) rest (skip_block block lines rest s)

-- a procedure and where it begins in all lines
pub record IsBegun (all : List Line) (procedure : Procedure) (others : List Procedure) (beginning : Beginning) : Type 0 where
  pub name : beginning.name ≡ procedure.name
  pub begins : slice_get all beginning.at ≡ Some (line.Proc procedure.name procedure.parameters)
  pub body : behind (drop (suc beginning.at) all) ≡ Block procedure.body (Outside others)

-- each procedure with its beginning, in order
unfoldable pub Begun : List Line → List Procedure → List Beginning → Type 0
Begun all [] [] = Unit {0}
Begun all [] (beginning ∷ begun) = ⊥
Begun all (procedure ∷ others) [] = ⊥
Begun all (procedure ∷ others) (beginning ∷ begun) = IsBegun all procedure others beginning × Begun all others begun

pub script-begun : (all : List Line) (at : ℕ) (script : List Procedure) → drop at all ≡ script_lines script → Begun all script (beginnings at (script_lines script))
unfolding beginnings script_lines Begun
script-begun all at [] e = tt {0}
script-begun all at (procedure ∷ others) e =
    let first : Line = line.Proc procedure.name procedure.parameters in
    let lines : List Line = block_lines procedure.body (line.End ∷ script_lines others) in
    let next_at : suc at ≡ at + 1 = omega arith in
    let left : drop (suc at) all ≡ lines = ap (λ (n : ℕ). drop n all) next_at ∙ drop-more at 1 all (first ∷ lines) e in
    let s : Skips lines (script_lines others) = skip_block procedure.body (line.End ∷ script_lines others) (script_lines others) (skip_line line.End (script_lines others) (script_lines others) refl (skip_none (script_lines others))) in
    let next : drop (suc at + s.count) all ≡ script_lines others = drop-more (suc at) s.count all lines left ∙ s.left in (
      record { name = refl; begins = slice_get-drop at all first lines e; body = ap behind left ∙ behind-body procedure.body others },
      subst (Begun all others) (sym (s.begins (suc at))) (script-begun all (suc at + s.count) others next),
    )

-- the first with a name
begun-number : (all : List Line) (name : List ℕ) (i : ℕ) (script : List Procedure) (begun : List Beginning) → Begun all script begun
    → position_from (λ (beginning : Beginning). bytes_eq name beginning.name) i begun ≡ position_from (λ (procedure : Procedure). bytes_eq name procedure.name) i script
unfolding Begun
begun-number all name i [] [] h = refl
begun-number all name i [] (beginning ∷ begun) h = absurd h
begun-number all name i (procedure ∷ others) [] h = absurd h
begun-number all name i (procedure ∷ others) (beginning ∷ begun) h =
    ap (λ (n : List ℕ). cond (bytes_eq name n) (Some i) (position_from (λ (b : Beginning). bytes_eq name b.name) (i + 1) begun)) h.0.name
    ∙ ap (cond (bytes_eq name procedure.name) (Some i)) (begun-number all name (i + 1) others begun h.1)

-- the one with a number
begun-at : (all : List Line) (script : List Procedure) (begun : List Beginning) (number : ℕ) → Begun all script begun → number < length script
    → (procedure : Procedure) × (others : List Procedure) × (slice_get script number ≡ Some procedure)
    × (slice_get all (get_or (map (λ (b : Beginning). b.at) begun) number 0) ≡ Some (line.Proc procedure.name procedure.parameters))
    × (behind (drop (suc (get_or (map (λ (b : Beginning). b.at) begun) number 0)) all) ≡ Block procedure.body (Outside others))
unfolding Begun
begun-at all [] [] number h within = absurd (omega (arith, within))
begun-at all [] (beginning ∷ begun) number h within = absurd h
begun-at all (procedure ∷ others) [] number h within = absurd h
begun-at all (procedure ∷ others) (beginning ∷ begun) zero h within = (procedure, others, refl, h.0.begins, h.0.body)
begun-at all (procedure ∷ others) (beginning ∷ begun) (suc number) h within = begun-at all others begun number h.1 (omega (arith, within))

-- the number of a procedure of a script, and its line
pub number_in-script : (script : List Procedure) (name : List ℕ) → number_in (beginnings 0 (script_lines script)) name ≡ number_of script name
number_in-script script name = begun-number (script_lines script) name 0 script (beginnings 0 (script_lines script)) (script-begun (script_lines script) 0 script refl)

pub begins_at : (script : List Procedure) (places : List ℕ) (number : ℕ) → places ≡ map (λ (b : Beginning). b.at) (beginnings 0 (script_lines script)) → number < length script
    → BeginsAt script number (get_or places number 0)
begins_at script places number is within =
    let all : List Line = script_lines script in
    let begun : List Beginning = beginnings 0 all in
    let p = begun-at all script begun number (script-begun all 0 script refl) within in
    subst (λ (ps : List ℕ). BeginsAt script number (get_or ps number 0)) (sym is)
    (record { procedure = p.0; others = p.1; is = p.2; begins = p.3; body = p.4 })

same-length : (all : List Line) (script : List Procedure) (begun : List Beginning) → Begun all script begun → length (map (λ (b : Beginning). b.at) begun) ≡ length script
unfolding Begun
same-length all [] [] h = refl
same-length all [] (beginning ∷ begun) h = absurd h
same-length all (procedure ∷ others) [] h = absurd h
same-length all (procedure ∷ others) (beginning ∷ begun) h = ap suc (same-length all others begun h.1)

-- as many places as procedures
pub length-places : (script : List Procedure) (places : List ℕ) → places ≡ map (λ (b : Beginning). b.at) (beginnings 0 (script_lines script)) → length places ≡ length script
length-places script places is =
    ap length is ∙ same-length (script_lines script) script (beginnings 0 (script_lines script)) (script-begun (script_lines script) 0 script refl)

within-by : (b : Bool) (i count n : ℕ) (more : Option ℕ) → cond b (Some i) more ≡ Some n → (more ≡ Some n → n < i + 1 + count) → n < i + suc count
within-by true i count n more e next = let is : i ≡ n = cc in omega (arith, is)
within-by false i count n more e next = omega (arith, next e)

-- the number of a procedure is below their count
pub position_from-within : {X : Type 0} (test : X → Bool) (i : ℕ) (xs : List X) (n : ℕ) → position_from test i xs ≡ Some n → n < i + length xs
position_from-within test i [] n e = absurd (cc)
position_from-within test i (x ∷ xs) n e = within-by (test x) i (length xs) n (position_from test (i + 1) xs) e (position_from-within test (i + 1) xs n)

-- what a look-up answers is below the count
pub number_of-within : (script : List Procedure) (name : List ℕ) (found : Option ℕ) → found ≡ number_of script name → IfSome found (λ n. n < length script)
number_of-within script name None e = tt {0}
number_of-within script name (Some n) e = omega (arith, position_from-within (λ (procedure : Procedure). bytes_eq name procedure.name) 0 script n (sym e))

-- one procedure more
pub holds-more : (table new : Procedures) (begun : List Beginning) (name : List ℕ) (at count : ℕ) → vec_len table.places ≡ length table.places.items → Holds table begun → count ≡ vec_len table.places
    → ((q : List ℕ) → count_in new.numbers q ≡ or_else (count_in table.numbers q) (if bytes_eq q name then Some count else None))
    → new.places.items ≡ table.places.items ++ at ∷ [] → length new.places.items < 2 ^ 32
    → Holds new (begun ++ record { name = name; at = at } ∷ [])
holds-more table new begun name at count known holds counted numbers places few =
    let size : count ≡ length begun = counted ∙ known ∙ ap length holds.places ∙ length-map begun (λ (b : Beginning). b.at) in
    record {
      numbers = λ q. numbers q ∙ ap (λ (o : Option ℕ). or_else o (if bytes_eq q name then Some count else None)) (holds.numbers q)
          ∙ ap (λ (n : ℕ). or_else (number_in begun q) (if bytes_eq q name then Some n else None)) (size ∙ sym (zero-add (length begun)))
          ∙ sym (position_from-snoc (λ (b : Beginning). bytes_eq q b.name) 0 begun (record { name = name; at = at }));
      places = places ∙ ap (λ (ps : List ℕ). ps ++ at ∷ []) holds.places ∙ sym (map-append (λ (b : Beginning). b.at) begun (record { name = name; at = at } ∷ []));
      few = few;
    }

-- the table holds the procedures that begin before a place
abbrev pub Going : Procedures → List Line → ℕ → Type 0
Going table lines at = (begun : List Beginning) × Holds table begun × (begun ++ beginnings at (drop at lines) ≡ beginnings 0 lines)

-- and before the next place
pub going-more : (table new : Procedures) (lines : List Line) (at : ℕ) (l : Line) → at < length lines → l ≡ get_or lines at l → Going table lines at
    → ((begun : List Beginning) → Holds table begun → Holds new (begun ++ begun_by at (header_of l))) → Going new lines (at + 1)
going-more table new lines at l within is going more =
    let next : at + 1 ≡ suc at = omega arith in (
      going.0 ++ begun_by at (header_of l),
      more going.0 going.1,
      append_assoc going.0 (begun_by at (header_of l)) (beginnings (at + 1) (drop (at + 1) lines))
          ∙ ap (λ (n : ℕ). going.0 ++ (begun_by at (header_of l) ++ beginnings n (drop n lines))) next
          ∙ ap (λ (b : List Beginning). going.0 ++ b) (sym (beginnings-drop at lines l within is))
          ∙ going.2,
    )

-- the lines of a script begin few procedures
pub few_procedures : (lines : List Line) (script : List Procedure) (table : Procedures) → KeepsRules lines → script_of_lines lines ≡ script → Lists table lines → length script < 2 ^ 32
few_procedures lines script table keeps is lists =
    let places = lists.places ∙ ap (λ (ls : List Line). map (λ (b : Beginning). b.at) (beginnings 0 ls)) (sym (keeps-lines lines keeps)) in
    omega (arith, length-places (script_of_lines lines) table.places.items places, ap length is, lists.few)
