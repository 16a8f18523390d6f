-- The lines of a script give the script, and lines that stand where they can are those of a script.
use Rattle.std.proofs.Common.{◌≡◌, ℕ, Bool, true, false, not, List, [], ◌∷◌, refl, ap, sym, ◌∙◌, true≢false}
use Rattle.std.proofs.lemmas.Bool.{and_parts}
use Rattle.lio_syntax_lines.specs.declared.line.Operand.{Operand}
use Rattle.lio_syntax_lines.specs.declared.line.Simple.{Simple}
use Rattle.lio_syntax_lines.specs.declared.line.Line.{Line}
use Rattle.lio_syntax_lines.specs.declared.line.Line.TheVariants as line
use Rattle.lio_syntax.specs.declared.open_block.OpenBlock.{OpenBlock}
use Rattle.lio_syntax.specs.declared.open_block.OpenBlock.TheVariants as open_block
use Rattle.lio_syntax.specs.Statements.{Statement, Statements, Do, If, IfElse, While, Try, Nothing, Then, Procedure}
use Rattle.lio_syntax.specs.Lines.{statement_lines, block_lines, script_lines}
use Rattle.lio_syntax.specs.Behind.{Behind, Outside, Block, First, Tried, in_front, before_if, before_while, before_try, before_else, before_catch, before_proc, behind, procedures, script_of_lines}
use Rattle.lio_syntax.specs.OpenBlocks.{accepts, is_if, is_try}

-- the lines behind a place
pub lines_behind : Behind → List Line
lines_behind (Outside all) = script_lines all
lines_behind (Block block k) = block_lines block (line.End ∷ lines_behind k)
lines_behind (First block other k) = block_lines block (line.Else ∷ block_lines other (line.End ∷ lines_behind k))
lines_behind (Tried block x y handler k) = block_lines block (line.Catch x y ∷ block_lines handler (line.End ∷ lines_behind k))

-- what is behind a place fits what is open there
unfoldable pub Fits : List OpenBlock → Behind → Type 0
Fits [] (Outside all) = Unit {0}
Fits [] (Block block k) = ⊥
Fits [] (First block other k) = ⊥
Fits [] (Tried block x y handler k) = ⊥
Fits (innermost ∷ outer) (Outside all) = ⊥
Fits (innermost ∷ outer) (Block block k) = (is_try innermost ≡ false) × Fits outer k
Fits (innermost ∷ outer) (First block other k) = (is_if innermost ≡ true) × Fits outer k
Fits (innermost ∷ outer) (Tried block x y handler k) = (is_try innermost ≡ true) × Fits outer k

-- a test
not_not : (b : Bool) → not (not b) ≡ true → b ≡ true
not_not true e = refl
not_not false e = absurd (true≢false (sym e))

not_true : (b : Bool) → not b ≡ true → b ≡ false
not_true true e = absurd (true≢false (sym e))
not_true false e = refl

-- what is behind a place fits, and its lines are these
pub record Put (blocks : List OpenBlock) (k : Behind) (lines : List Line) : Type 0 where
  pub fits : Fits blocks k
  pub same : lines_behind k ≡ lines

-- a statement in front
put_statement : (innermost : OpenBlock) (outer : List OpenBlock) (statement : Statement) (k : Behind) (lines : List Line)
    → Put (innermost ∷ outer) k lines → Put (innermost ∷ outer) (in_front statement k) (statement_lines statement lines)
unfolding Fits lines_behind block_lines
put_statement innermost outer statement (Outside all) lines p = absurd p.fits
put_statement innermost outer statement (Block block k) lines p = record { fits = p.fits; same = ap (statement_lines statement) p.same }
put_statement innermost outer statement (First block other k) lines p = record { fits = p.fits; same = ap (statement_lines statement) p.same }
put_statement innermost outer statement (Tried block x y handler k) lines p = record { fits = p.fits; same = ap (statement_lines statement) p.same }

put_do : (innermost : OpenBlock) (outer : List OpenBlock) (simple : Simple) (k : Behind) (lines : List Line)
    → Put (innermost ∷ outer) k lines → Put (innermost ∷ outer) (in_front (Do simple) k) (line.Do simple ∷ lines)
unfolding statement_lines
put_do innermost outer simple k lines p = put_statement innermost outer (Do simple) k lines p

-- the line of an `if`
put_if : (innermost : OpenBlock) (outer : List OpenBlock) (a : Operand) (k : Behind) (lines : List Line)
    → Put (open_block.If ∷ innermost ∷ outer) k lines → Put (innermost ∷ outer) (before_if a k) (line.If a ∷ lines)
unfolding Fits lines_behind statement_lines
put_if innermost outer a (Outside all) lines p = absurd p.fits
put_if innermost outer a (Block block k) lines p =
    let q = put_statement innermost outer (If a block) k (lines_behind k) (record { fits = p.fits.1; same = refl }) in
    record { fits = q.fits; same = q.same ∙ ap (λ ls. line.If a ∷ ls) p.same }
put_if innermost outer a (First block other k) lines p =
    let q = put_statement innermost outer (IfElse a block other) k (lines_behind k) (record { fits = p.fits.1; same = refl }) in
    record { fits = q.fits; same = q.same ∙ ap (λ ls. line.If a ∷ ls) p.same }
put_if innermost outer a (Tried block x y handler k) lines p = absurd (true≢false (sym p.fits.0))

-- the line of a `while`
put_while : (innermost : OpenBlock) (outer : List OpenBlock) (a : Operand) (k : Behind) (lines : List Line)
    → Put (open_block.While ∷ innermost ∷ outer) k lines → Put (innermost ∷ outer) (before_while a k) (line.While a ∷ lines)
unfolding Fits lines_behind statement_lines
put_while innermost outer a (Outside all) lines p = absurd p.fits
put_while innermost outer a (Block block k) lines p =
    let q = put_statement innermost outer (While a block) k (lines_behind k) (record { fits = p.fits.1; same = refl }) in
    record { fits = q.fits; same = q.same ∙ ap (λ ls. line.While a ∷ ls) p.same }
put_while innermost outer a (First block other k) lines p = absurd (true≢false (sym p.fits.0))
put_while innermost outer a (Tried block x y handler k) lines p = absurd (true≢false (sym p.fits.0))

-- the line of a `try`
put_try : (innermost : OpenBlock) (outer : List OpenBlock) (k : Behind) (lines : List Line)
    → Put (open_block.Try ∷ innermost ∷ outer) k lines → Put (innermost ∷ outer) (before_try k) (line.Try ∷ lines)
unfolding Fits lines_behind statement_lines
put_try innermost outer (Outside all) lines p = absurd p.fits
put_try innermost outer (Block block k) lines p = absurd (true≢false p.fits.0)
put_try innermost outer (First block other k) lines p = absurd (true≢false (sym p.fits.0))
put_try innermost outer (Tried block x y handler k) lines p =
    let q = put_statement innermost outer (Try block x y handler) k (lines_behind k) (record { fits = p.fits.1; same = refl }) in
    record { fits = q.fits; same = q.same ∙ ap (λ ls. line.Try ∷ ls) p.same }

-- the line `else`
put_else : (innermost : OpenBlock) (outer : List OpenBlock) (k : Behind) (lines : List Line) → is_if innermost ≡ true
    → Put (open_block.Else ∷ outer) k lines → Put (innermost ∷ outer) (before_else k) (line.Else ∷ lines)
unfolding Fits lines_behind block_lines
put_else innermost outer (Outside all) lines is p = absurd p.fits
put_else innermost outer (Block other k) lines is p = record { fits = (is, p.fits.1); same = ap (λ ls. line.Else ∷ ls) p.same }
put_else innermost outer (First block other k) lines is p = absurd (true≢false (sym p.fits.0))
put_else innermost outer (Tried block x y handler k) lines is p = absurd (true≢false (sym p.fits.0))

-- the line of a `catch`
put_catch : (innermost : OpenBlock) (outer : List OpenBlock) (x y : List ℕ) (k : Behind) (lines : List Line) → is_try innermost ≡ true
    → Put (open_block.Catch ∷ outer) k lines → Put (innermost ∷ outer) (before_catch x y k) (line.Catch x y ∷ lines)
unfolding Fits lines_behind block_lines
put_catch innermost outer x y (Outside all) lines is p = absurd p.fits
put_catch innermost outer x y (Block handler k) lines is p = record { fits = (is, p.fits.1); same = ap (λ ls. line.Catch x y ∷ ls) p.same }
put_catch innermost outer x y (First block other k) lines is p = absurd (true≢false (sym p.fits.0))
put_catch innermost outer x y (Tried block v w handler k) lines is p = absurd (true≢false (sym p.fits.0))

-- the line `end`
put_end : (innermost : OpenBlock) (outer : List OpenBlock) (k : Behind) (lines : List Line) → is_try innermost ≡ false
    → Put outer k lines → Put (innermost ∷ outer) (Block Nothing k) (line.End ∷ lines)
unfolding Fits lines_behind block_lines
put_end innermost outer k lines is p = record { fits = (is, p.fits); same = ap (λ ls. line.End ∷ ls) p.same }

-- the first line of a procedure
put_proc : (name : List ℕ) (parameters : List (List ℕ)) (k : Behind) (lines : List Line)
    → Put (open_block.Procedure ∷ []) k lines → Put [] (before_proc name parameters k) (line.Proc name parameters ∷ lines)
unfolding Fits lines_behind script_lines
put_proc name parameters (Outside all) lines p = absurd p.fits
put_proc name parameters (Block body (Outside all)) lines p = record { fits = tt {0}; same = ap (λ ls. line.Proc name parameters ∷ ls) p.same }
put_proc name parameters (Block body (Block block k)) lines p = absurd p.fits.1
put_proc name parameters (Block body (First block other k)) lines p = absurd p.fits.1
put_proc name parameters (Block body (Tried block x y handler k)) lines p = absurd p.fits.1
put_proc name parameters (First block other k) lines p = absurd (true≢false (sym p.fits.0))
put_proc name parameters (Tried block x y handler k) lines p = absurd (true≢false (sym p.fits.0))

-- lines that stand where they can
pub accepted : (blocks : List OpenBlock) (lines : List Line) → accepts blocks lines ≡ true → Put blocks (behind lines) lines
unfolding accepts behind Fits lines_behind script_lines
accepted [] [] e = record { fits = tt {0}; same = refl }
accepted (innermost ∷ outer) [] e = absurd (true≢false (sym e))
accepted [] (line.Proc name parameters ∷ lines) e = put_proc name parameters (behind lines) lines (accepted (open_block.Procedure ∷ []) lines e)
accepted [] (line.If a ∷ lines) e = absurd (true≢false (sym e))
accepted [] (line.Else ∷ lines) e = absurd (true≢false (sym e))
accepted [] (line.While a ∷ lines) e = absurd (true≢false (sym e))
accepted [] (line.Try ∷ lines) e = absurd (true≢false (sym e))
accepted [] (line.Catch x y ∷ lines) e = absurd (true≢false (sym e))
accepted [] (line.End ∷ lines) e = absurd (true≢false (sym e))
accepted [] (line.Do simple ∷ lines) e = absurd (true≢false (sym e))
accepted (innermost ∷ outer) (line.Proc name parameters ∷ lines) e = absurd (true≢false (sym e))
accepted (innermost ∷ outer) (line.If a ∷ lines) e = put_if innermost outer a (behind lines) lines (accepted (open_block.If ∷ innermost ∷ outer) lines e)
accepted (innermost ∷ outer) (line.Else ∷ lines) e =
    let parts = and_parts (not (not (is_if innermost))) (accepts (open_block.Else ∷ outer) lines) e in
    put_else innermost outer (behind lines) lines (not_not (is_if innermost) parts.0) (accepted (open_block.Else ∷ outer) lines parts.1)
accepted (innermost ∷ outer) (line.While a ∷ lines) e = put_while innermost outer a (behind lines) lines (accepted (open_block.While ∷ innermost ∷ outer) lines e)
accepted (innermost ∷ outer) (line.Try ∷ lines) e = put_try innermost outer (behind lines) lines (accepted (open_block.Try ∷ innermost ∷ outer) lines e)
accepted (innermost ∷ outer) (line.Catch x y ∷ lines) e =
    let parts = and_parts (not (not (is_try innermost))) (accepts (open_block.Catch ∷ outer) lines) e in
    put_catch innermost outer x y (behind lines) lines (not_not (is_try innermost) parts.0) (accepted (open_block.Catch ∷ outer) lines parts.1)
accepted (innermost ∷ outer) (line.End ∷ lines) e =
    let parts = and_parts (not (is_try innermost)) (accepts outer lines) e in
    put_end innermost outer (behind lines) lines (not_true (is_try innermost) parts.0) (accepted outer lines parts.1)
accepted (innermost ∷ outer) (line.Do simple ∷ lines) e = put_do innermost outer simple (behind lines) lines (accepted (innermost ∷ outer) lines e)

script_of : (k : Behind) → Fits [] k → script_lines (procedures k) ≡ lines_behind k
unfolding Fits lines_behind
script_of (Outside all) fits = refl
script_of (Block block k) fits = absurd fits
script_of (First block other k) fits = absurd fits
script_of (Tried block x y handler k) fits = absurd fits

-- they are the lines of their script
pub script_lines-accepted : (lines : List Line) → accepts [] lines ≡ true → script_lines (script_of_lines lines) ≡ lines
script_lines-accepted lines e = let p = accepted [] lines e in script_of (behind lines) p.fits ∙ p.same

mutual
  unfolding accepts statement_lines block_lines

  -- the lines of a statement stand where they can in a procedure
  accepts-statement_lines : (innermost : OpenBlock) (outer : List OpenBlock) (statement : Statement) (rest : List Line)
      → accepts (innermost ∷ outer) (statement_lines statement rest) ≡ accepts (innermost ∷ outer) rest
  accepts-statement_lines innermost outer (Do simple) rest = refl
  accepts-statement_lines innermost outer (If a block) rest = accepts-block_lines open_block.If (innermost ∷ outer) block (line.End ∷ rest)
  accepts-statement_lines innermost outer (IfElse a block other) rest =
      accepts-block_lines open_block.If (innermost ∷ outer) block (line.Else ∷ block_lines other (line.End ∷ rest))
      ∙ accepts-block_lines open_block.Else (innermost ∷ outer) other (line.End ∷ rest)
  accepts-statement_lines innermost outer (While a block) rest = accepts-block_lines open_block.While (innermost ∷ outer) block (line.End ∷ rest)
  accepts-statement_lines innermost outer (Try block x y handler) rest =
      accepts-block_lines open_block.Try (innermost ∷ outer) block (line.Catch x y ∷ block_lines handler (line.End ∷ rest))
      ∙ accepts-block_lines open_block.Catch (innermost ∷ outer) handler (line.End ∷ rest)

  accepts-block_lines : (innermost : OpenBlock) (outer : List OpenBlock) (block : Statements) (rest : List Line)
      → accepts (innermost ∷ outer) (block_lines block rest) ≡ accepts (innermost ∷ outer) rest
  accepts-block_lines innermost outer Nothing rest = refl
  accepts-block_lines innermost outer (Then statement block) rest =
      accepts-statement_lines innermost outer statement (block_lines block rest) ∙ accepts-block_lines innermost outer block rest

-- the lines of a script stand where they can
pub accepts-script_lines : (script : List Procedure) → accepts [] (script_lines script) ≡ true
unfolding accepts script_lines
accepts-script_lines [] = refl
accepts-script_lines (procedure ∷ others) =
    accepts-block_lines open_block.Procedure [] procedure.body (line.End ∷ script_lines others) ∙ accepts-script_lines others
