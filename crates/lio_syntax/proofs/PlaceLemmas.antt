-- What stands behind the line at a place, and which line ends a block.
use Rattle.std.specs.Prelude.{slice_get, Some, None}
use Rattle.std.proofs.Common.{◌≡◌, ℕ, zero, suc, ◌+◌, ◌≤◌, true, not, List, [], ◌∷◌, length, drop, refl, ap, sym, subst, ◌∙◌, add-one, arith, true≢false}
use Rattle.std.proofs.lemmas.Bool.{and_parts}
use Rattle.lio_syntax_lines.specs.declared.line.Line.{Line}
use Rattle.lio_syntax_lines.specs.declared.line.Operand.{Operand}
use Rattle.lio_syntax_lines.specs.declared.line.Line.TheVariants as line
use Rattle.lio_syntax.specs.declared.open_block.OpenBlock.{OpenBlock}
use Rattle.lio_syntax.specs.declared.open_block.OpenBlock.TheVariants as open_block
use Rattle.lio_syntax.specs.Statements.{Statement, Do, If, IfElse, While, Try}
use Rattle.lio_syntax.specs.Behind.{Behind, Outside, Block, First, Tried, in_front, before_if, before_while, before_try, before_else, before_catch, before_proc, behind}
use Rattle.lio_syntax.specs.OpenBlocks.{accepts, is_if, is_try, is_misplaced, opened_by}
use Rattle.lio_syntax.specs.Closing.{block_ends, first_of, end_of, IsInside}
use Rattle.lio_syntax.proofs.GrammarLemmas.{Fits, accepted}

-- the line at each of the places ends one block more
Ends : List Line → Behind → List ℕ → Type 0
Ends lines (Outside procedures) ends = Unit {0}
Ends lines (Block block k) [] = ⊥
Ends lines (Block block k) (at ∷ ends) = (slice_get lines at ≡ Some line.End) × Ends lines k ends
Ends lines (First block other k) [] = ⊥
Ends lines (First block other k) (at ∷ ends) = (slice_get lines at ≡ Some line.Else) × Ends lines k ends
Ends lines (Tried block x y handler k) [] = ⊥
Ends lines (Tried block x y handler k) (at ∷ ends) = (slice_get lines at ≡ Some (line.Catch x y)) × Ends lines k ends

-- a statement in front ends nothing
ends_front : (lines : List Line) (statement : Statement) (k : Behind) (ends : List ℕ) → Ends lines k ends → Ends lines (in_front statement k) ends
unfolding Ends
ends_front lines statement (Outside procedures) ends c = c
ends_front lines statement (Block block k) [] c = c
ends_front lines statement (Block block k) (at ∷ ends) c = c
ends_front lines statement (First block other k) [] c = c
ends_front lines statement (First block other k) (at ∷ ends) c = c
ends_front lines statement (Tried block x y handler k) [] c = c
ends_front lines statement (Tried block x y handler k) (at ∷ ends) c = c

ends_if : (lines : List Line) (outer : List OpenBlock) (a : Operand) (k : Behind) (ends : List ℕ) → Fits (open_block.If ∷ outer) k → Ends lines k ends → Ends lines (before_if a k) (drop 1 ends)
unfolding Ends Fits
ends_if lines outer a (Outside procedures) ends fits c = absurd fits
ends_if lines outer a (Block block k) [] fits c = absurd c
ends_if lines outer a (Block block k) (at ∷ ends) fits c = ends_front lines (If a block) k ends c.1
ends_if lines outer a (First block other k) [] fits c = absurd c
ends_if lines outer a (First block other k) (at ∷ ends) fits c = ends_front lines (IfElse a block other) k ends c.1
ends_if lines outer a (Tried block x y handler k) ends fits c = absurd (true≢false (sym fits.0))

ends_while : (lines : List Line) (outer : List OpenBlock) (a : Operand) (k : Behind) (ends : List ℕ) → Fits (open_block.While ∷ outer) k → Ends lines k ends → Ends lines (before_while a k) (drop 1 ends)
unfolding Ends Fits
ends_while lines outer a (Outside procedures) ends fits c = absurd fits
ends_while lines outer a (Block block k) [] fits c = absurd c
ends_while lines outer a (Block block k) (at ∷ ends) fits c = ends_front lines (While a block) k ends c.1
ends_while lines outer a (First block other k) ends fits c = absurd (true≢false (sym fits.0))
ends_while lines outer a (Tried block x y handler k) ends fits c = absurd (true≢false (sym fits.0))

ends_try : (lines : List Line) (outer : List OpenBlock) (k : Behind) (ends : List ℕ) → Fits (open_block.Try ∷ outer) k → Ends lines k ends → Ends lines (before_try k) (drop 1 ends)
unfolding Ends Fits
ends_try lines outer (Outside procedures) ends fits c = absurd fits
ends_try lines outer (Block block k) ends fits c = absurd (true≢false fits.0)
ends_try lines outer (First block other k) ends fits c = absurd (true≢false (sym fits.0))
ends_try lines outer (Tried block x y handler k) [] fits c = absurd c
ends_try lines outer (Tried block x y handler k) (at ∷ ends) fits c = ends_front lines (Try block x y handler) k ends c.1

ends_else : (lines : List Line) (outer : List OpenBlock) (at : ℕ) (k : Behind) (ends : List ℕ) → Fits (open_block.Else ∷ outer) k → slice_get lines at ≡ Some line.Else → Ends lines k ends
    → Ends lines (before_else k) (at ∷ drop 1 ends)
unfolding Ends Fits
ends_else lines outer at (Outside procedures) ends fits e c = absurd fits
ends_else lines outer at (Block block k) [] fits e c = absurd c
ends_else lines outer at (Block block k) (end ∷ ends) fits e c = (e, c.1)
ends_else lines outer at (First block other k) ends fits e c = absurd (true≢false (sym fits.0))
ends_else lines outer at (Tried block x y handler k) ends fits e c = absurd (true≢false (sym fits.0))

ends_catch : (lines : List Line) (outer : List OpenBlock) (at : ℕ) (x y : List ℕ) (k : Behind) (ends : List ℕ) → Fits (open_block.Catch ∷ outer) k → slice_get lines at ≡ Some (line.Catch x y) → Ends lines k ends
    → Ends lines (before_catch x y k) (at ∷ drop 1 ends)
unfolding Ends Fits
ends_catch lines outer at x y (Outside procedures) ends fits e c = absurd fits
ends_catch lines outer at x y (Block block k) [] fits e c = absurd c
ends_catch lines outer at x y (Block block k) (end ∷ ends) fits e c = (e, c.1)
ends_catch lines outer at x y (First block other k) ends fits e c = absurd (true≢false (sym fits.0))
ends_catch lines outer at x y (Tried block v w handler k) ends fits e c = absurd (true≢false (sym fits.0))

ends_proc : (lines : List Line) (name : List ℕ) (parameters : List (List ℕ)) (k : Behind) (ends : List ℕ) → Fits (open_block.Procedure ∷ []) k → Ends lines (before_proc name parameters k) (drop 1 ends)
unfolding Ends Fits
ends_proc lines name parameters (Outside procedures) ends fits = absurd fits
ends_proc lines name parameters (Block block (Outside procedures)) ends fits = tt {0}
ends_proc lines name parameters (Block block (Block other k)) ends fits = absurd fits.1
ends_proc lines name parameters (Block block (First one other k)) ends fits = absurd fits.1
ends_proc lines name parameters (Block block (Tried one x y handler k)) ends fits = absurd fits.1
ends_proc lines name parameters (First block other k) ends fits = absurd (true≢false (sym fits.0))
ends_proc lines name parameters (Tried block x y handler k) ends fits = absurd (true≢false (sym fits.0))

-- what a place in lines says of what stands from there on
pub drop_next : (lines rest : List Line) (at : ℕ) (l : Line) → drop at lines ≡ l ∷ rest → drop (suc at) lines ≡ rest
drop_next [] rest zero l e = let wrong : [] ≡ l ∷ rest = e in absurd (cc)
drop_next [] rest (suc at) l e = let wrong : [] ≡ l ∷ rest = e in absurd (cc)
drop_next (first ∷ lines) rest zero l e = let same : first ∷ lines ≡ l ∷ rest = e in cc
drop_next (first ∷ lines) rest (suc at) l e = drop_next lines rest at l e

pub get_drop : (lines rest : List Line) (at : ℕ) (l : Line) → drop at lines ≡ l ∷ rest → slice_get lines at ≡ Some l
get_drop [] rest zero l e = let wrong : [] ≡ l ∷ rest = e in absurd (cc)
get_drop [] rest (suc at) l e = let wrong : [] ≡ l ∷ rest = e in absurd (cc)
get_drop (first ∷ lines) rest zero l e = let same : first ∷ lines ≡ l ∷ rest = e in cc
get_drop (first ∷ lines) rest (suc at) l e = get_drop lines rest at l e

each_end : (lines : List Line) (blocks : List OpenBlock) (at : ℕ) (rest : List Line) → drop at lines ≡ rest → accepts blocks rest ≡ true → Ends lines (behind rest) (block_ends at rest)
unfolding Ends behind block_ends accepts
each_end lines blocks at [] e ok = tt {0}
each_end lines [] at (line.Proc name parameters ∷ rest) e ok = ends_proc lines name parameters (behind rest) (block_ends (suc at) rest) (accepted (open_block.Procedure ∷ []) rest ok).fits
each_end lines [] at (line.If a ∷ rest) e ok = absurd (true≢false (sym ok))
each_end lines [] at (line.Else ∷ rest) e ok = absurd (true≢false (sym ok))
each_end lines [] at (line.While a ∷ rest) e ok = absurd (true≢false (sym ok))
each_end lines [] at (line.Try ∷ rest) e ok = absurd (true≢false (sym ok))
each_end lines [] at (line.Catch x y ∷ rest) e ok = absurd (true≢false (sym ok))
each_end lines [] at (line.End ∷ rest) e ok = absurd (true≢false (sym ok))
each_end lines [] at (line.Do simple ∷ rest) e ok = absurd (true≢false (sym ok))
each_end lines (i ∷ outer) at (line.Proc name parameters ∷ rest) e ok = absurd (true≢false (sym ok))
each_end lines (i ∷ outer) at (line.If a ∷ rest) e ok =
    ends_if lines (i ∷ outer) a (behind rest) (block_ends (suc at) rest) (accepted (open_block.If ∷ i ∷ outer) rest ok).fits
    (each_end lines (open_block.If ∷ i ∷ outer) (suc at) rest (drop_next lines rest at (line.If a) e) ok)
each_end lines (i ∷ outer) at (line.Else ∷ rest) e ok =
    let more = (and_parts (not (not (is_if i))) (accepts (open_block.Else ∷ outer) rest) ok).1 in
    let next = drop_next lines rest at line.Else e in
    ends_else lines outer at (behind rest) (block_ends (suc at) rest) (accepted (open_block.Else ∷ outer) rest more).fits (get_drop lines rest at line.Else e)
    (each_end lines (open_block.Else ∷ outer) (suc at) rest next more)
each_end lines (i ∷ outer) at (line.While a ∷ rest) e ok =
    ends_while lines (i ∷ outer) a (behind rest) (block_ends (suc at) rest) (accepted (open_block.While ∷ i ∷ outer) rest ok).fits
    (each_end lines (open_block.While ∷ i ∷ outer) (suc at) rest (drop_next lines rest at (line.While a) e) ok)
each_end lines (i ∷ outer) at (line.Try ∷ rest) e ok =
    ends_try lines (i ∷ outer) (behind rest) (block_ends (suc at) rest) (accepted (open_block.Try ∷ i ∷ outer) rest ok).fits
    (each_end lines (open_block.Try ∷ i ∷ outer) (suc at) rest (drop_next lines rest at line.Try e) ok)
each_end lines (i ∷ outer) at (line.Catch x y ∷ rest) e ok =
    let more = (and_parts (not (not (is_try i))) (accepts (open_block.Catch ∷ outer) rest) ok).1 in
    let next = drop_next lines rest at (line.Catch x y) e in
    ends_catch lines outer at x y (behind rest) (block_ends (suc at) rest) (accepted (open_block.Catch ∷ outer) rest more).fits (get_drop lines rest at (line.Catch x y) e)
    (each_end lines (open_block.Catch ∷ outer) (suc at) rest next more)
each_end lines (i ∷ outer) at (line.End ∷ rest) e ok =
    let more = (and_parts (not (is_try i)) (accepts outer rest) ok).1 in
    let next = drop_next lines rest at line.End e in
    (get_drop lines rest at line.End e, each_end lines outer (suc at) rest next more)
each_end lines (i ∷ outer) at (line.Do simple ∷ rest) e ok =
    ends_front lines (Do simple) (behind rest) (block_ends (suc at) rest) (each_end lines (i ∷ outer) (suc at) rest (drop_next lines rest at (line.Do simple) e) ok)

-- what is open behind lines
open_after : List OpenBlock → ℕ → List Line → List OpenBlock
open_after blocks zero lines = blocks
open_after blocks (suc n) [] = blocks
open_after blocks (suc n) (l ∷ lines) = open_after (opened_by blocks l) n lines

accepts-drop : (blocks : List OpenBlock) (n : ℕ) (lines : List Line) → n ≤ length lines → accepts blocks lines ≡ true → accepts (open_after blocks n lines) (drop n lines) ≡ true
unfolding open_after accepts
accepts-drop blocks zero lines within ok = ok
accepts-drop blocks (suc n) [] within ok = absurd (omega arith)
accepts-drop blocks (suc n) (l ∷ lines) within ok =
    accepts-drop (opened_by blocks l) n lines (omega arith) (and_parts (not (is_misplaced blocks l)) (accepts (opened_by blocks l) lines) ok).1

-- the line at which the innermost block ends
unfoldable pub EndLine : List Line → Behind → ℕ → Type 0
EndLine lines (Outside procedures) at = Unit {0}
EndLine lines (Block block k) at = slice_get lines at ≡ Some line.End
EndLine lines (First block other k) at = slice_get lines at ≡ Some line.Else
EndLine lines (Tried block x y handler k) at = slice_get lines at ≡ Some (line.Catch x y)

first_end : (lines : List Line) (k : Behind) (ends : List ℕ) → Ends lines k ends → EndLine lines k (first_of ends)
unfolding Ends EndLine
first_end lines (Outside procedures) ends c = tt {0}
first_end lines (Block block k) [] c = absurd c
first_end lines (Block block k) (at ∷ ends) c = c.0
first_end lines (First block other k) [] c = absurd c
first_end lines (First block other k) (at ∷ ends) c = c.0
first_end lines (Tried block x y handler k) [] c = absurd c
first_end lines (Tried block x y handler k) (at ∷ ends) c = c.0

pub end_line : (lines : List Line) (at : ℕ) → accepts [] lines ≡ true → at ≤ length lines → EndLine lines (behind (drop at lines)) (end_of lines at)
end_line lines at placed within =
    first_end lines (behind (drop at lines)) (block_ends at (drop at lines))
    (each_end lines (open_after [] at lines) at (drop at lines) refl (accepts-drop [] at lines within placed))

-- what stands behind a line
unfoldable pub Shape : Line → Behind → Type 0
Shape (line.Proc name parameters) (Outside procedures) = ⊥
Shape (line.Proc name parameters) (Block body (Outside procedures)) = Unit {0}
Shape (line.Proc name parameters) (Block body (Block block k)) = ⊥
Shape (line.Proc name parameters) (Block body (First block other k)) = ⊥
Shape (line.Proc name parameters) (Block body (Tried block x y handler k)) = ⊥
Shape (line.Proc name parameters) (First block other k) = ⊥
Shape (line.Proc name parameters) (Tried block x y handler k) = ⊥
Shape (line.If a) (Outside procedures) = ⊥
Shape (line.If a) (Block block k) = IsInside k
Shape (line.If a) (First block other k) = IsInside k
Shape (line.If a) (Tried block x y handler k) = ⊥
Shape line.Else (Outside procedures) = ⊥
Shape line.Else (Block block k) = Unit {0}
Shape line.Else (First block other k) = ⊥
Shape line.Else (Tried block x y handler k) = ⊥
Shape (line.While a) (Outside procedures) = ⊥
Shape (line.While a) (Block block k) = IsInside k
Shape (line.While a) (First block other k) = ⊥
Shape (line.While a) (Tried block x y handler k) = ⊥
Shape line.Try (Outside procedures) = ⊥
Shape line.Try (Block block k) = ⊥
Shape line.Try (First block other k) = ⊥
Shape line.Try (Tried block x y handler k) = IsInside k
Shape (line.Catch x y) (Outside procedures) = ⊥
Shape (line.Catch x y) (Block block k) = Unit {0}
Shape (line.Catch x y) (First block other k) = ⊥
Shape (line.Catch x y) (Tried block v w handler k) = ⊥
Shape line.End k = Unit {0}
Shape (line.Do simple) k = IsInside k

fits_inside : (i : OpenBlock) (outer : List OpenBlock) (k : Behind) → Fits (i ∷ outer) k → IsInside k
unfolding Fits
fits_inside i outer (Outside procedures) fits = absurd fits
fits_inside i outer (Block block k) fits = tt {0}
fits_inside i outer (First block other k) fits = tt {0}
fits_inside i outer (Tried block x y handler k) fits = tt {0}

shape_proc : (name : List ℕ) (parameters : List (List ℕ)) (k : Behind) → Fits (open_block.Procedure ∷ []) k → Shape (line.Proc name parameters) k
unfolding Fits Shape
shape_proc name parameters (Outside procedures) fits = absurd fits
shape_proc name parameters (Block block (Outside procedures)) fits = tt {0}
shape_proc name parameters (Block block (Block other k)) fits = absurd fits.1
shape_proc name parameters (Block block (First one other k)) fits = absurd fits.1
shape_proc name parameters (Block block (Tried one x y handler k)) fits = absurd fits.1
shape_proc name parameters (First block other k) fits = absurd (true≢false (sym fits.0))
shape_proc name parameters (Tried block x y handler k) fits = absurd (true≢false (sym fits.0))

shape_if : (i : OpenBlock) (outer : List OpenBlock) (a : Operand) (k : Behind) → Fits (open_block.If ∷ i ∷ outer) k → Shape (line.If a) k
unfolding Fits Shape
shape_if i outer a (Outside procedures) fits = absurd fits
shape_if i outer a (Block block k) fits = fits_inside i outer k fits.1
shape_if i outer a (First block other k) fits = fits_inside i outer k fits.1
shape_if i outer a (Tried block x y handler k) fits = absurd (true≢false (sym fits.0))

shape_while : (i : OpenBlock) (outer : List OpenBlock) (a : Operand) (k : Behind) → Fits (open_block.While ∷ i ∷ outer) k → Shape (line.While a) k
unfolding Fits Shape
shape_while i outer a (Outside procedures) fits = absurd fits
shape_while i outer a (Block block k) fits = fits_inside i outer k fits.1
shape_while i outer a (First block other k) fits = absurd (true≢false (sym fits.0))
shape_while i outer a (Tried block x y handler k) fits = absurd (true≢false (sym fits.0))

shape_try : (i : OpenBlock) (outer : List OpenBlock) (k : Behind) → Fits (open_block.Try ∷ i ∷ outer) k → Shape line.Try k
unfolding Fits Shape
shape_try i outer (Outside procedures) fits = absurd fits
shape_try i outer (Block block k) fits = absurd (true≢false fits.0)
shape_try i outer (First block other k) fits = absurd (true≢false (sym fits.0))
shape_try i outer (Tried block x y handler k) fits = fits_inside i outer k fits.1

shape_else : (outer : List OpenBlock) (k : Behind) → Fits (open_block.Else ∷ outer) k → Shape line.Else k
unfolding Fits Shape
shape_else outer (Outside procedures) fits = absurd fits
shape_else outer (Block block k) fits = tt {0}
shape_else outer (First block other k) fits = absurd (true≢false (sym fits.0))
shape_else outer (Tried block x y handler k) fits = absurd (true≢false (sym fits.0))

shape_catch : (outer : List OpenBlock) (x y : List ℕ) (k : Behind) → Fits (open_block.Catch ∷ outer) k → Shape (line.Catch x y) k
unfolding Fits Shape
shape_catch outer x y (Outside procedures) fits = absurd fits
shape_catch outer x y (Block block k) fits = tt {0}
shape_catch outer x y (First block other k) fits = absurd (true≢false (sym fits.0))
shape_catch outer x y (Tried block v w handler k) fits = absurd (true≢false (sym fits.0))

shape : (blocks : List OpenBlock) (l : Line) (rest : List Line) → accepts blocks (l ∷ rest) ≡ true → Shape l (behind rest)
unfolding accepts Shape
shape [] (line.Proc name parameters) rest ok = shape_proc name parameters (behind rest) (accepted (open_block.Procedure ∷ []) rest ok).fits
shape [] (line.If a) rest ok = absurd (true≢false (sym ok))
shape [] line.Else rest ok = absurd (true≢false (sym ok))
shape [] (line.While a) rest ok = absurd (true≢false (sym ok))
shape [] line.Try rest ok = absurd (true≢false (sym ok))
shape [] (line.Catch x y) rest ok = absurd (true≢false (sym ok))
shape [] line.End rest ok = absurd (true≢false (sym ok))
shape [] (line.Do simple) rest ok = absurd (true≢false (sym ok))
shape (i ∷ outer) (line.Proc name parameters) rest ok = absurd (true≢false (sym ok))
shape (i ∷ outer) (line.If a) rest ok = shape_if i outer a (behind rest) (accepted (open_block.If ∷ i ∷ outer) rest ok).fits
shape (i ∷ outer) line.Else rest ok =
    shape_else outer (behind rest) (accepted (open_block.Else ∷ outer) rest (and_parts (not (not (is_if i))) (accepts (open_block.Else ∷ outer) rest) ok).1).fits
shape (i ∷ outer) (line.While a) rest ok = shape_while i outer a (behind rest) (accepted (open_block.While ∷ i ∷ outer) rest ok).fits
shape (i ∷ outer) line.Try rest ok = shape_try i outer (behind rest) (accepted (open_block.Try ∷ i ∷ outer) rest ok).fits
shape (i ∷ outer) (line.Catch x y) rest ok =
    shape_catch outer x y (behind rest) (accepted (open_block.Catch ∷ outer) rest (and_parts (not (not (is_try i))) (accepts (open_block.Catch ∷ outer) rest) ok).1).fits
shape (i ∷ outer) line.End rest ok = tt {0}
shape (i ∷ outer) (line.Do simple) rest ok = fits_inside i outer (behind rest) (accepted (i ∷ outer) rest ok).fits

pub get_within : (lines : List Line) (at : ℕ) (l : Line) → slice_get lines at ≡ Some l → at + 1 ≤ length lines
get_within [] at l e = let wrong : None ≡ Some l = e in absurd (cc)
get_within (x ∷ lines) zero l e = omega arith
get_within (x ∷ lines) (suc at) l e = omega (arith, get_within lines at l e)

get_drops : (lines : List Line) (at : ℕ) (l : Line) → slice_get lines at ≡ Some l → drop at lines ≡ l ∷ drop (suc at) lines
get_drops [] at l e = let wrong : None ≡ Some l = e in absurd (cc)
get_drops (x ∷ lines) zero l e = let same : Some x ≡ Some l = e in cc
get_drops (x ∷ lines) (suc at) l e = get_drops lines at l e

-- a line at a place, and what stands behind it
pub record Here (lines : List Line) (at : ℕ) (l : Line) : Type 0 where
  pub within : at + 1 ≤ length lines
  pub same : drop at lines ≡ l ∷ drop (at + 1) lines
  pub shape : Shape l (behind (drop (at + 1) lines))

pub here : (lines : List Line) (at : ℕ) (l : Line) → accepts [] lines ≡ true → slice_get lines at ≡ Some l → Here lines at l
here lines at l placed is =
    let within : at + 1 ≤ length lines = get_within lines at l is in
    let same : drop at lines ≡ l ∷ drop (at + 1) lines = get_drops lines at l is ∙ ap (λ (n : ℕ). l ∷ drop n lines) (sym (add-one at)) in
    record {
      within = within;
      same = same;
      shape = shape (open_after [] at lines) l (drop (at + 1) lines) (subst (λ (ls : List Line). accepts (open_after [] at lines) ls ≡ true) same (accepts-drop [] at lines (omega arith) placed));
    }
