-- Where blocks end.
use Rattle.std.proofs.Common.{◌≡◌, ℕ, zero, suc, ◌+◌, ◌<◌, ◌≤◌, true, not, List, [], ◌∷◌, length, drop, get_or, add-one, refl, ap, sym, arith, ◌∙◌, true≢false, length-drop}
use Rattle.std.proofs.Math.ListN.{set}
use Rattle.std.proofs.Math.Seq.{drop-cons}
use Rattle.std.proofs.lemmas.Grind.{common_steps}
use Rattle.std.proofs.lemmas.Bool.{and_parts}
use Rattle.lio_syntax_lines.specs.declared.line.Line.{Line}
use Rattle.lio_syntax_lines.specs.declared.line.Operand.{Operand}
use Rattle.lio_syntax_lines.specs.declared.line.Line.TheVariants as line
use Rattle.lio_syntax.specs.declared.open_block.OpenBlock.{OpenBlock}
use Rattle.lio_syntax.specs.declared.open_block.OpenBlock.TheVariants as open_block
use Rattle.lio_syntax.specs.Statements.{Statement, Do, If, IfElse, While, Try}
use Rattle.lio_syntax.specs.Behind.{Behind, Outside, Block, First, Tried, in_front, before_if, before_while, before_try, before_else, before_catch, before_proc, behind}
use Rattle.lio_syntax.specs.OpenBlocks.{accepts, is_if, is_try, is_misplaced, opened_by}
use Rattle.lio_syntax.specs.Closing.{ends_before, block_ends, first_of, ends_behind, end_of, outside, IsInside, EndIsBehindBlock}
use Rattle.lio_syntax.proofs.GrammarLemmas.{Fits, accepted}

-- at each of the places one block more has ended
Chain : List Line → Behind → List ℕ → Type 0
Chain lines (Outside procedures) ends = Unit {0}
Chain lines (Block block k) [] = ⊥
Chain lines (Block block k) (at ∷ ends) = (behind (drop (suc at) lines) ≡ k) × Chain lines k ends
Chain lines (First block other k) [] = ⊥
Chain lines (First block other k) (at ∷ ends) = (behind (drop (suc at) lines) ≡ Block other k) × Chain lines k ends
Chain lines (Tried block x y handler k) [] = ⊥
Chain lines (Tried block x y handler k) (at ∷ ends) = (behind (drop (suc at) lines) ≡ Block handler k) × Chain lines k ends

-- a statement in front ends nothing
chain_front : (lines : List Line) (statement : Statement) (k : Behind) (ends : List ℕ) → Chain lines k ends → Chain lines (in_front statement k) ends
unfolding Chain
chain_front lines statement (Outside procedures) ends c = c
chain_front lines statement (Block block k) [] c = c
chain_front lines statement (Block block k) (at ∷ ends) c = c
chain_front lines statement (First block other k) [] c = c
chain_front lines statement (First block other k) (at ∷ ends) c = c
chain_front lines statement (Tried block x y handler k) [] c = c
chain_front lines statement (Tried block x y handler k) (at ∷ ends) c = c

chain_if : (lines : List Line) (outer : List OpenBlock) (a : Operand) (k : Behind) (ends : List ℕ) → Fits (open_block.If ∷ outer) k → Chain lines k ends → Chain lines (before_if a k) (drop 1 ends)
unfolding Chain Fits
chain_if lines outer a (Outside procedures) ends fits c = absurd fits
chain_if lines outer a (Block block k) [] fits c = absurd c
chain_if lines outer a (Block block k) (at ∷ ends) fits c = chain_front lines (If a block) k ends c.1
chain_if lines outer a (First block other k) [] fits c = absurd c
chain_if lines outer a (First block other k) (at ∷ ends) fits c = chain_front lines (IfElse a block other) k ends c.1
chain_if lines outer a (Tried block x y handler k) ends fits c = absurd (true≢false (sym fits.0))

chain_while : (lines : List Line) (outer : List OpenBlock) (a : Operand) (k : Behind) (ends : List ℕ) → Fits (open_block.While ∷ outer) k → Chain lines k ends → Chain lines (before_while a k) (drop 1 ends)
unfolding Chain Fits
chain_while lines outer a (Outside procedures) ends fits c = absurd fits
chain_while lines outer a (Block block k) [] fits c = absurd c
chain_while lines outer a (Block block k) (at ∷ ends) fits c = chain_front lines (While a block) k ends c.1
chain_while lines outer a (First block other k) ends fits c = absurd (true≢false (sym fits.0))
chain_while lines outer a (Tried block x y handler k) ends fits c = absurd (true≢false (sym fits.0))

chain_try : (lines : List Line) (outer : List OpenBlock) (k : Behind) (ends : List ℕ) → Fits (open_block.Try ∷ outer) k → Chain lines k ends → Chain lines (before_try k) (drop 1 ends)
unfolding Chain Fits
chain_try lines outer (Outside procedures) ends fits c = absurd fits
chain_try lines outer (Block block k) ends fits c = absurd (true≢false fits.0)
chain_try lines outer (First block other k) ends fits c = absurd (true≢false (sym fits.0))
chain_try lines outer (Tried block x y handler k) [] fits c = absurd c
chain_try lines outer (Tried block x y handler k) (at ∷ ends) fits c = chain_front lines (Try block x y handler) k ends c.1

chain_else : (lines : List Line) (outer : List OpenBlock) (at : ℕ) (k : Behind) (ends : List ℕ) → Fits (open_block.Else ∷ outer) k → behind (drop (suc at) lines) ≡ k → Chain lines k ends
    → Chain lines (before_else k) (at ∷ drop 1 ends)
unfolding Chain Fits
chain_else lines outer at (Outside procedures) ends fits e c = absurd fits
chain_else lines outer at (Block block k) [] fits e c = absurd c
chain_else lines outer at (Block block k) (end ∷ ends) fits e c = (e, c.1)
chain_else lines outer at (First block other k) ends fits e c = absurd (true≢false (sym fits.0))
chain_else lines outer at (Tried block x y handler k) ends fits e c = absurd (true≢false (sym fits.0))

chain_catch : (lines : List Line) (outer : List OpenBlock) (at : ℕ) (x y : List ℕ) (k : Behind) (ends : List ℕ) → Fits (open_block.Catch ∷ outer) k → behind (drop (suc at) lines) ≡ k → Chain lines k ends
    → Chain lines (before_catch x y k) (at ∷ drop 1 ends)
unfolding Chain Fits
chain_catch lines outer at x y (Outside procedures) ends fits e c = absurd fits
chain_catch lines outer at x y (Block block k) [] fits e c = absurd c
chain_catch lines outer at x y (Block block k) (end ∷ ends) fits e c = (e, c.1)
chain_catch lines outer at x y (First block other k) ends fits e c = absurd (true≢false (sym fits.0))
chain_catch lines outer at x y (Tried block v w handler k) ends fits e c = absurd (true≢false (sym fits.0))

chain_proc : (lines : List Line) (name : List ℕ) (parameters : List (List ℕ)) (k : Behind) (ends : List ℕ) → Fits (open_block.Procedure ∷ []) k → Chain lines (before_proc name parameters k) (drop 1 ends)
unfolding Chain Fits
chain_proc lines name parameters (Outside procedures) ends fits = absurd fits
chain_proc lines name parameters (Block block (Outside procedures)) ends fits = tt {0}
chain_proc lines name parameters (Block block (Block other k)) ends fits = absurd fits.1
chain_proc lines name parameters (Block block (First one other k)) ends fits = absurd fits.1
chain_proc lines name parameters (Block block (Tried one x y handler k)) ends fits = absurd fits.1
chain_proc lines name parameters (First block other k) ends fits = absurd (true≢false (sym fits.0))
chain_proc lines name parameters (Tried block x y handler k) ends fits = absurd (true≢false (sym fits.0))

drop_next : (lines rest : List Line) (at : ℕ) (l : Line) → drop at lines ≡ l ∷ rest → drop (suc at) lines ≡ rest
drop_next [] rest zero l e = let wrong : [] ≡ l ∷ rest = e in absurd (cc)
drop_next [] rest (suc at) l e = let wrong : [] ≡ l ∷ rest = e in absurd (cc)
drop_next (first ∷ lines) rest zero l e = let same : first ∷ lines ≡ l ∷ rest = e in cc
drop_next (first ∷ lines) rest (suc at) l e = drop_next lines rest at l e

chain : (lines : List Line) (blocks : List OpenBlock) (at : ℕ) (rest : List Line) → drop at lines ≡ rest → accepts blocks rest ≡ true → Chain lines (behind rest) (block_ends at rest)
unfolding Chain behind block_ends accepts
chain lines blocks at [] e ok = tt {0}
chain lines [] at (line.Proc name parameters ∷ rest) e ok = chain_proc lines name parameters (behind rest) (block_ends (suc at) rest) (accepted (open_block.Procedure ∷ []) rest ok).fits
chain lines [] at (line.If a ∷ rest) e ok = absurd (true≢false (sym ok))
chain lines [] at (line.Else ∷ rest) e ok = absurd (true≢false (sym ok))
chain lines [] at (line.While a ∷ rest) e ok = absurd (true≢false (sym ok))
chain lines [] at (line.Try ∷ rest) e ok = absurd (true≢false (sym ok))
chain lines [] at (line.Catch x y ∷ rest) e ok = absurd (true≢false (sym ok))
chain lines [] at (line.End ∷ rest) e ok = absurd (true≢false (sym ok))
chain lines [] at (line.Do simple ∷ rest) e ok = absurd (true≢false (sym ok))
chain lines (i ∷ outer) at (line.Proc name parameters ∷ rest) e ok = absurd (true≢false (sym ok))
chain lines (i ∷ outer) at (line.If a ∷ rest) e ok =
    chain_if lines (i ∷ outer) a (behind rest) (block_ends (suc at) rest) (accepted (open_block.If ∷ i ∷ outer) rest ok).fits
    (chain lines (open_block.If ∷ i ∷ outer) (suc at) rest (drop_next lines rest at (line.If a) e) ok)
chain lines (i ∷ outer) at (line.Else ∷ rest) e ok =
    let more = (and_parts (not (not (is_if i))) (accepts (open_block.Else ∷ outer) rest) ok).1 in
    let next = drop_next lines rest at line.Else e in
    chain_else lines outer at (behind rest) (block_ends (suc at) rest) (accepted (open_block.Else ∷ outer) rest more).fits (ap behind next)
    (chain lines (open_block.Else ∷ outer) (suc at) rest next more)
chain lines (i ∷ outer) at (line.While a ∷ rest) e ok =
    chain_while lines (i ∷ outer) a (behind rest) (block_ends (suc at) rest) (accepted (open_block.While ∷ i ∷ outer) rest ok).fits
    (chain lines (open_block.While ∷ i ∷ outer) (suc at) rest (drop_next lines rest at (line.While a) e) ok)
chain lines (i ∷ outer) at (line.Try ∷ rest) e ok =
    chain_try lines (i ∷ outer) (behind rest) (block_ends (suc at) rest) (accepted (open_block.Try ∷ i ∷ outer) rest ok).fits
    (chain lines (open_block.Try ∷ i ∷ outer) (suc at) rest (drop_next lines rest at line.Try e) ok)
chain lines (i ∷ outer) at (line.Catch x y ∷ rest) e ok =
    let more = (and_parts (not (not (is_try i))) (accepts (open_block.Catch ∷ outer) rest) ok).1 in
    let next = drop_next lines rest at (line.Catch x y) e in
    chain_catch lines outer at x y (behind rest) (block_ends (suc at) rest) (accepted (open_block.Catch ∷ outer) rest more).fits (ap behind next)
    (chain lines (open_block.Catch ∷ outer) (suc at) rest next more)
chain lines (i ∷ outer) at (line.End ∷ rest) e ok =
    let more = (and_parts (not (is_try i)) (accepts outer rest) ok).1 in
    let next = drop_next lines rest at line.End e in
    (ap behind next, chain lines outer (suc at) rest next more)
chain lines (i ∷ outer) at (line.Do simple ∷ rest) e ok =
    chain_front lines (Do simple) (behind rest) (block_ends (suc at) rest) (chain lines (i ∷ outer) (suc at) rest (drop_next lines rest at (line.Do simple) e) ok)

-- what the first place says
chain_first : (lines : List Line) (k : Behind) (ends : List ℕ) → IsInside k → Chain lines k ends → behind (drop (suc (first_of ends)) lines) ≡ outside k
unfolding Chain
chain_first lines (Outside procedures) ends inside c = absurd inside
chain_first lines (Block block k) [] inside c = absurd c
chain_first lines (Block block k) (at ∷ ends) inside c = c.0
chain_first lines (First block other k) [] inside c = absurd c
chain_first lines (First block other k) (at ∷ ends) inside c = c.0
chain_first lines (Tried block x y handler k) [] inside c = absurd c
chain_first lines (Tried block x y handler k) (at ∷ ends) inside c = c.0

-- what is open behind lines
open_after : List OpenBlock → ℕ → List Line → List OpenBlock
open_after blocks zero lines = blocks
open_after blocks (suc n) [] = blocks
open_after blocks (suc n) (l ∷ lines) = open_after (opened_by blocks l) n lines

accepts-drop : (blocks : List OpenBlock) (n : ℕ) (lines : List Line) → n ≤ length lines → accepts blocks lines ≡ true → accepts (open_after blocks n lines) (drop n lines) ≡ true
unfolding open_after accepts
accepts-drop blocks zero lines within ok = ok
accepts-drop blocks (suc n) [] within ok = absurd (omega arith)
accepts-drop blocks (suc n) (l ∷ lines) within ok =
    accepts-drop (opened_by blocks l) n lines (omega arith) (and_parts (not (is_misplaced blocks l)) (accepts (opened_by blocks l) lines) ok).1

pub end_is_behind_block : EndIsBehindBlock
end_is_behind_block lines at placed within inside =
    chain_first lines (behind (drop at lines)) (block_ends at (drop at lines)) inside
    (chain lines (open_after [] at lines) at (drop at lines) refl (accepts-drop [] at lines within placed))

-- inside of a block there is a place at which it ends
pub record SomeEnds (ends : List ℕ) : Type 0 where
  pub first : ℕ
  pub more : List ℕ
  pub is : ends ≡ first ∷ more

chain_some : (lines : List Line) (k : Behind) (ends : List ℕ) → IsInside k → Chain lines k ends → SomeEnds ends
unfolding Chain
chain_some lines (Outside procedures) ends inside c = absurd inside
chain_some lines (Block block k) [] inside c = absurd c
chain_some lines (Block block k) (at ∷ ends) inside c = record { first = at; more = ends; is = refl }
chain_some lines (First block other k) [] inside c = absurd c
chain_some lines (First block other k) (at ∷ ends) inside c = record { first = at; more = ends; is = refl }
chain_some lines (Tried block x y handler k) [] inside c = absurd c
chain_some lines (Tried block x y handler k) (at ∷ ends) inside c = record { first = at; more = ends; is = refl }

pub some_ends : (lines : List Line) (at : ℕ) → accepts [] lines ≡ true → at ≤ length lines → IsInside (behind (drop at lines)) → SomeEnds (block_ends at (drop at lines))
some_ends lines at placed within inside =
    chain_some lines (behind (drop at lines)) (block_ends at (drop at lines)) inside
    (chain lines (open_after [] at lines) at (drop at lines) refl (accepts-drop [] at lines within placed))

-- the place for each line
pub ends_behind-get : (at : ℕ) (lines : List Line) (i : ℕ) → i < length lines → get_or (ends_behind at lines) i 0 ≡ first_of (block_ends (at + suc i) (drop (suc i) lines))
unfolding ends_behind
ends_behind-get at [] i within = absurd (omega arith)
ends_behind-get at (l ∷ lines) zero within = let same : suc at ≡ at + 1 = omega arith in ap (λ n. first_of (block_ends n lines)) same
ends_behind-get at (l ∷ lines) (suc i) within =
    let same : suc at + suc i ≡ at + suc (suc i) = omega arith in
    ends_behind-get (suc at) lines i (omega arith) ∙ ap (λ n. first_of (block_ends n (drop (suc i) lines))) same

drop_set : (at : ℕ) (table : List ℕ) (place : ℕ) → at < length table → drop at (set table at place) ≡ place ∷ drop (suc at) table
drop_set at [] place within = absurd (omega arith)
drop_set zero (x ∷ table) place within = refl
drop_set (suc at) (x ∷ table) place within = drop_set at table place (omega arith)

-- one line before
pub ends_step : (at : ℕ) (lines : List Line) (l : Line) (ends new : List ℕ) → at < length lines → l ≡ get_or lines at l → ends ≡ block_ends (at + 1) (drop (at + 1) lines)
    → new ≡ ends_before at l ends → new ≡ block_ends at (drop at lines)
unfolding block_ends
ends_step at lines l ends new within is e step =
    let here : drop at lines ≡ l ∷ drop (suc at) lines = drop-cons lines at l within ∙ ap (λ first. first ∷ drop (suc at) lines) (sym is) in
    let same : ends ≡ block_ends (suc at) (drop (suc at) lines) = rw add-one at e in
    step ∙ ap (ends_before at l) same ∙ sym (ap (block_ends at) here)

pub table_step : (at : ℕ) (lines : List Line) (l : Line) (table ends : List ℕ) → at < length lines → l ≡ get_or lines at l → length table ≡ length lines
    → ends ≡ block_ends (at + 1) (drop (at + 1) lines) → drop (at + 1) table ≡ ends_behind (at + 1) (drop (at + 1) lines)
    → drop at (set table at (first_of ends)) ≡ ends_behind at (drop at lines)
unfolding ends_behind
table_step at lines l table ends within is size e rest =
    let here : drop at lines ≡ l ∷ drop (suc at) lines = drop-cons lines at l within ∙ ap (λ first. first ∷ drop (suc at) lines) (sym is) in
    let same : ends ≡ block_ends (suc at) (drop (suc at) lines) = rw add-one at e in
    let behind_it : drop (suc at) table ≡ ends_behind (suc at) (drop (suc at) lines) = rw add-one at rest in
    drop_set at table (first_of ends) (omega arith) ∙ ap (λ t. first_of ends ∷ t) behind_it
    ∙ ap (λ n. first_of n ∷ ends_behind (suc at) (drop (suc at) lines)) same ∙ sym (ap (ends_behind at) here)

pub table_none : (table : List ℕ) (lines : List Line) → length table ≡ length lines → drop (length lines) table ≡ ends_behind (length lines) (drop (length lines) lines)
unfolding ends_behind
table_none table lines size =
    let gone : drop (length lines) lines ≡ [] = grind (arith, common_steps) in
    let empty : drop (length lines) table ≡ [] = grind (arith, common_steps) in
    rw (gone, empty) refl

pub ends_none : (lines : List Line) → (let none : List ℕ = [] in none ≡ block_ends (length lines) (drop (length lines) lines))
unfolding block_ends
ends_none lines = let gone : drop (length lines) lines ≡ [] = grind (arith, common_steps) in rw gone refl

pub length-ends_behind : (at : ℕ) (lines : List Line) → length (ends_behind at lines) ≡ length lines
unfolding ends_behind
length-ends_behind at [] = refl
length-ends_behind at (l ∷ lines) = ap suc (length-ends_behind (suc at) lines)

-- the place in the table of a script
pub end_in_table : (lines : List Line) (table : List ℕ) (at : ℕ) → table ≡ ends_behind 0 lines → at < length lines → get_or table at 0 ≡ end_of lines (at + 1)
end_in_table lines table at is within =
    let same : 0 + suc at ≡ at + 1 = omega arith in
    ap (λ t. get_or t at 0) is ∙ ends_behind-get 0 lines at within ∙ ap (λ n. first_of (block_ends n (drop (suc at) lines))) same ∙ ap (λ n. first_of (block_ends (at + 1) (drop n lines))) (sym (add-one at))

-- each of the places at which blocks end is one of the lines
AllBelow : ℕ → List ℕ → Type 0
AllBelow n [] = Unit {0}
AllBelow n (place ∷ places) = (place < n) × AllBelow n places

below_rest : (n : ℕ) (places : List ℕ) → AllBelow n places → AllBelow n (drop 1 places)
unfolding AllBelow
below_rest n [] below = tt {0}
below_rest n (place ∷ places) below = below.1

below_before : (n at : ℕ) (l : Line) (places : List ℕ) → at < n → AllBelow n places → AllBelow n (ends_before at l places)
unfolding AllBelow
below_before n at (line.Proc name parameters) places within below = below_rest n places below
below_before n at (line.If a) places within below = below_rest n places below
below_before n at line.Else places within below = (within, below_rest n places below)
below_before n at (line.While a) places within below = below_rest n places below
below_before n at line.Try places within below = below_rest n places below
below_before n at (line.Catch x y) places within below = (within, below_rest n places below)
below_before n at line.End places within below = (within, below)
below_before n at (line.Do simple) places within below = below

below_ends : (n at : ℕ) (lines : List Line) → at + length lines ≤ n → AllBelow n (block_ends at lines)
unfolding AllBelow block_ends
below_ends n at [] within = tt {0}
below_ends n at (l ∷ lines) within = below_before n at l (block_ends (suc at) lines) (omega arith) (below_ends n (suc at) lines (omega arith))

below_first : (n : ℕ) (places : List ℕ) → 0 < n → AllBelow n places → first_of places < n
unfolding AllBelow
below_first n [] some below = some
below_first n (place ∷ places) some below = below.0

pub end_within : (lines : List Line) (at : ℕ) → at < length lines → end_of lines (at + 1) < length lines
end_within lines at within =
    let rest : (at + 1) + length (drop (at + 1) lines) ≤ length lines = omega (arith, length-drop (at + 1) lines) in
    below_first (length lines) (block_ends (at + 1) (drop (at + 1) lines)) (omega arith) (below_ends (length lines) (at + 1) (drop (at + 1) lines) rest)
