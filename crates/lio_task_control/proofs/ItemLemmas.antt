-- What a procedure still has to do at a place, by what the line there says.
use Rattle.std.specs.Prelude.{slice_get, Option, Some, None}
use Rattle.std.proofs.Common.{◌≡◌, ℕ, zero, suc, ◌+◌, ◌≤◌, true, List, [], ◌∷◌, length, drop, refl, ap, sym, subst, ◌∙◌, add-one}
use Rattle.lio_syntax_lines.specs.declared.line.Line.{Line}
use Rattle.lio_syntax_lines.specs.declared.line.Operand.{Operand}
use Rattle.lio_syntax_lines.specs.declared.line.Simple.{Simple}
use Rattle.lio_syntax_lines.specs.declared.line.Line.TheVariants as line
use Rattle.lio_syntax.specs.Statements.{Statement, Statements, If, IfElse, While, Try, Nothing, Then}
use Rattle.lio_syntax.specs.Statements as statement
use Rattle.lio_syntax.specs.Behind.{Behind, Outside, Block, First, Tried, in_front, before_if, before_while, before_try, before_else, before_catch, before_proc, behind}
use Rattle.lio_syntax.specs.OpenBlocks.{accepts}
use Rattle.lio_syntax.specs.Closing.{ends_before, block_ends, first_of, end_of, outside, IsInside}
use Rattle.lio_syntax.specs.Places.{if_else, else_at, behind_else, block_of_else}
use Rattle.lio_syntax.proofs.GrammarLemmas.{Fits, accepted}
use Rattle.lio_syntax.proofs.ClosingLemmas.{some_ends}
use Rattle.lio_syntax.proofs.PlaceLemmas.{EndLine, end_line, Shape, here, get_within, drop_next, get_drop}
use Rattle.lio_syntax.specs.Items.{Item, Do, Mark, enter, rest_of}
use Rattle.lio_task_control.specs.Continuation.{block_of, block_at, innermost, from, marked, passed, outer_at, items_at}
use Rattle.lio_task_control.specs.Front.{entered, entered_other}
use Rattle.lio_task_control.proofs.BlockLemmas.{choice_at, front_block, behind_end, if_inside, while_inside, try_inside, block_at-do, block_at-while, block_at-if, block_at-try, block_at-catch}

-- behind a line
pub outer_next : (lines : List Line) (at : ℕ) (l : Line) → slice_get lines at ≡ Some l → outer_at lines (at + 1) ≡ passed (Some l) (items_at lines at) (outer_at lines at)
unfolding outer_at items_at
outer_next lines at l is =
    ap (outer_at lines) (add-one at) ∙ ap (λ (o : Option Line). passed o (from lines at (outer_at lines at)) (outer_at lines at)) is

-- where a block ends, the same blocks are open as in it
Stacks : List Line → List ℕ → List (List Item) → Type 0
Stacks lines [] outer = Unit {0}
Stacks lines (at ∷ ends) outer = (outer_at lines at ≡ outer) × Stacks lines ends (drop 1 outer)

stacks-drop : (lines : List Line) (ends : List ℕ) (outer : List (List Item)) → Stacks lines ends outer → Stacks lines (drop 1 ends) (drop 1 outer)
unfolding Stacks
stacks-drop lines [] outer s = tt {0}
stacks-drop lines (at ∷ ends) outer s = s.1

stacks-line : (lines : List Line) (at : ℕ) (l : Line) (items : List Item) (outer : List (List Item)) (ends : List ℕ) → outer_at lines at ≡ outer
    → Stacks lines ends (passed (Some l) items outer) → Stacks lines (ends_before at l ends) outer
unfolding Stacks
stacks-line lines at (line.Proc name parameters) items outer ends e s = stacks-drop lines ends ([] ∷ outer) s
stacks-line lines at (line.If a) items outer ends e s = stacks-drop lines ends (rest_of items ∷ outer) s
stacks-line lines at line.Else items outer ends e s = (e, stacks-drop lines ends outer s)
stacks-line lines at (line.While a) items outer ends e s = stacks-drop lines ends (items ∷ outer) s
stacks-line lines at line.Try items outer ends e s = stacks-drop lines ends (marked items ∷ outer) s
stacks-line lines at (line.Catch x y) items outer ends e s = (e, stacks-drop lines ends (rest_of items ∷ drop 1 outer) s)
stacks-line lines at line.End items outer ends e s = (e, s)
stacks-line lines at (line.Do simple) items outer ends e s = s

stacks : (lines : List Line) (at : ℕ) (rest : List Line) → drop at lines ≡ rest → Stacks lines (block_ends at rest) (outer_at lines at)
unfolding Stacks block_ends
stacks lines at [] e = tt {0}
stacks lines at (l ∷ rest) e =
    let outer : outer_at lines (suc at) ≡ passed (Some l) (items_at lines at) (outer_at lines at) = sym (ap (outer_at lines) (add-one at)) ∙ outer_next lines at l (get_drop lines rest at l e) in
    stacks-line lines at l (items_at lines at) (outer_at lines at) (block_ends (suc at) rest) refl
    (subst (Stacks lines (block_ends (suc at) rest)) outer (stacks lines (suc at) rest (drop_next lines rest at l e)))

first-stack : (lines : List Line) (ends : List ℕ) (outer : List (List Item)) (first : ℕ) (more : List ℕ) → ends ≡ first ∷ more → Stacks lines ends outer → outer_at lines (first_of ends) ≡ outer
unfolding Stacks
first-stack lines [] outer first more is s = let wrong : [] ≡ first ∷ more = is in absurd (cc)
first-stack lines (at ∷ ends) outer first more is s = s.0

pub end_outer : (lines : List Line) (at : ℕ) → accepts [] lines ≡ true → at ≤ length lines → IsInside (behind (drop at lines)) → outer_at lines (end_of lines at) ≡ outer_at lines at
end_outer lines at placed within inside =
    let some = some_ends lines at placed within inside in
    first-stack lines (block_ends at (drop at lines)) (outer_at lines at) some.first some.more some.is (stacks lines at (drop at lines) refl)

-- behind the block of a `try` comes its mark, and outside of procedures nothing
pub Marks : Behind → List (List Item) → Type 0
Marks (Outside procedures) outer = outer ≡ []
Marks (Block block k) outer = Marks k (drop 1 outer)
Marks (First block other k) outer = Marks k (drop 1 outer)
Marks (Tried block x y handler k) outer = (innermost outer ≡ Mark x y handler ∷ enter (block_of k) (innermost (drop 1 outer))) × Marks k (drop 1 outer)

front-marks : (s : Statement) (k : Behind) (outer : List (List Item)) → Marks (in_front s k) outer → Marks k outer
unfolding Marks
front-marks s (Outside procedures) outer h = h
front-marks s (Block block k) outer h = h
front-marks s (First block other k) outer h = h
front-marks s (Tried block x y handler k) outer h = h

-- what stands before a line
before : Line → Behind → Behind
before (line.Proc name parameters) k = before_proc name parameters k
before (line.If a) k = before_if a k
before line.Else k = before_else k
before (line.While a) k = before_while a k
before line.Try k = before_try k
before (line.Catch x y) k = before_catch x y k
before line.End k = Block Nothing k
before (line.Do simple) k = in_front (statement.Do simple) k

behind-before : (l : Line) (lines : List Line) → behind (l ∷ lines) ≡ before l (behind lines)
unfolding behind before
behind-before (line.Proc name parameters) lines = refl
behind-before (line.If a) lines = refl
behind-before line.Else lines = refl
behind-before (line.While a) lines = refl
behind-before line.Try lines = refl
behind-before (line.Catch x y) lines = refl
behind-before line.End lines = refl
behind-before (line.Do simple) lines = refl

marks-line : (l : Line) (k : Behind) (items : List Item) (outer : List (List Item)) → Shape l k → items ≡ enter (block_of (before l k)) (innermost outer) → Marks (before l k) outer
    → Marks k (passed (Some l) items outer)
unfolding Shape Marks before enter
marks-line (line.Proc name parameters) (Outside procedures) items outer shape e h = absurd shape
marks-line (line.Proc name parameters) (Block body (Outside procedures)) items outer shape e h = h
marks-line (line.Proc name parameters) (Block body (Block block k)) items outer shape e h = absurd shape
marks-line (line.Proc name parameters) (Block body (First block other k)) items outer shape e h = absurd shape
marks-line (line.Proc name parameters) (Block body (Tried block x y handler k)) items outer shape e h = absurd shape
marks-line (line.Proc name parameters) (First block other k) items outer shape e h = absurd shape
marks-line (line.Proc name parameters) (Tried block x y handler k) items outer shape e h = absurd shape
marks-line (line.If a) (Outside procedures) items outer shape e h = absurd shape
marks-line (line.If a) (Block block k) items outer shape e h = front-marks (If a block) k outer h
marks-line (line.If a) (First block other k) items outer shape e h = front-marks (IfElse a block other) k outer h
marks-line (line.If a) (Tried block x y handler k) items outer shape e h = absurd shape
marks-line line.Else (Outside procedures) items outer shape e h = absurd shape
marks-line line.Else (Block block k) items outer shape e h = h
marks-line line.Else (First block other k) items outer shape e h = absurd shape
marks-line line.Else (Tried block x y handler k) items outer shape e h = absurd shape
marks-line (line.While a) (Outside procedures) items outer shape e h = absurd shape
marks-line (line.While a) (Block block k) items outer shape e h = front-marks (While a block) k outer h
marks-line (line.While a) (First block other k) items outer shape e h = absurd shape
marks-line (line.While a) (Tried block x y handler k) items outer shape e h = absurd shape
marks-line line.Try (Outside procedures) items outer shape e h = absurd shape
marks-line line.Try (Block block k) items outer shape e h = absurd shape
marks-line line.Try (First block other k) items outer shape e h = absurd shape
marks-line line.Try (Tried block x y handler k) items outer shape e h = (
  ap marked (e ∙ ap (λ (b : Statements). enter b (innermost outer)) (front_block (Try block x y handler) k shape)),
  front-marks (Try block x y handler) k outer h,
)
marks-line (line.Catch x y) (Outside procedures) items outer shape e h = absurd shape
marks-line (line.Catch x y) (Block block k) items outer shape e h = h.1
marks-line (line.Catch x y) (First block other k) items outer shape e h = absurd shape
marks-line (line.Catch x y) (Tried block v w handler k) items outer shape e h = absurd shape
marks-line line.End k items outer shape e h = h
marks-line (line.Do simple) k items outer shape e h = front-marks (statement.Do simple) k outer h

marks-outside : (k : Behind) → Fits [] k → Marks k []
unfolding Fits Marks
marks-outside (Outside procedures) fits = refl
marks-outside (Block block k) fits = absurd fits
marks-outside (First block other k) fits = absurd fits
marks-outside (Tried block x y handler k) fits = absurd fits

drop_past : (lines : List Line) (at : ℕ) → slice_get lines at ≡ None → drop (suc at) lines ≡ []
drop_past [] at e = refl
drop_past (x ∷ lines) zero e = let wrong : Some x ≡ None = e in absurd (cc)
drop_past (x ∷ lines) (suc at) e = drop_past lines at e

marks-next : (lines : List Line) (at : ℕ) (o : Option Line) → accepts [] lines ≡ true → slice_get lines at ≡ o → Marks (behind (drop at lines)) (outer_at lines at)
    → Marks (behind (drop (suc at) lines)) (outer_at lines (suc at))
unfolding outer_at Fits behind block_at items_at enter
marks-next lines at None placed is h =
    let none : Marks (behind []) [] = marks-outside (behind []) (tt {0}) in
    subst (λ (ls : List Line). Marks (behind ls) (outer_at lines (suc at))) (sym (drop_past lines at is))
    (subst (λ (outer : List (List Item)). Marks (behind []) outer) (sym (ap (λ (o : Option Line). passed o (from lines at (outer_at lines at)) (outer_at lines at)) is)) none)
marks-next lines at (Some l) placed is h =
    let found = here lines at l placed is in
    let k = behind (drop (at + 1) lines) in
    let stands : behind (drop at lines) ≡ before l k = ap behind found.same ∙ behind-before l (drop (at + 1) lines) in
    let items = from lines at (outer_at lines at) in
    let last : Marks k (passed (Some l) items (outer_at lines at)) =
    marks-line l k items (outer_at lines at) found.shape (ap (λ (b : Behind). enter (block_of b) (innermost (outer_at lines at))) stands) (subst (λ (b : Behind). Marks b (outer_at lines at)) stands h) in
    subst (λ (n : ℕ). Marks (behind (drop n lines)) (outer_at lines n)) (add-one at)
    (subst (Marks k) (sym (outer_next lines at l is)) last)

pub marks : (lines : List Line) (at : ℕ) → accepts [] lines ≡ true → Marks (behind (drop at lines)) (outer_at lines at)
unfolding outer_at
marks lines zero placed = marks-outside (behind lines) (accepted [] lines placed).fits
marks lines (suc at) placed = marks-next lines at (slice_get lines at) placed refl (marks lines at placed)

-- outside of procedures nothing is left
pub none_marks : (outer : List (List Item)) → Marks (behind []) outer → outer ≡ []
unfolding Marks behind
none_marks outer h = h

pub proc_marks : (name : List ℕ) (parameters : List (List ℕ)) (k : Behind) (outer : List (List Item)) → Shape (line.Proc name parameters) k → Marks (before_proc name parameters k) outer → outer ≡ []
unfolding Shape Marks
proc_marks name parameters (Outside procedures) outer shape h = absurd shape
proc_marks name parameters (Block body (Outside procedures)) outer shape h = h
proc_marks name parameters (Block body (Block block k)) outer shape h = absurd shape
proc_marks name parameters (Block body (First block other k)) outer shape h = absurd shape
proc_marks name parameters (Block body (Tried block x y handler k)) outer shape h = absurd shape
proc_marks name parameters (First block other k) outer shape h = absurd shape
proc_marks name parameters (Tried block x y handler k) outer shape h = absurd shape

-- a statement at a place, and the place behind it
pub record StatementAt (lines : List Line) (at next : ℕ) (first : Statement) : Type 0 where
  pub outer : outer_at lines next ≡ outer_at lines at
  pub items : items_at lines at ≡ Do first ∷ items_at lines next

statement_at : (lines : List Line) (at next : ℕ) (first : Statement) → block_at lines at ≡ Then first (block_at lines next) → outer_at lines next ≡ outer_at lines at → StatementAt lines at next first
unfolding items_at enter
statement_at lines at next first block outer = record {
  outer = outer;
  items = ap (λ (b : Statements). enter b (innermost (outer_at lines at))) block ∙ ap (λ (o : List (List Item)). Do first ∷ enter (block_at lines next) (innermost o)) (sym outer);
}

pub do_at : (lines : List Line) (at : ℕ) (simple : Simple) → accepts [] lines ≡ true → slice_get lines at ≡ Some (line.Do simple) → StatementAt lines at (at + 1) (statement.Do simple)
do_at lines at simple placed is = statement_at lines at (at + 1) (statement.Do simple) (block_at-do lines at simple placed is) (outer_next lines at (line.Do simple) is)

-- behind the `end` of a block
closed : (lines : List Line) (at : ℕ) (outer : List (List Item)) → slice_get lines at ≡ Some line.End → outer_at lines at ≡ outer → outer_at lines (at + 1) ≡ drop 1 outer
closed lines at outer is same = outer_next lines at line.End is ∙ ap (drop 1) same

-- what comes at the block of a statement
block_items : (lines : List Line) (at : ℕ) (l : Line) (items : List Item) (outer : List (List Item)) → slice_get lines at ≡ Some l → passed (Some l) (items_at lines at) (outer_at lines at) ≡ items ∷ outer
    → items_at lines (at + 1) ≡ enter (block_at lines (at + 1)) items
unfolding items_at
block_items lines at l items outer is opens = ap (λ (o : List (List Item)). enter (block_at lines (at + 1)) (innermost o)) (outer_next lines at l is ∙ opens)

while_ends : (lines : List Line) (a : Operand) (k : Behind) (at : ℕ) → Shape (line.While a) k → EndLine lines k at → slice_get lines at ≡ Some line.End
unfolding Shape EndLine
while_ends lines a (Outside procedures) at shape e = absurd shape
while_ends lines a (Block block k) at shape e = e
while_ends lines a (First block other k) at shape e = absurd shape
while_ends lines a (Tried block x y handler k) at shape e = absurd shape

pub while_at : (lines : List Line) (at : ℕ) (a : Operand) → accepts [] lines ≡ true → slice_get lines at ≡ Some (line.While a)
    → StatementAt lines at (end_of lines (at + 1) + 1) (While a (block_at lines (at + 1)))
while_at lines at a placed is =
    let h = here lines at (line.While a) placed is in
    let k = behind (drop (at + 1) lines) in
    let e = end_of lines (at + 1) in
    let ends = while_ends lines a k e h.shape (end_line lines (at + 1) placed h.within) in
    let same = end_outer lines (at + 1) placed h.within (while_inside a k h.shape) ∙ outer_next lines at (line.While a) is in
    statement_at lines at (e + 1) (While a (block_at lines (at + 1))) (block_at-while lines at a placed is) (closed lines e (items_at lines at ∷ outer_at lines at) ends same)

pub while_entered : (lines : List Line) (at : ℕ) (a : Operand) → accepts [] lines ≡ true → slice_get lines at ≡ Some (line.While a) → items_at lines (at + 1) ≡ entered (items_at lines at)
while_entered lines at a placed is =
    let w = while_at lines at a placed is in
    block_items lines at (line.While a) (items_at lines at) (outer_at lines at) is refl
    ∙ ap (enter (block_at lines (at + 1))) w.items ∙ sym (ap entered w.items)

-- a choice
if_outer : (lines : List Line) (at : ℕ) (a : Operand) (k : Behind) (e : ℕ) (items : List Item) → accepts [] lines ≡ true → e ≡ end_of lines (at + 1)
    → Shape (line.If a) k → EndLine lines k e → behind (drop (e + 1) lines) ≡ outside k → outer_at lines e ≡ items ∷ outer_at lines at
    → outer_at lines (behind_else lines at (if_else e (slice_get lines e))) ≡ outer_at lines at
unfolding Shape EndLine
if_outer lines at a (Outside procedures) e items placed is shape ends more same = absurd shape
if_outer lines at a (Block block k) e items placed is shape ends more same =
    ap (λ (l : Option Line). outer_at lines (behind_else lines at (if_else e l))) ends
    ∙ ap (λ (n : ℕ). outer_at lines (n + 1)) (sym is) ∙ closed lines e (items ∷ outer_at lines at) ends same
if_outer lines at a (First block other k) e items placed is shape ends more same =
    let inside = subst IsInside (sym more) (tt {0}) in
    let within = get_within lines e line.Else ends in
    let last : slice_get lines (end_of lines (e + 1)) ≡ Some line.End = subst (λ (b : Behind). EndLine lines b (end_of lines (e + 1))) more (end_line lines (e + 1) placed within) in
    let other_is = end_outer lines (e + 1) placed within inside ∙ outer_next lines e line.Else ends ∙ same in
    ap (λ (l : Option Line). outer_at lines (behind_else lines at (if_else e l))) ends
    ∙ closed lines (end_of lines (e + 1)) (items ∷ outer_at lines at) last other_is
if_outer lines at a (Tried block x y handler k) e items placed is shape ends more same = absurd shape

if_end : (lines : List Line) (at : ℕ) (a : Operand) → accepts [] lines ≡ true → slice_get lines at ≡ Some (line.If a) → outer_at lines (end_of lines (at + 1)) ≡ rest_of (items_at lines at) ∷ outer_at lines at
if_end lines at a placed is =
    let h = here lines at (line.If a) placed is in
    end_outer lines (at + 1) placed h.within (if_inside a (behind (drop (at + 1) lines)) h.shape) ∙ outer_next lines at (line.If a) is

pub if_at : (lines : List Line) (at : ℕ) (a : Operand) → accepts [] lines ≡ true → slice_get lines at ≡ Some (line.If a)
    → StatementAt lines at (behind_else lines at (else_at lines at)) (choice_at lines a (at + 1) (block_of_else (else_at lines at)))
unfolding else_at
if_at lines at a placed is =
    let h = here lines at (line.If a) placed is in
    let k = behind (drop (at + 1) lines) in
    let e = end_of lines (at + 1) in
    statement_at lines at (behind_else lines at (else_at lines at)) (choice_at lines a (at + 1) (block_of_else (else_at lines at))) (block_at-if lines at a placed is)
    (if_outer lines at a k e (rest_of (items_at lines at)) placed refl h.shape (end_line lines (at + 1) placed h.within) (behind_end lines (at + 1) placed h.within (if_inside a k h.shape)) (if_end lines at a placed is))

choice_entered : (lines : List Line) (a : Operand) (block : ℕ) (other : Option ℕ) (items : List Item) → entered (Do (choice_at lines a block other) ∷ items) ≡ enter (block_at lines block) items
choice_entered lines a block None items = refl
choice_entered lines a block (Some other) items = refl

pub if_entered : (lines : List Line) (at : ℕ) (a : Operand) → accepts [] lines ≡ true → slice_get lines at ≡ Some (line.If a) → items_at lines (at + 1) ≡ entered (items_at lines at)
if_entered lines at a placed is =
    let i = if_at lines at a placed is in
    let next = items_at lines (behind_else lines at (else_at lines at)) in
    block_items lines at (line.If a) (rest_of (items_at lines at)) (outer_at lines at) is refl
    ∙ ap (λ (items : List Item). enter (block_at lines (at + 1)) (rest_of items)) i.items
    ∙ sym (ap entered i.items ∙ choice_entered lines a (at + 1) (block_of_else (else_at lines at)) next)

else_says : (o : Option Line) (e place : ℕ) → if_else e o ≡ Some place → (e ≡ place) × (o ≡ Some line.Else)
else_says None e place is = absurd (cc)
else_says (Some (line.Proc name parameters)) e place is = absurd (cc)
else_says (Some (line.If a)) e place is = absurd (cc)
else_says (Some line.Else) e place is = (cc, refl)
else_says (Some (line.While a)) e place is = absurd (cc)
else_says (Some line.Try) e place is = absurd (cc)
else_says (Some (line.Catch x y)) e place is = absurd (cc)
else_says (Some line.End) e place is = absurd (cc)
else_says (Some (line.Do simple)) e place is = absurd (cc)

-- the block of an `else`
pub other_entered : (lines : List Line) (at place : ℕ) (a : Operand) → accepts [] lines ≡ true → slice_get lines at ≡ Some (line.If a) → Some place ≡ else_at lines at
    → items_at lines (place + 1) ≡ entered_other (items_at lines at)
unfolding else_at items_at
other_entered lines at place a placed is found =
    let e = end_of lines (at + 1) in
    let says = else_says (slice_get lines e) e place (sym found) in
    let i = if_at lines at a placed is in
    let next = items_at lines (behind_else lines at (else_at lines at)) in
    let outer : outer_at lines (place + 1) ≡ rest_of (items_at lines at) ∷ outer_at lines at =
    ap (λ (n : ℕ). outer_at lines (n + 1)) (sym says.0) ∙ outer_next lines e line.Else says.1 ∙ if_end lines at a placed is in
    let chosen : items_at lines at ≡ Do (IfElse a (block_at lines (at + 1)) (block_at lines (place + 1))) ∷ next = i.items ∙ ap (λ (o : Option ℕ). Do (choice_at lines a (at + 1) (block_of_else o)) ∷ next) (sym found) in
    ap (λ (o : List (List Item)). enter (block_at lines (place + 1)) (innermost o)) outer
    ∙ ap (λ (items : List Item). enter (block_at lines (place + 1)) (rest_of items)) chosen ∙ sym (ap entered_other chosen)

pub none_entered : (lines : List Line) (at : ℕ) (a : Operand) → accepts [] lines ≡ true → slice_get lines at ≡ Some (line.If a) → None ≡ else_at lines at → rest_of (items_at lines at) ≡ entered_other (items_at lines at)
none_entered lines at a placed is none =
    let i = if_at lines at a placed is in
    let next = items_at lines (behind_else lines at (else_at lines at)) in
    let chosen : items_at lines at ≡ Do (If a (block_at lines (at + 1))) ∷ next = i.items ∙ ap (λ (o : Option ℕ). Do (choice_at lines a (at + 1) (block_of_else o)) ∷ next) (sym none) in
    ap rest_of chosen ∙ sym (ap entered_other chosen)

-- behind a `catch`
catch_inside : (x y : List ℕ) (k : Behind) → Shape (line.Catch x y) k → IsInside k
unfolding Shape
catch_inside x y (Outside procedures) shape = absurd shape
catch_inside x y (Block block k) shape = tt {0}
catch_inside x y (First block other k) shape = absurd shape
catch_inside x y (Tried block v w handler k) shape = absurd shape

catch_ends : (lines : List Line) (x y : List ℕ) (k : Behind) (at : ℕ) → Shape (line.Catch x y) k → EndLine lines k at → slice_get lines at ≡ Some line.End
unfolding Shape EndLine
catch_ends lines x y (Outside procedures) at shape e = absurd shape
catch_ends lines x y (Block block k) at shape e = e
catch_ends lines x y (First block other k) at shape e = absurd shape
catch_ends lines x y (Tried block v w handler k) at shape e = absurd shape

catch_marks : (x y : List ℕ) (k : Behind) (outer : List (List Item)) → Shape (line.Catch x y) k → Marks (before_catch x y k) outer
    → innermost outer ≡ Mark x y (block_of k) ∷ enter (block_of (outside k)) (innermost (drop 1 outer))
unfolding Shape Marks
catch_marks x y (Outside procedures) outer shape h = absurd shape
catch_marks x y (Block block k) outer shape h = h.0
catch_marks x y (First block other k) outer shape h = absurd shape
catch_marks x y (Tried block v w handler k) outer shape h = absurd shape

-- a mark at the place of its `catch`, and the place behind its handler
pub record MarkAt (lines : List Line) (at next : ℕ) (code payload : List ℕ) : Type 0 where
  pub outer : outer_at lines next ≡ drop 1 (outer_at lines at)
  pub items : items_at lines at ≡ Mark code payload (block_at lines (at + 1)) ∷ items_at lines next
  pub block : items_at lines (at + 1) ≡ enter (block_at lines (at + 1)) (items_at lines next)
  pub innermost_is : items_at lines at ≡ innermost (outer_at lines at)

pub ending : (lines : List Line) (at : ℕ) → block_at lines at ≡ Nothing → items_at lines at ≡ innermost (outer_at lines at)
unfolding items_at enter
ending lines at none = ap (λ (b : Statements). enter b (innermost (outer_at lines at))) none

pub catch_at : (lines : List Line) (at : ℕ) (x y : List ℕ) → accepts [] lines ≡ true → slice_get lines at ≡ Some (line.Catch x y) → MarkAt lines at (end_of lines (at + 1) + 1) x y
unfolding behind block_at items_at
catch_at lines at x y placed is =
    let h = here lines at (line.Catch x y) placed is in
    let k = behind (drop (at + 1) lines) in
    let e = end_of lines (at + 1) in
    let inside = catch_inside x y k h.shape in
    let ends = catch_ends lines x y k e h.shape (end_line lines (at + 1) placed h.within) in
    let behind_it = outer_next lines at (line.Catch x y) is in
    let outer : outer_at lines (e + 1) ≡ drop 1 (outer_at lines at) =
    closed lines e (rest_of (items_at lines at) ∷ drop 1 (outer_at lines at)) ends (end_outer lines (at + 1) placed h.within inside ∙ behind_it) in
    let first = ending lines at (block_at-catch lines at x y placed is) in
    let mark = catch_marks x y k (outer_at lines at) h.shape (subst (λ (ls : List Line). Marks (behind ls) (outer_at lines at)) h.same (marks lines at placed)) in
    let rest : enter (block_of (outside k)) (innermost (drop 1 (outer_at lines at))) ≡ items_at lines (e + 1) =
    ap (λ (b : Behind). enter (block_of b) (innermost (drop 1 (outer_at lines at)))) (sym (behind_end lines (at + 1) placed h.within inside))
    ∙ ap (λ (o : List (List Item)). enter (block_at lines (e + 1)) (innermost o)) (sym outer) in
    let items : items_at lines at ≡ Mark x y (block_at lines (at + 1)) ∷ items_at lines (e + 1) = first ∙ mark ∙ ap (λ (is : List Item). Mark x y (block_of k) ∷ is) rest in
    record {
      outer = outer;
      items = items;
      block = ap (λ (o : List (List Item)). enter (block_at lines (at + 1)) (innermost o)) behind_it ∙ ap (λ (is : List Item). enter (block_at lines (at + 1)) (rest_of is)) items;
      innermost_is = first;
    }

-- a block whose faults are caught
pub record TriedAt (lines : List Line) (at : ℕ) : Type 0 where
  pub code : List ℕ
  pub payload : List ℕ
  pub says : slice_get lines (end_of lines (at + 1)) ≡ Some (line.Catch code payload)
  pub statement : StatementAt lines at (end_of lines (end_of lines (at + 1) + 1) + 1) (Try (block_at lines (at + 1)) code payload (block_at lines (end_of lines (at + 1) + 1)))
  pub catch_is : outer_at lines (end_of lines (at + 1)) ≡ marked (items_at lines at) ∷ outer_at lines at

pub try_at : (lines : List Line) (at : ℕ) → accepts [] lines ≡ true → slice_get lines at ≡ Some line.Try → TriedAt lines at
try_at lines at placed is =
    let h = here lines at line.Try placed is in
    let t = block_at-try lines at placed is in
    let c = end_of lines (at + 1) in
    let e = end_of lines (c + 1) in
    let caught = end_outer lines (at + 1) placed h.within (try_inside (behind (drop (at + 1) lines)) h.shape) ∙ outer_next lines at line.Try is in
    record {
      code = t.code;
      payload = t.payload;
      says = t.says;
      statement = statement_at lines at (e + 1) (Try (block_at lines (at + 1)) t.code t.payload (block_at lines (c + 1))) t.same ((catch_at lines c t.code t.payload placed t.says).outer ∙ ap (drop 1) caught);
      catch_is = caught;
    }

pub try_entered : (lines : List Line) (at : ℕ) → accepts [] lines ≡ true → slice_get lines at ≡ Some line.Try → items_at lines (at + 1) ≡ entered (items_at lines at)
try_entered lines at placed is =
    let t = try_at lines at placed is in
    block_items lines at line.Try (marked (items_at lines at)) (outer_at lines at) is refl
    ∙ ap (λ (items : List Item). enter (block_at lines (at + 1)) (marked items)) t.statement.items ∙ sym (ap entered t.statement.items)
