-- Which statements stand at a place in lines, by what the line there says.
use Rattle.std.specs.Prelude.{slice_get, Option, Some, None}
use Rattle.std.proofs.Common.{◌≡◌, ℕ, zero, suc, ◌+◌, ◌≤◌, true, List, [], ◌∷◌, length, drop, refl, ap, sym, subst, ◌∙◌, add-one}
use Rattle.lio_syntax_lines.specs.declared.line.Line.{Line}
use Rattle.lio_syntax_lines.specs.declared.line.Operand.{Operand}
use Rattle.lio_syntax_lines.specs.declared.line.Simple.{Simple}
use Rattle.lio_syntax_lines.specs.declared.line.Line.TheVariants as line
use Rattle.lio_syntax.specs.Statements.{Statement, Statements, Do, If, IfElse, While, Try, Nothing, Then}
use Rattle.lio_syntax.specs.Behind.{Behind, Outside, Block, First, Tried, in_front, before_if, before_while, before_try, before_else, before_catch, before_proc, behind}
use Rattle.lio_syntax.specs.OpenBlocks.{accepts}
use Rattle.lio_syntax.specs.Closing.{end_of, outside, IsInside}
use Rattle.lio_syntax.proofs.ClosingLemmas.{end_is_behind_block}
use Rattle.lio_syntax.proofs.PlaceLemmas.{EndLine, end_line, Shape, here, get_within}
use Rattle.lio_task_control.specs.Continuation.{block_of, block_at}
use Rattle.lio_syntax.specs.Places.{if_else, else_at, behind_else, block_of_else}

-- a statement in front
pub front_block : (statement : Statement) (k : Behind) → IsInside k → block_of (in_front statement k) ≡ Then statement (block_of k)
front_block statement (Outside procedures) inside = absurd inside
front_block statement (Block block k) inside = refl
front_block statement (First block other k) inside = refl
front_block statement (Tried block x y handler k) inside = refl

-- behind the end of the innermost block
pub behind_end : (lines : List Line) (at : ℕ) → accepts [] lines ≡ true → at ≤ length lines → IsInside (behind (drop at lines))
    → behind (drop (end_of lines at + 1) lines) ≡ outside (behind (drop at lines))
behind_end lines at placed within inside =
    ap (λ (n : ℕ). behind (drop n lines)) (add-one (end_of lines at)) ∙ end_is_behind_block lines at placed within inside

-- a statement that opens no block
pub block_at-do : (lines : List Line) (at : ℕ) (simple : Simple) → accepts [] lines ≡ true → slice_get lines at ≡ Some (line.Do simple)
    → block_at lines at ≡ Then (Do simple) (block_at lines (at + 1))
unfolding block_at behind Shape
block_at-do lines at simple placed is =
    let h = here lines at (line.Do simple) placed is in
    ap (λ (ls : List Line). block_of (behind ls)) h.same ∙ front_block (Do simple) (behind (drop (at + 1) lines)) h.shape

-- a loop
pub while_inside : (a : Operand) (k : Behind) → Shape (line.While a) k → IsInside k
unfolding Shape
while_inside a (Outside procedures) shape = absurd shape
while_inside a (Block block k) shape = tt {0}
while_inside a (First block other k) shape = absurd shape
while_inside a (Tried block x y handler k) shape = absurd shape

while_case : (a : Operand) (k : Behind) → Shape (line.While a) k → block_of (before_while a k) ≡ Then (While a (block_of k)) (block_of (outside k))
unfolding Shape
while_case a (Outside procedures) shape = absurd shape
while_case a (Block block k) shape = front_block (While a block) k shape
while_case a (First block other k) shape = absurd shape
while_case a (Tried block x y handler k) shape = absurd shape

pub block_at-while : (lines : List Line) (at : ℕ) (a : Operand) → accepts [] lines ≡ true → slice_get lines at ≡ Some (line.While a)
    → block_at lines at ≡ Then (While a (block_at lines (at + 1))) (block_at lines (end_of lines (at + 1) + 1))
unfolding block_at behind
block_at-while lines at a placed is =
    let h = here lines at (line.While a) placed is in
    let k = behind (drop (at + 1) lines) in
    ap (λ (ls : List Line). block_of (behind ls)) h.same ∙ while_case a k h.shape
    ∙ ap (λ (b : Behind). Then (While a (block_of k)) (block_of b)) (sym (behind_end lines (at + 1) placed h.within (while_inside a k h.shape)))

-- the `if` of an operand, with a block and, where there is one, the block of its `else`
abbrev pub choice_at : List Line → Operand → ℕ → Option ℕ → Statement
choice_at lines condition block None = If condition (block_at lines block)
choice_at lines condition block (Some other) = IfElse condition (block_at lines block) (block_at lines other)

-- a choice
pub if_inside : (a : Operand) (k : Behind) → Shape (line.If a) k → IsInside k
unfolding Shape
if_inside a (Outside procedures) shape = absurd shape
if_inside a (Block block k) shape = tt {0}
if_inside a (First block other k) shape = tt {0}
if_inside a (Tried block x y handler k) shape = absurd shape

if_case : (lines : List Line) (at : ℕ) (a : Operand) (k : Behind) (e : ℕ) → accepts [] lines ≡ true → e ≡ end_of lines (at + 1)
    → Shape (line.If a) k → EndLine lines k e → behind (drop (e + 1) lines) ≡ outside k → block_at lines (at + 1) ≡ block_of k
    → block_of (before_if a k) ≡ Then (choice_at lines a (at + 1) (block_of_else (if_else e (slice_get lines e)))) (block_at lines (behind_else lines at (if_else e (slice_get lines e))))
unfolding Shape EndLine block_at
if_case lines at a (Outside procedures) e placed is shape ends more same = absurd shape
if_case lines at a (Block block k) e placed is shape ends more same =
    front_block (If a block) k shape
    ∙ ap (λ (b : Statements). Then (If a b) (block_of k)) (sym same)
    ∙ ap (λ (b : Behind). Then (If a (block_at lines (at + 1))) (block_of b)) (sym more)
    ∙ ap (λ (n : ℕ). Then (If a (block_at lines (at + 1))) (block_at lines (n + 1))) is
    ∙ ap (λ (l : Option Line). Then (choice_at lines a (at + 1) (block_of_else (if_else e l))) (block_at lines (behind_else lines at (if_else e l)))) (sym ends)
if_case lines at a (First block other k) e placed is shape ends more same =
    let inside = subst IsInside (sym more) (tt {0}) in
    let last : behind (drop (end_of lines (e + 1) + 1) lines) ≡ k = behind_end lines (e + 1) placed (get_within lines e line.Else ends) inside ∙ ap outside more in
    front_block (IfElse a block other) k shape
    ∙ ap (λ (b : Statements). Then (IfElse a b other) (block_of k)) (sym same)
    ∙ ap (λ (b : Behind). Then (IfElse a (block_at lines (at + 1)) (block_of b)) (block_of k)) (sym more)
    ∙ ap (λ (b : Behind). Then (IfElse a (block_at lines (at + 1)) (block_at lines (e + 1))) (block_of b)) (sym last)
    ∙ ap (λ (l : Option Line). Then (choice_at lines a (at + 1) (block_of_else (if_else e l))) (block_at lines (behind_else lines at (if_else e l)))) (sym ends)
if_case lines at a (Tried block x y handler k) e placed is shape ends more same = absurd shape

pub block_at-if : (lines : List Line) (at : ℕ) (a : Operand) → accepts [] lines ≡ true → slice_get lines at ≡ Some (line.If a)
    → block_at lines at ≡ Then (choice_at lines a (at + 1) (block_of_else (else_at lines at))) (block_at lines (behind_else lines at (else_at lines at)))
unfolding block_at behind else_at
block_at-if lines at a placed is =
    let h = here lines at (line.If a) placed is in
    let k = behind (drop (at + 1) lines) in
    ap (λ (ls : List Line). block_of (behind ls)) h.same
    ∙ if_case lines at a k (end_of lines (at + 1)) placed refl h.shape (end_line lines (at + 1) placed h.within) (behind_end lines (at + 1) placed h.within (if_inside a k h.shape)) refl

-- a block whose faults are caught: the names of the handler, and the statements from the `try` on
pub record TryAt (lines : List Line) (at catch : ℕ) (statements : Statements) : Type 0 where
  pub code : List ℕ
  pub payload : List ℕ
  pub says : slice_get lines catch ≡ Some (line.Catch code payload)
  pub same : statements ≡ Then (Try (block_at lines (at + 1)) code payload (block_at lines (catch + 1))) (block_at lines (end_of lines (catch + 1) + 1))

pub try_inside : (k : Behind) → Shape line.Try k → IsInside k
unfolding Shape
try_inside (Outside procedures) shape = absurd shape
try_inside (Block block k) shape = absurd shape
try_inside (First block other k) shape = absurd shape
try_inside (Tried block x y handler k) shape = tt {0}

try_case : (lines : List Line) (at : ℕ) (k : Behind) (e : ℕ) → accepts [] lines ≡ true
    → Shape line.Try k → EndLine lines k e → behind (drop (e + 1) lines) ≡ outside k → block_at lines (at + 1) ≡ block_of k
    → TryAt lines at e (block_of (before_try k))
unfolding Shape EndLine block_at
try_case lines at (Outside procedures) e placed shape ends more same = absurd shape
try_case lines at (Block block k) e placed shape ends more same = absurd shape
try_case lines at (First block other k) e placed shape ends more same = absurd shape
try_case lines at (Tried block x y handler k) e placed shape ends more same =
    let inside = subst IsInside (sym more) (tt {0}) in
    let last : behind (drop (end_of lines (e + 1) + 1) lines) ≡ k = behind_end lines (e + 1) placed (get_within lines e (line.Catch x y) ends) inside ∙ ap outside more in
    record {
      code = x;
      payload = y;
      says = ends;
      same = front_block (Try block x y handler) k shape
          ∙ ap (λ (b : Statements). Then (Try b x y handler) (block_of k)) (sym same)
          ∙ ap (λ (b : Behind). Then (Try (block_at lines (at + 1)) x y (block_of b)) (block_of k)) (sym more)
          ∙ ap (λ (b : Behind). Then (Try (block_at lines (at + 1)) x y (block_at lines (e + 1))) (block_of b)) (sym last);
    }

pub block_at-try : (lines : List Line) (at : ℕ) → accepts [] lines ≡ true → slice_get lines at ≡ Some line.Try → TryAt lines at (end_of lines (at + 1)) (block_at lines at)
unfolding block_at behind
block_at-try lines at placed is =
    let h = here lines at line.Try placed is in
    let k = behind (drop (at + 1) lines) in
    subst (TryAt lines at (end_of lines (at + 1))) (sym (ap (λ (ls : List Line). block_of (behind ls)) h.same))
    (try_case lines at k (end_of lines (at + 1)) placed h.shape (end_line lines (at + 1) placed h.within) (behind_end lines (at + 1) placed h.within (try_inside k h.shape)) refl)

-- lines at which no statement begins
pub block_at-end : (lines : List Line) (at : ℕ) → accepts [] lines ≡ true → slice_get lines at ≡ Some line.End → block_at lines at ≡ Nothing
unfolding block_at behind
block_at-end lines at placed is = ap (λ (ls : List Line). block_of (behind ls)) (here lines at line.End placed is).same

else_case : (k : Behind) → Shape line.Else k → block_of (before_else k) ≡ Nothing
unfolding Shape
else_case (Outside procedures) shape = absurd shape
else_case (Block block k) shape = refl
else_case (First block other k) shape = absurd shape
else_case (Tried block x y handler k) shape = absurd shape

pub block_at-else : (lines : List Line) (at : ℕ) → accepts [] lines ≡ true → slice_get lines at ≡ Some line.Else → block_at lines at ≡ Nothing
unfolding block_at behind
block_at-else lines at placed is =
    let h = here lines at line.Else placed is in
    ap (λ (ls : List Line). block_of (behind ls)) h.same ∙ else_case (behind (drop (at + 1) lines)) h.shape

catch_case : (x y : List ℕ) (k : Behind) → Shape (line.Catch x y) k → block_of (before_catch x y k) ≡ Nothing
unfolding Shape
catch_case x y (Outside procedures) shape = absurd shape
catch_case x y (Block block k) shape = refl
catch_case x y (First block other k) shape = absurd shape
catch_case x y (Tried block v w handler k) shape = absurd shape

pub block_at-catch : (lines : List Line) (at : ℕ) (x y : List ℕ) → accepts [] lines ≡ true → slice_get lines at ≡ Some (line.Catch x y) → block_at lines at ≡ Nothing
unfolding block_at behind
block_at-catch lines at x y placed is =
    let h = here lines at (line.Catch x y) placed is in
    ap (λ (ls : List Line). block_of (behind ls)) h.same ∙ catch_case x y (behind (drop (at + 1) lines)) h.shape

proc_case : (name : List ℕ) (parameters : List (List ℕ)) (k : Behind) → Shape (line.Proc name parameters) k → block_of (before_proc name parameters k) ≡ Nothing
unfolding Shape
proc_case name parameters (Outside procedures) shape = absurd shape
proc_case name parameters (Block block (Outside procedures)) shape = refl
proc_case name parameters (Block block (Block other k)) shape = absurd shape
proc_case name parameters (Block block (First one other k)) shape = absurd shape
proc_case name parameters (Block block (Tried one x y handler k)) shape = absurd shape
proc_case name parameters (First block other k) shape = absurd shape
proc_case name parameters (Tried block x y handler k) shape = absurd shape

pub block_at-proc : (lines : List Line) (at : ℕ) (name : List ℕ) (parameters : List (List ℕ)) → accepts [] lines ≡ true → slice_get lines at ≡ Some (line.Proc name parameters)
    → block_at lines at ≡ Nothing
unfolding block_at behind
block_at-proc lines at name parameters placed is =
    let h = here lines at (line.Proc name parameters) placed is in
    ap (λ (ls : List Line). block_of (behind ls)) h.same ∙ proc_case name parameters (behind (drop (at + 1) lines)) h.shape

drop_none : (lines : List Line) (at : ℕ) → slice_get lines at ≡ None → drop at lines ≡ []
drop_none [] zero e = refl
drop_none [] (suc at) e = refl
drop_none (x ∷ lines) zero e = let wrong : Some x ≡ None = e in absurd (cc)
drop_none (x ∷ lines) (suc at) e = drop_none lines at e

pub block_at-none : (lines : List Line) (at : ℕ) → slice_get lines at ≡ None → block_at lines at ≡ Nothing
unfolding block_at behind
block_at-none lines at is = ap (λ (ls : List Line). block_of (behind ls)) (drop_none lines at is)

-- what a line that was found says
pub says : (lines : List Line) (at : ℕ) (l m : Line) → Some l ≡ slice_get lines at → l ≡ m → slice_get lines at ≡ Some m
says lines at l m found is = sym found ∙ ap (λ (x : Line). Some x) is

-- a line that begins no statement
pub block_at-other : (lines : List Line) (at : ℕ) (l : Line) → accepts [] lines ≡ true → Some l ≡ slice_get lines at
    → ((simple : Simple) → l ≡ line.Do simple → ⊥) → ((a : Operand) → l ≡ line.If a → ⊥) → ((a : Operand) → l ≡ line.While a → ⊥) → (l ≡ line.Try → ⊥)
    → block_at lines at ≡ Nothing
block_at-other lines at (line.Proc name parameters) placed is not_do not_if not_while not_try = block_at-proc lines at name parameters placed (sym is)
block_at-other lines at (line.If a) placed is not_do not_if not_while not_try = absurd (not_if a refl)
block_at-other lines at line.Else placed is not_do not_if not_while not_try = block_at-else lines at placed (sym is)
block_at-other lines at (line.While a) placed is not_do not_if not_while not_try = absurd (not_while a refl)
block_at-other lines at line.Try placed is not_do not_if not_while not_try = absurd (not_try refl)
block_at-other lines at (line.Catch x y) placed is not_do not_if not_while not_try = block_at-catch lines at x y placed (sym is)
block_at-other lines at line.End placed is not_do not_if not_while not_try = block_at-end lines at placed (sym is)
block_at-other lines at (line.Do simple) placed is not_do not_if not_while not_try = absurd (not_do simple refl)
