-- What the code's frames stand for: the items of a task. Places are numbers of lines in the script, from 0.
use Rattle.std.specs.Prelude.{ℕ, zero, suc, ◌+◌, List, [], ◌∷◌, ◌++◌, drop, Option, Some, None, slice_get}
use Rattle.lio_syntax_lines.specs.declared.line.Line.{Line}
use Rattle.lio_syntax_lines.specs.declared.line.Line.TheVariants as line
use Rattle.lio_syntax.specs.Statements.{Statements, Nothing, Try}
use Rattle.lio_syntax.specs.Statements as statement
use Rattle.lio_syntax.specs.Behind.{Behind, Outside, Block, First, Tried, behind}
use Rattle.lio_task_control.specs.declared.frame.Stage.{Stage}
use Rattle.lio_task_control.specs.declared.frame.Stage.TheVariants as stage
use Rattle.lio_task_control.specs.declared.frame.Frame.{Frame}
use Rattle.lio_task_control.specs.declared.frame.Call.{Call}
use Rattle.lio_task_control.specs.declared.continuation.Continuation.{Continuation}
use Rattle.lio_syntax.specs.Items.{Item, Do, Access, Mark, Back, Fail, enter, rest_of}
use Rattle.lio_syntax.specs.Throwing.{Place}

-- the statements of the innermost block that stand behind a place; outside of procedures there are none
abbrev pub block_of : Behind → Statements
block_of (Outside procedures) = Nothing
block_of (Block block k) = block
block_of (First block other k) = block
block_of (Tried block x y handler k) = block

-- the statements of the innermost block from a place on
unfoldable pub block_at : List Line → ℕ → Statements
block_at lines at = block_of (behind (drop at lines))

-- the first of these
abbrev pub innermost : List (List Item) → List Item
innermost [] = []
innermost (items ∷ outer) = items

-- what comes from a place on, where these items come behind the blocks that are open there, the innermost first
abbrev pub from : List Line → ℕ → List (List Item) → List Item
from lines at outer = enter (block_at lines at) (innermost outer)

-- the mark of the `try` in front
abbrev pub marked : List Item → List Item
marked (Do (Try block code payload handler) ∷ items) = Mark code payload handler ∷ items
marked items = items

-- what comes behind the blocks that are open behind a line, where `items` come from the line on: behind the block of a loop the loop again, behind
-- one of an `if` what comes behind the `if`, behind the one of a `try` its mark, and behind its handler what comes behind the mark
abbrev pub passed : Option Line → List Item → List (List Item) → List (List Item)
passed None items outer = []
passed (Some (line.Proc name parameters)) items outer = [] ∷ outer
passed (Some (line.If a)) items outer = rest_of items ∷ outer
passed (Some line.Else) items outer = outer
passed (Some (line.While a)) items outer = items ∷ outer
passed (Some line.Try) items outer = marked items ∷ outer
passed (Some (line.Catch x y)) items outer = rest_of items ∷ drop 1 outer
passed (Some line.End) items outer = drop 1 outer
passed (Some (line.Do simple)) items outer = outer

-- what comes behind each of the blocks that are open before the line at a place
unfoldable pub outer_at : List Line → ℕ → List (List Item)
outer_at lines zero = []
outer_at lines (suc at) = passed (slice_get lines at) (from lines at (outer_at lines at)) (outer_at lines at)

-- what a procedure still has to do at a place
unfoldable pub items_at : List Line → ℕ → List Item
items_at lines at = from lines at (outer_at lines at)

-- the access of the statement that comes first comes in its place
abbrev pub accessed : List Item → List Item
accessed (Do (statement.Do simple) ∷ items) = Access simple ∷ items
accessed items = items

-- what a frame at a place stands for
abbrev pub stage_items : List Line → ℕ → Stage → List Item
stage_items lines at stage.Rest = items_at lines at
stage_items lines at stage.Access = accessed (items_at lines at)
stage_items lines at stage.Nothing = []
stage_items lines at (stage.Fail fault) = Fail fault ∷ []

abbrev pub frame_items : List Line → Frame → List Item
frame_items lines frame = stage_items lines frame.at frame.stage

-- a frame before other items
abbrev pub frame_over : List Line → Frame → List Item → List Item
frame_over lines frame items = frame_items lines frame ++ items

-- a call before other items: the way back to its caller, and what the caller still has to do
abbrev pub call_over : List Line → Call → List Item → List Item
call_over lines call items = Back call.caller.environment call.name ∷ frame_over lines call.caller items

-- calls before other items, the innermost call last
unfoldable pub calls_over : List Line → List Call → List Item → List Item
calls_over lines [] items = items
calls_over lines (call ∷ calls) items = calls_over lines calls (call_over lines call items)

-- the place that a continuation stands for
unfoldable pub place_of : List Line → Continuation → Place
place_of lines continuation = record {
  environment = continuation.frame.environment;
  items = frame_over lines continuation.frame (calls_over lines continuation.calls.items []);
}

-- the statements of the procedure that a line begins, if it begins one
abbrev pub body_by : Option Line → Statements → Statements
body_by (Some (line.Proc name parameters)) block = block
body_by line block = Nothing

-- the statements of the procedure that the line at a place begins
unfoldable pub body_at : List Line → ℕ → Statements
body_at lines at = body_by (slice_get lines at) (block_at lines (at + 1))
