-- Words of private contracts on frames.
use Rattle.std.specs.Prelude.{◌≡◌, pos, ℕ, List, [], ◌∷◌, ◌++◌, Option, Some, slice_get}
use Rattle.lio_values.specs.declared.fault.Fault.{Fault}
use Rattle.lio_values.specs.declared.value.Plain.TheVariants.{Whole}
use Rattle.lio_values.specs.declared.value.Value.TheVariants.{Bare}
use Rattle.lio_syntax_lines.specs.declared.line.Line.{Line}
use Rattle.lio_syntax_lines.specs.declared.line.Line.TheVariants as line
use Rattle.lio_syntax_lines.specs.declared.line.Simple.{Simple}
use Rattle.lio_syntax.specs.Statements as statement
use Rattle.lio_task_control.specs.declared.places.Handler.{Handler}
use Rattle.lio_task_control.specs.declared.frame.Frame.{Frame}
use Rattle.lio_task_control.specs.declared.frame.Stage.{Stage}
use Rattle.lio_task_control.specs.declared.frame.Stage.TheVariants as stage
use Rattle.lio_task_control.specs.declared.frame.Call.{Call}
use Rattle.lio_task_control.specs.declared.continuation.Continuation.{Continuation}
use Rattle.lio_syntax.specs.Environment.{Environment, bind}
use Rattle.lio_syntax.specs.Items.{Item, Do, Access, Mark, Back, Fail}
use Rattle.lio_syntax.specs.Throwing.{code_of, payload_of, thrown}
use Rattle.lio_task_control.specs.Continuation.{items_at}

-- nothing comes first that the running procedure itself still has to do
abbrev pub IsOutside : List Item → Type 0
IsOutside [] = Unit {0}
IsOutside (Do statement ∷ items) = ⊥
IsOutside (Access statement ∷ items) = ⊥
IsOutside (Mark code payload handler ∷ items) = ⊥
IsOutside (Back environment name ∷ items) = Unit {0}
IsOutside (Fail fault ∷ items) = ⊥

-- where a line ends a block, nothing is left
abbrev pub EndsAll : Option Line → List Item → Type 0
EndsAll (Some line.Else) items = items ≡ []
EndsAll (Some line.End) items = items ≡ []
EndsAll line items = Unit {0}

-- at a place the same is left as at another one, and it isn't the end of a block, or nothing is left
pub record SettlesAt (lines : List Line) (old new : ℕ) : Type 0 where
  pub same : items_at lines new ≡ items_at lines old
  pub ends : EndsAll (slice_get lines new) (items_at lines new)

-- the code and the payload of a fault are bound
abbrev pub with_fault : Fault → Environment → List ℕ → List ℕ → Environment
with_fault fault environment code payload = bind (bind environment code (Bare (Whole (pos (code_of fault.kind))))) payload (Bare (payload_of fault.kind))

-- a fault is caught by a handler
abbrev pub IsCaught : List Line → List Item → Handler → Type 0
IsCaught lines items handler = (fault : Fault) (environment : Environment) (others : List Item)
    → thrown fault environment (items ++ others)
    ≡ record { environment = with_fault fault environment handler.code.now handler.payload.now; items = items_at lines handler.at ++ others }

-- no fault is caught
abbrev pub CatchesNothing : List Item → Type 0
CatchesNothing items = (fault : Fault) (environment : Environment) (others : List Item) → thrown fault environment (items ++ others) ≡ thrown fault environment others

-- what is left of a frame at a stage that goes on where these items come
abbrev pub gone_to : Stage → List Item → List Item
gone_to stage.Rest items = items
gone_to stage.Access items = items
gone_to stage.Nothing items = []
gone_to (stage.Fail fault) items = []

-- the access of a statement comes in its place
abbrev pub IsAccessed : List Item → List Item → Type 0
IsAccessed old new = (simple : Simple) (items : List Item) → old ≡ Do (statement.Do simple) ∷ items → new ≡ Access simple ∷ items

-- frames that stand for the same
pub record SameFrame (old new : Frame) : Type 0 where
  pub environment : new.environment ≡ old.environment
  pub at : new.at ≡ old.at
  pub stage : new.stage ≡ old.stage

-- what is bound in the outermost procedure
abbrev pub outermost : List Call → Frame → Environment
outermost [] frame = frame.environment
outermost (call ∷ calls) frame = call.caller.environment

-- continuations with the same calls and frame
pub record SameCalls (old new : Continuation) : Type 0 where
  pub calls : new.calls.items ≡ old.calls.items
  pub frame : new.frame ≡ old.frame
