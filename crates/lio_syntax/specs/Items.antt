-- The continuation of a task: the list of what it still has to do.
use Rattle.std.specs.Prelude.{ℕ, ◌+◌, List, [], ◌∷◌}
use Rattle.lio_values.specs.declared.fault.Fault.{Fault}
use Rattle.lio_syntax_lines.specs.declared.line.Simple.{Simple}
use Rattle.lio_syntax.specs.Statements.{Statement, Statements, Nothing, Then}
use Rattle.lio_syntax.specs.Environment.{Environment}

-- what a task still has to do
pub data Item : Type 0 where
  -- a statement
  Do : Statement → Item
  -- the access of a statement whose raise is done
  Access : Simple → Item
  -- where a fault that is thrown is caught: the names of its code and its payload, and the handler
  Mark : List ℕ → List ℕ → Statements → Item
  -- where a call returns to: the caller's environment, and the name of what is returned
  Back : Environment → List ℕ → Item
  -- a fault that nothing catches
  Fail : Fault → Item

-- the statements of a block in front of other items
unfoldable pub enter : Statements → List Item → List Item
enter Nothing items = items
enter (Then statement block) items = Do statement ∷ enter block items

-- what comes after the first item
abbrev pub rest_of : List Item → List Item
rest_of [] = []
rest_of (item ∷ items) = items

-- how many calls are open
unfoldable pub open_calls : List Item → ℕ
open_calls [] = 0
open_calls (Back environment name ∷ items) = open_calls items + 1
open_calls (Do statement ∷ items) = open_calls items
open_calls (Access statement ∷ items) = open_calls items
open_calls (Mark code payload handler ∷ items) = open_calls items
open_calls (Fail fault ∷ items) = open_calls items
