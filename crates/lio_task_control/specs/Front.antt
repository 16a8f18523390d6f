-- What comes first in a continuation.
use Rattle.std.specs.Prelude.{◌≡◌, List, [], ◌∷◌}
use Rattle.lio_syntax_lines.specs.declared.line.Operand.{Operand}
use Rattle.lio_syntax.specs.Statements.{Statement, If, IfElse, While, Try}
use Rattle.lio_syntax.specs.Statements as statement
use Rattle.lio_task_control.specs.declared.front.Front.{Front}
use Rattle.lio_task_control.specs.declared.front.Front.TheVariants as front
use Rattle.lio_syntax.specs.Items.{Item, Do, Access, Mark, Back, Fail, enter, rest_of}

-- the way back to a caller comes first
abbrev pub IsBack : List Item → Type 0
IsBack [] = ⊥
IsBack (Do statement ∷ items) = ⊥
IsBack (Access statement ∷ items) = ⊥
IsBack (Mark code payload handler ∷ items) = ⊥
IsBack (Back environment name ∷ items) = Unit {0}
IsBack (Fail fault ∷ items) = ⊥

-- a mark comes first
abbrev pub IsMark : List Item → Type 0
IsMark [] = ⊥
IsMark (Do statement ∷ items) = ⊥
IsMark (Access statement ∷ items) = ⊥
IsMark (Mark code payload handler ∷ items) = Unit {0}
IsMark (Back environment name ∷ items) = ⊥
IsMark (Fail fault ∷ items) = ⊥

-- a statement or an access comes first
abbrev pub AtStatement : List Item → Type 0
AtStatement [] = ⊥
AtStatement (Do statement ∷ items) = Unit {0}
AtStatement (Access statement ∷ items) = Unit {0}
AtStatement (Mark code payload handler ∷ items) = ⊥
AtStatement (Back environment name ∷ items) = ⊥
AtStatement (Fail fault ∷ items) = ⊥

-- something comes first that the running procedure itself still has to do
abbrev pub IsOwn : List Item → Type 0
IsOwn [] = ⊥
IsOwn (Do statement ∷ items) = Unit {0}
IsOwn (Access statement ∷ items) = Unit {0}
IsOwn (Mark code payload handler ∷ items) = Unit {0}
IsOwn (Back environment name ∷ items) = ⊥
IsOwn (Fail fault ∷ items) = Unit {0}

-- a statement before the rest of items
abbrev pub Begins : List Item → Statement → Type 0
Begins items statement = items ≡ Do statement ∷ rest_of items

-- an `if` with this condition comes first
abbrev pub IsChoice : List Item → Operand → Type 0
IsChoice (Do (If a block) ∷ items) condition = a ≡ condition
IsChoice (Do (IfElse a block other) ∷ items) condition = a ≡ condition
IsChoice items condition = ⊥

-- a `while` with this condition comes first
abbrev pub IsLoop : List Item → Operand → Type 0
IsLoop (Do (While a block) ∷ items) condition = a ≡ condition
IsLoop items condition = ⊥

-- a `try` comes first
abbrev pub IsGuarded : List Item → Type 0
IsGuarded (Do (Try block code payload handler) ∷ items) = Unit {0}
IsGuarded items = ⊥

-- items begin as it is said
abbrev pub IsFront : List Item → Front → Type 0
IsFront items front.Nothing = items ≡ []
IsFront items front.Back = IsBack items
IsFront items front.Mark = IsMark items
IsFront items (front.Fail fault) = items ≡ Fail fault.now ∷ rest_of items
IsFront items (front.Access simple) = items ≡ Access simple.now ∷ rest_of items
IsFront items (front.Simple simple) = Begins items (statement.Do simple.now)
IsFront items (front.Choice condition) = IsChoice items condition.now
IsFront items (front.Loop condition) = IsLoop items condition.now
IsFront items front.Guarded = IsGuarded items

-- the block of the statement that comes first, before what comes behind it: the loop again, or the mark of a `try`
abbrev pub entered : List Item → List Item
entered (Do (If condition block) ∷ items) = enter block items
entered (Do (IfElse condition block other) ∷ items) = enter block items
entered (Do (While condition block) ∷ items) = enter block (Do (While condition block) ∷ items)
entered (Do (Try block code payload handler) ∷ items) = enter block (Mark code payload handler ∷ items)
entered items = rest_of items

-- the block of the `else` of the `if` that comes first, where it has one, before what comes behind the `if`
abbrev pub entered_other : List Item → List Item
entered_other (Do (IfElse condition block other) ∷ items) = enter other items
entered_other items = rest_of items
