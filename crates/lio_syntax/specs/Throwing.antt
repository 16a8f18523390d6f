-- Throwing a fault and returning a value: where the nearest handler, or the caller, goes on.
use Rattle.std.specs.Prelude.{ℕ, pos, List, [], ◌∷◌}
use Rattle.lio_values.specs.declared.fault.Fault.{Fault}
use Rattle.lio_values.specs.declared.fault.FaultKind.{FaultKind}
use Rattle.lio_values.specs.declared.fault.FaultKind.TheVariants.{FlowCurrent, FlowClearance, FlowRaise, FlowPrivilege, BadType, Overflow, DivZero, TooLong, NoTurns, NoCells, ChildTurns, Depth, LabelWide, User}
use Rattle.lio_values.specs.declared.value.Plain.{Plain}
use Rattle.lio_values.specs.declared.value.Plain.TheVariants.{Unit as unit, Whole}
use Rattle.lio_values.specs.declared.value.Value.{Value}
use Rattle.lio_values.specs.declared.value.Value.TheVariants.{Bare}
use Rattle.lio_syntax.specs.Statements.{Statements}
use Rattle.lio_syntax.specs.Environment.{Environment, bind}
use Rattle.lio_syntax.specs.Items.{Item, Do, Access, Mark, Back, Fail, enter}

-- the number of a kind of fault, as handlers see it
abbrev pub code_of : FaultKind → ℕ
code_of (FlowCurrent current target) = 1
code_of (FlowClearance target clearance) = 2
code_of (FlowRaise raised clearance) = 3
code_of (FlowPrivilege power source target) = 4
code_of BadType = 5
code_of Overflow = 6
code_of DivZero = 7
code_of TooLong = 8
code_of NoTurns = 9
code_of (NoCells asked left) = 10
code_of (ChildTurns asked left) = 11
code_of Depth = 12
code_of (LabelWide left right) = 13
code_of (User plain) = 14

-- what a handler sees besides: the thrown value, or unit
abbrev pub payload_of : FaultKind → Plain
payload_of (User plain) = plain
payload_of kind = unit

-- a place in a task: its environment and its items
pub record Place : Type 0 where
  pub environment : Environment
  pub items : List Item

-- a handler begins: its two names are bound
abbrev pub caught : Fault → Environment → List ℕ → List ℕ → Statements → List Item → Place
caught fault environment code payload handler items = record {
  environment = bind (bind environment code (Bare (Whole (pos (code_of fault.kind))))) payload (Bare (payload_of fault.kind));
  items = enter handler items;
}

-- throwing: items are dropped up to the first mark, and each call that is left on the way gives back its caller's environment
unfoldable pub thrown : Fault → Environment → List Item → Place
thrown fault environment [] = record { environment = environment; items = Fail fault ∷ [] }
thrown fault environment (Mark code payload handler ∷ items) = caught fault environment code payload handler items
thrown fault environment (Back caller name ∷ items) = thrown fault caller items
thrown fault environment (Do statement ∷ items) = thrown fault environment items
thrown fault environment (Access statement ∷ items) = thrown fault environment items
thrown fault environment (Fail before ∷ items) = thrown fault environment items

-- returning: items are dropped up to the first call, and its name is bound in the caller's environment
unfoldable pub returned : Value → Environment → List Item → Place
returned value environment [] = record { environment = environment; items = [] }
returned value environment (Back caller name ∷ items) = record { environment = bind caller name value; items = items }
returned value environment (Do statement ∷ items) = returned value environment items
returned value environment (Access statement ∷ items) = returned value environment items
returned value environment (Mark code payload handler ∷ items) = returned value environment items
returned value environment (Fail fault ∷ items) = returned value environment items
