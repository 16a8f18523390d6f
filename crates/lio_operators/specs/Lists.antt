-- Operators on a list and another value.
use Rattle.std.specs.Prelude.{ℕ, ◌+◌, Bool, ◌&&◌, nat_lt, nat_le, if◌then◌else◌, List, [], ◌∷◌, ◌++◌, take, drop, slice_get, Option, Some, None, ℤ, pos, negsuc, Result, Ok, Err}
use Rattle.lio_values.specs.declared.value.Plain.{Plain}
use Rattle.lio_values.specs.declared.value.Plain.TheVariants.{Whole, Items}
use Rattle.lio_values.specs.declared.value.Value.{Value}
use Rattle.lio_values.specs.declared.value.Value.TheVariants.{Bare}
use Rattle.lio_values.specs.declared.fault.FaultKind.{FaultKind}
use Rattle.lio_values.specs.declared.fault.FaultKind.TheVariants.{BadType, TooLong}
use Rattle.lio_values.specs.Forest.{Forest, deepest}
use Rattle.lio_values.specs.Measures.{items_size, items_seals}
use Rattle.lio_values.specs.Views.{forest_of, values_of}
use Rattle.lio_syntax_lines.specs.declared.operators.Two.{Two}
use Rattle.lio_syntax_lines.specs.declared.operators.Two.TheVariants.{Add, From, Upto, Push, At}
use Rattle.lio_operators.specs.Texts.{place_at}

-- a list as a value
abbrev pub list : List Value → Result Value FaultKind
list values = Ok (Bare (Items (forest_of values)))

-- whether a list may be made: of depth at most 8, of at most so large a size, and with at most four sealed values
abbrev pub may_be_made : ℕ → Forest → Bool
may_be_made longest items = nat_lt (deepest items) 8 && (nat_le (items_size items + 1) longest && nat_le (items_seals items) 4)

-- a list of these values, where it may be made
abbrev pub made_list : ℕ → List Value → Result Value FaultKind
made_list longest values = if may_be_made longest (forest_of values) then list values else Err TooLong

-- a value, if there is one
abbrev pub found : Option Value → Result Value FaultKind
found (Some value) = Ok value
found None = Err BadType

-- the value at a place, if there is one there
abbrev pub value_at : List Value → ℤ → Option Value
value_at values (pos place) = slice_get values place
value_at values (negsuc number) = None

-- a list with a value last
abbrev pub on_last : ℕ → Two → Forest → Value → Result Value FaultKind
on_last longest Push items value = made_list longest (values_of items ++ value ∷ [])
on_last longest two items value = Err BadType

-- operators on a list and a whole
abbrev pub on_list_at : Two → Forest → ℤ → Result Value FaultKind
on_list_at At items at = found (value_at (values_of items) at)
on_list_at From items at = list (drop (place_at at) (values_of items))
on_list_at Upto items at = list (take (place_at at) (values_of items))
on_list_at two items at = Err BadType

-- operators on two lists
abbrev pub on_lists : ℕ → Two → Forest → Forest → Result Value FaultKind
on_lists longest Add items others = made_list longest (values_of items ++ values_of others)
on_lists longest two items others = Err BadType

-- operators on a list and a plain value that isn't `push`
abbrev pub on_list : ℕ → Two → Forest → Plain → Result Value FaultKind
on_list longest two items (Items others) = on_lists longest two items others
on_list longest two items (Whole at) = on_list_at two items at
on_list longest two items b = Err BadType

-- operators on a list and a plain value
abbrev pub list_and : ℕ → Two → Forest → Plain → Result Value FaultKind
list_and longest Push items b = on_last longest Push items (Bare b)
list_and longest two items b = on_list longest two items b
