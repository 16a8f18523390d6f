-- What an observer sees of environments and of what is still to be done: each value with its content hidden where its label doesn't flow to the
-- observer's (the erasure of the concurrent calculus of LIO, ICFP 2012).
use Rattle.std.specs.Prelude.{map}
use Rattle.lio_labels.specs.declared.label.Label.{Label}
use Rattle.lio_values.specs.Erasure.{erase_value}
use Rattle.lio_syntax.specs.declared.binding.Binding.{Binding}
use Rattle.lio_syntax.specs.Environment.{Environment}
use Rattle.lio_syntax.specs.Items.{Item, Do, Access, Mark, Back, Fail}
use Rattle.lio_syntax.specs.Throwing.{Place}

abbrev pub hide_binding : Label → Binding → Binding
hide_binding observer binding = record binding { value = erase_value observer binding.value }

-- an environment, with its values hidden
abbrev pub hide_environment : Label → Environment → Environment
hide_environment observer environment = map (hide_binding observer) environment

-- an item; callers' environments alone hold values
abbrev pub hide_item : Label → Item → Item
hide_item observer (Back caller name) = Back (hide_environment observer caller) name
hide_item observer (Do statement) = Do statement
hide_item observer (Access statement) = Access statement
hide_item observer (Mark code payload handler) = Mark code payload handler
hide_item observer (Fail fault) = Fail fault

-- a place, with its values hidden
unfoldable pub hide_place : Label → Place → Place
hide_place observer place = record { environment = hide_environment observer place.environment; items = map (hide_item observer) place.items }
