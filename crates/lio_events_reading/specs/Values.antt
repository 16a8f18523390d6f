-- Values, contents and faults behind a blank.
use Rattle.std.specs.Prelude.{ℕ, List, ◌++◌, codes, Option}
use Rattle.lio_values.specs.declared.value.Content.{Content}
use Rattle.lio_values.specs.declared.value.Value.{Value}
use Rattle.lio_values.specs.declared.value.Content.TheVariants.{Kept, Faulted, Hidden}
use Rattle.lio_values.specs.declared.value.Value.TheVariants.{Bare, Sealed}
use Rattle.lio_values.specs.declared.fault.Fault.{Fault}
use Rattle.lio_values.specs.ValueText.{fault_text, content_text, value_text}
use Rattle.lio_events.specs.EntryText.{option_text}
use Rattle.lio_values.specs.Forest.{Forest}
use Rattle.lio_events_reading.specs.Over.{IsContentOver, IsValueOver}
use Rattle.lio_events_reading.specs.Plains.{list}

-- a list as a value
abbrev pub list_value : Forest → Value
list_value items = Bare (list items)

abbrev pub blank_value_text : List (List ℕ) → Value → List ℕ
blank_value_text names value = codes " " ++ value_text names value

abbrev pub blank_content_text : List (List ℕ) → Content → List ℕ
blank_content_text names content = codes " " ++ content_text names content

abbrev pub blank_option_text : List (List ℕ) → Option Value → List ℕ
blank_option_text names value = codes " " ++ option_text names value

abbrev pub blank_fault_text : List (List ℕ) → Fault → List ℕ
blank_fault_text names fault = codes " " ++ fault_text names fault

-- a content that is a fault
abbrev pub IsFaulted : Content → Type 0
IsFaulted (Faulted fault) = Unit {0}
IsFaulted (Kept plain) = ⊥
IsFaulted Hidden = ⊥

abbrev pub IsFaultedOver : List (List ℕ) → Content → Type 0
IsFaultedOver names content = IsContentOver names content × IsFaulted content

-- a value under a label
abbrev pub IsSealed : Value → Type 0
IsSealed (Sealed label content) = Unit {0}
IsSealed (Bare plain) = ⊥

abbrev pub IsSealedOver : List (List ℕ) → Value → Type 0
IsSealedOver names value = IsValueOver names value × IsSealed value
