-- The text of a value, and of the contents and faults in it, as journals have them.
use Rattle.std.specs.Prelude.{ℕ, List, ◌++◌, codes}
use Rattle.lio_values.specs.declared.value.Content.{Content}
use Rattle.lio_values.specs.declared.value.Value.{Value}
use Rattle.lio_values.specs.declared.fault.Fault.{Fault}
use Rattle.lio_values.specs.declared.fault.FaultKind.{FaultKind}
use Rattle.lio_values.specs.ForestText.{label_in_brackets, problem_text, inner_text, item_text}
use Rattle.lio_values.specs.Views.{problem_of, inner_of, item_of}
pub use Rattle.lio_values.specs.ForestText.{labels_text, numbers_text}

-- what went wrong
abbrev pub kind_text : List (List ℕ) → FaultKind → List ℕ
kind_text names kind = problem_text names (problem_of kind)

-- a fault: what went wrong, and the label at which it was thrown
abbrev pub fault_text : List (List ℕ) → Fault → List ℕ
fault_text names fault = kind_text names fault.kind ++ codes " at " ++ label_in_brackets names fault.at

-- a content
abbrev pub content_text : List (List ℕ) → Content → List ℕ
content_text names content = inner_text names (inner_of content)

-- a value
abbrev pub value_text : List (List ℕ) → Value → List ℕ
value_text names value = item_text names (item_of value)
