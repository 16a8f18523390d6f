-- Each principal that a value, a content or a fault names has a name.
use Rattle.std.specs.Prelude.{ℕ, List}
use Rattle.lio_labels.specs.LabelPrint.{AreNamed}
use Rattle.lio_values.specs.declared.value.Content.{Content}
use Rattle.lio_values.specs.declared.value.Value.{Value}
use Rattle.lio_values.specs.declared.fault.Fault.{Fault}
use Rattle.lio_values.specs.declared.fault.FaultKind.{FaultKind}
use Rattle.lio_values.specs.ForestText.{IsProblemNamed, IsInnerNamed, IsItemNamed}
use Rattle.lio_values.specs.Views.{problem_of, inner_of, item_of}

-- each principal in what went wrong has a name
abbrev pub IsKindNamed : List (List ℕ) → FaultKind → Type 0
IsKindNamed names kind = IsProblemNamed names (problem_of kind)

-- each principal in a fault has a name
abbrev pub IsFaultNamed : List (List ℕ) → Fault → Type 0
IsFaultNamed names fault = IsKindNamed names fault.kind × AreNamed names fault.at

-- each principal in a content has a name
abbrev pub IsContentNamed : List (List ℕ) → Content → Type 0
IsContentNamed names content = IsInnerNamed names (inner_of content)

-- each principal in a value has a name
abbrev pub IsValueNamed : List (List ℕ) → Value → Type 0
IsValueNamed names value = IsItemNamed names (item_of value)
