-- The text of a plain value, as scripts and journals have it.
use Rattle.std.specs.Prelude.{ℕ, List}
use Rattle.lio_values.specs.declared.value.Plain.{Plain}
use Rattle.lio_values.specs.ForestText.{tree_text, IsTreeNamed}
use Rattle.lio_values.specs.Views.{tree_of}
pub use Rattle.lio_values.specs.ForestText.{label_in_brackets, power_text, handle_text, IsPowerNamed}

-- a plain value: a list is `[`, its values joined by `, `, and `]`
abbrev pub plain_text : List (List ℕ) → Plain → List ℕ
plain_text names plain = tree_text names (tree_of plain)

-- each principal in a plain value has a name
abbrev pub IsPlainNamed : List (List ℕ) → Plain → Type 0
IsPlainNamed names plain = IsTreeNamed names (tree_of plain)
