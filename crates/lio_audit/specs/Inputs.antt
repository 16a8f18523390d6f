-- The texts of a policy's inputs, as far as an observer has them.
use Rattle.std.specs.Prelude.{◌≡◌, ℕ, List, [], Option, None, Some, IsTrue, length, slice_get}
use Rattle.lio_labels.specs.declared.label.Label.{Label}
use Rattle.lio_labels.specs.Flow.{flows}
use Rattle.lio_policy.specs.declared.policy.FileEntry.{FileEntry}

-- a text, or the empty one where it isn't there
abbrev pub or_empty : Option (List ℕ) → List ℕ
or_empty None = []
or_empty (Some text) = text

-- A list of texts has each text that is there at its place.
pub record HasTexts (held : List (Option (List ℕ))) (texts : List (List ℕ)) : Type 0 where
  pub count : length texts ≡ length held
  pub each : (i : ℕ) (text : List ℕ) → slice_get held i ≡ Some (Some text) → slice_get texts i ≡ Some text

-- the text of each input whose label flows to an observer's is there
abbrev pub AreThere : Label → List FileEntry → List (Option (List ℕ)) → Type 0
AreThere observer inputs held = (i : ℕ) (input : FileEntry) → slice_get inputs i ≡ Some input → IsTrue (flows input.label observer) → (text : List ℕ) × (slice_get held i ≡ Some (Some text))
