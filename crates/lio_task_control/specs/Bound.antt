-- Where a name is bound among bindings.
use Rattle.std.specs.Prelude.{◌≡◌, ◌<◌, ◌≤◌, ℕ, List, [], ◌∷◌, length, slice_set, insert, slice_index_or, Some}
use Rattle.std.specs.Ordering.{nat_cmp}
use Rattle.std.specs.Cmp.Lexicographic.{slice_cmp}
use Rattle.std.specs.declared.cmp.Ordering.TheVariants.{Less}
use Rattle.lio_values.specs.declared.value.Value.{Value}
use Rattle.lio_syntax.specs.declared.binding.Binding.{Binding}
use Rattle.lio_syntax.specs.Environment.{bind, value_of}

-- a name comes before those of bindings
abbrev pub ComesBefore : List ℕ → List Binding → Type 0
ComesBefore name [] = Unit {0}
ComesBefore name (binding ∷ bindings) = (slice_cmp nat_cmp name binding.name ≡ Less) × ComesBefore name bindings

-- the names of bindings rise, so that each is bound once
abbrev pub AreInOrder : List Binding → Type 0
AreInOrder [] = Unit {0}
AreInOrder (binding ∷ bindings) = ComesBefore binding.name bindings × AreInOrder bindings

-- the name is bound at a place, and is bound there again
pub record IsBoundAt (environment : List Binding) (name : List ℕ) (at : ℕ) : Type 0 where
  pub within : at < length environment
  pub bound : (value : Value) → bind environment name value ≡ slice_set environment at (record { name = name; value = value })
  pub same : (d : Binding) → (slice_index_or environment at d).name ≡ name
  pub value : (d : Binding) → value_of environment name ≡ Some (slice_index_or environment at d).value

-- the name is not bound, and its binding comes before that at a place
pub record IsBoundBefore (environment : List Binding) (name : List ℕ) (at : ℕ) : Type 0 where
  pub within : at ≤ length environment
  pub bound : (value : Value) → bind environment name value ≡ insert environment at (record { name = name; value = value })
