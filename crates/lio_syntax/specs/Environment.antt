-- What names are bound to: a finite map, as the list of its bindings in the order of names. So environments that bind the same names to the
-- same values are equal.
use Rattle.std.specs.Prelude.{ℕ, List, [], ◌∷◌, bytes_eq, Option, Some, None, if◌then◌else◌}
use Rattle.std.specs.Ordering.{nat_cmp}
use Rattle.std.specs.Cmp.Lexicographic.{slice_cmp}
use Rattle.std.specs.declared.cmp.Ordering.{Ordering}
use Rattle.std.specs.declared.cmp.Ordering.TheVariants.{Less, Equal, Greater}
use Rattle.lio_values.specs.declared.value.Value.{Value}
-- a name with its value
pub use Rattle.lio_syntax.specs.declared.binding.Binding.{Binding}

abbrev pub Environment : Type 0
Environment = List Binding

-- a binding among those in the order of names: before the first, in its place, or behind it
abbrev pub bind_before : Ordering → Binding → Binding → Environment → Environment → Environment
bind_before Less new first rest behind = new ∷ first ∷ rest
bind_before Equal new first rest behind = new ∷ rest
bind_before Greater new first rest behind = first ∷ behind

-- the environment in which a name is bound to a value, and each other name as before
unfoldable pub bind : Environment → List ℕ → Value → Environment
bind [] name value = record { name = name; value = value } ∷ []
bind (first ∷ rest) name value =
    bind_before (slice_cmp nat_cmp name first.name) (record { name = name; value = value }) first rest (bind rest name value)

-- names that are bound to values, the later over the earlier
unfoldable pub bind_all : Environment → List (List ℕ) → List Value → Environment
bind_all environment [] values = environment
bind_all environment (name ∷ names) [] = environment
bind_all environment (name ∷ names) (value ∷ values) = bind_all (bind environment name value) names values

-- what a name is bound to
unfoldable pub value_of : Environment → List ℕ → Option Value
value_of [] name = None
value_of (first ∷ rest) name = if bytes_eq first.name name then Some first.value else value_of rest name
