-- Making each item of a list into another thing, as far as that can be done.
use Rattle.std.specs.Prelude.{ℕ, Bool, List, map, Option, Some, None, Result, Ok, Err, is_none}
use Rattle.std.specs.List.{filter_map, position_from}

-- for each item, whether nothing is made of it
abbrev pub unmade : {X Y : Type 0} → (X → Option Y) → List X → List Bool
unmade make items = map (λ x. is_none (make x)) items

-- the place, counted from the given one, of the first that fails
abbrev pub first_failing : ℕ → List Bool → Option ℕ
first_failing place failing = position_from (λ fails. fails) place failing

-- a result, unless something fails at a place
abbrev pub unless_at : {A : Type 0} → Option ℕ → A → Result A ℕ
unless_at None result = Ok result
unless_at (Some place) result = Err place

-- what is made of all items, or the place of the first of which nothing is made
abbrev pub converted : {X Y : Type 0} → (X → Option Y) → List X → Result (List Y) ℕ
converted make items = unless_at (first_failing 0 (unmade make items)) (filter_map make items)
