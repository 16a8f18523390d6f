-- Arguments that are lists: what stands in them, how deep and how large they are, and how many inputs they have.
use Rattle.std.specs.Prelude.{◌≡◌, ℕ, ◌+◌, ◌-◌, ◌^◌, max, min, List, [], ◌∷◌, option_map, unwrap_or, slice_get}
use Rattle.std.specs.List.{flat_map}
use Rattle.lio_values.specs.Measures.{label_size, tree_size}
use Rattle.lio_values.specs.Views.{tree_of}
use Rattle.lio_policy.specs.declared.lists.ArgExtent.{ArgExtent}
use Rattle.lio_policy.specs.declared.policy.FileEntry.{FileEntry}
use Rattle.lio_policy.specs.declared.policy.Arg.{Arg}
use Rattle.lio_policy.specs.declared.policy.Arg.TheVariants as arg
use Rattle.lio_policy.specs.declared.policy.Arg.TheOpen.{Arg-F}
use Rattle.lio_policy.specs.declared.policy.Arg.TheFolds.{fold-Arg}

-- the arguments that stand in an argument and are no lists: itself, or those in its items
abbrev pub singles_step : Arg-F (List Arg) → List Arg
singles_step (Arg-F.Input place) = arg.Input place ∷ []
singles_step (Arg-F.Fixed value) = arg.Fixed value ∷ []
singles_step (Arg-F.Items singles) = flat_map (λ (s : List Arg). s) singles

abbrev pub singles : Arg → List Arg
singles = fold-Arg (List Arg) singles_step

-- the size of an input: that of its label
abbrev pub input_size : List FileEntry → ℕ → ℕ
input_size inputs place = unwrap_or (option_map (λ (input : FileEntry). label_size input.label) (slice_get inputs place)) 0

-- the greatest depth of some, their sizes in all, and the inputs of all
abbrev pub in_all : List ArgExtent → ArgExtent
in_all [] = record { depth = 0; size = 0; inputs = 0 }
in_all (e ∷ es) = record { depth = max e.depth (in_all es).depth; size = e.size + (in_all es).size; inputs = e.inputs + (in_all es).inputs }

-- How deep an argument is: 0, and a list one more than the deepest of its items; its size, which is that of its value; and how many inputs it is or has.
abbrev pub list_extent : ArgExtent → ArgExtent
list_extent items = record { depth = items.depth + 1; size = items.size + 1; inputs = items.inputs }

abbrev pub extent_step : List FileEntry → Arg-F ArgExtent → ArgExtent
extent_step inputs (Arg-F.Input place) = record { depth = 0; size = input_size inputs place; inputs = 1 }
extent_step inputs (Arg-F.Fixed value) = record { depth = 0; size = tree_size (tree_of value); inputs = 0 }
extent_step inputs (Arg-F.Items extents) = list_extent (in_all extents)

abbrev pub extent : List FileEntry → Arg → ArgExtent
extent inputs = fold-Arg ArgExtent (extent_step inputs)

-- what is counted of an extent: each number, or the greatest of 64 bits
pub record IsExtent (exact counted : ArgExtent) : Type 0 where
  pub depth : counted.depth ≡ min exact.depth (2 ^ 64 - 1)
  pub size : counted.size ≡ min exact.size (2 ^ 64 - 1)
  pub inputs : counted.inputs ≡ min exact.inputs (2 ^ 64 - 1)
