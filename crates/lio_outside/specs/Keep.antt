-- What an answer of a store's `keep` shows.
use Rattle.std.specs.Prelude.{◌≡◌, ◌≢◌, ℕ, List, take, Option, Some, ◌⊎◌}
use Rattle.std.specs.Option.{option_map}
use Rattle.lio_outside.specs.FileMap.{FileMap, bytes_of, with_file}

-- what a store tells once these bytes are kept under a name; one that tells nothing still tells nothing
abbrev pub told_with : Option FileMap → List ℕ → List ℕ → Option FileMap
told_with told name bytes = option_map (λ files. with_file files name bytes) told

-- a refused keep left all files as they were, or a first part of the new bytes under the name and the other files as they were
abbrev pub PartlyKept : Option FileMap → Option FileMap → List ℕ → List ℕ → Type 0
PartlyKept old new name bytes = (new ≡ old) ⊎ ((n : ℕ) × (new ≡ told_with old name (take n bytes)))

-- every name but this one has the same bytes as before, or none as before
abbrev pub OthersStay : FileMap → FileMap → List ℕ → Type 0
OthersStay old new name = (other : List ℕ) → other ≢ name → bytes_of new other ≡ bytes_of old other

-- a name has its old bytes, or none as before, or a first part of the new ones
abbrev pub OldOrFirstPart : FileMap → FileMap → List ℕ → List ℕ → Type 0
OldOrFirstPart old new name bytes = (bytes_of new name ≡ bytes_of old name) ⊎ ((n : ℕ) × (bytes_of new name ≡ Some (take n bytes)))

-- after a refused keep the name has its old bytes or a first part of the new ones, and the other names stay
abbrev pub LeavesFirstPart : Type 0
LeavesFirstPart = (old new : FileMap) (name bytes : List ℕ) → PartlyKept (Some old) (Some new) name bytes → OldOrFirstPart old new name bytes × OthersStay old new name
