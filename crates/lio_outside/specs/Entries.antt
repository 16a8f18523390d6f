-- The files that a list of entries keeps.
use Rattle.std.specs.Prelude.{ℕ, List, map, Vec}
use Rattle.std.specs.BTreeMap.{BTreeMap}
use Rattle.std.specs.FinMap as finite
use Rattle.lio_outside.specs.FileMap.{FileMap}

-- the names and the bytes of entries, as lists of bytes
abbrev pub names_and_bytes : {A B : Type 0} → List (Vec ℕ A × Vec ℕ B) → List (List ℕ × List ℕ)
names_and_bytes entries = map (λ e. (e.0.items, e.1.items)) entries

-- the files whose names and bytes a map keeps
abbrev pub files_of : {A B : Type 0} → BTreeMap (Vec ℕ A) (Vec ℕ B) → FileMap
files_of m = finite.from_entries (names_and_bytes m.entries)
