-- The files of a store: a finite map from names to bytes, both lists of bytes.
use Rattle.std.specs.Prelude.{◌≡◌, ◌≢◌, ℕ, List, Option, None, Some}
use Rattle.std.specs.Ordering.{nat_cmp}
use Rattle.std.specs.Cmp.Lexicographic.{slice_cmp}
use Rattle.std.specs.FinMap as map

-- the bytes of each file, by its name
abbrev pub FileMap : Type 0
FileMap = map.FinMap (slice_cmp nat_cmp) (List ℕ)

-- no files at all
abbrev pub no_files : FileMap
no_files = map.empty

-- the bytes under a name, None where no file has that name
abbrev pub bytes_of : FileMap → List ℕ → Option (List ℕ)
bytes_of files name = map.get files name

-- these files with the given bytes under the name, and every other file as it was
abbrev pub with_file : FileMap → List ℕ → List ℕ → FileMap
with_file files name bytes = map.insert files name bytes

-- what was put under a name is found there
abbrev pub FindsKept : Type 0
FindsKept = (files : FileMap) (name bytes : List ℕ) → bytes_of (with_file files name bytes) name ≡ Some bytes

-- a file put under a name leaves what stands under every other name
abbrev pub LeavesOthers : Type 0
LeavesOthers = (files : FileMap) (name bytes other : List ℕ) → other ≢ name → bytes_of (with_file files name bytes) other ≡ bytes_of files other

-- where there are no files, no name is found
abbrev pub FindsNothing : Type 0
FindsNothing = (name : List ℕ) → bytes_of no_files name ≡ None

-- files that give the same bytes under every name are the same files
abbrev pub EqualWhereAlike : Type 0
EqualWhereAlike = (a b : FileMap) → ((name : List ℕ) → bytes_of a name ≡ bytes_of b name) → a ≡ b
