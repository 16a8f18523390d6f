-- Files that a store has fetched or kept, by their names and their numbers.
use Rattle.std.specs.Prelude.{◌≡◌, ℕ, Bool, true, false, ◌==◌, ◌&&◌, ◌||◌, not, List, [], ◌∷◌, ◌++◌, Option, Some, None, bytes_eq}
use Rattle.std.specs.List.{filter, list_any}
use Rattle.lio_system.specs.declared.known.FileNumber.{FileNumber}
use Rattle.lio_system.specs.declared.known.KnownFile.{KnownFile}
use Rattle.lio_system.specs.declared.known.KnownFiles.{KnownFiles}

-- whether two numbers are those of one file
abbrev pub is_same_file : FileNumber → FileNumber → Bool
is_same_file a b = a.device == b.device && a.inode == b.inode

-- whether a known file is the one with this number, under this name
abbrev pub is_file : FileNumber → List ℕ → KnownFile → Bool
is_file number name file = is_same_file file.number number && bytes_eq file.name.items name

-- whether the file with this number is known under this name
abbrev pub is_known : List KnownFile → FileNumber → List ℕ → Bool
is_known files number name = list_any (is_file number name) files

-- whatever was known is known still, each file under the same name
abbrev pub StayKnown : List KnownFile → List KnownFile → Type 0
StayKnown old new = (number : FileNumber) (name : List ℕ) → is_known old number name ≡ true → is_known new number name ≡ true

-- whether a known file is the one with this number, under another name
abbrev pub is_other : FileNumber → List ℕ → KnownFile → Bool
is_other number name file = is_same_file file.number number && not (bytes_eq file.name.items name)

-- whether the file with this number is known under another name
abbrev pub is_known_elsewhere : List KnownFile → FileNumber → List ℕ → Bool
is_known_elsewhere files number name = list_any (is_other number name) files

-- whether a file is the one to which standard output goes, if that goes to one
abbrev pub is_output : Option FileNumber → FileNumber → Bool
is_output None number = false
is_output (Some file) number = is_same_file file number

-- whether a file may not be written under a name: standard output goes to it, or it is known under another name
abbrev pub is_taken : KnownFiles → FileNumber → List ℕ → Bool
is_taken known number name = is_output known.output number || is_known_elsewhere known.files.items number name

-- these files but for the one with a number
abbrev pub without : FileNumber → List KnownFile → List KnownFile
without number files = filter (λ file. not (is_same_file file.number number)) files

-- a file was added to those that are known
pub record IsAdded (old new : List KnownFile) (name : List ℕ) (number : FileNumber) : Type 0 where
  pub file : KnownFile
  pub name_is : file.name.items ≡ name
  pub number_is : file.number ≡ number
  pub added : new ≡ old ++ file ∷ []
