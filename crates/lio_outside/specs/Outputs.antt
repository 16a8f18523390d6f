-- Files that are kept one after another.
use Rattle.std.specs.Prelude.{◌≡◌, ℕ, List, [], ◌∷◌, ◌++◌, Option}
use Rattle.lio_outside.specs.FileMap.{FileMap}
use Rattle.lio_outside.specs.Keep.{told_with, PartlyKept}

-- a file that is written: its name and its bytes
pub record Output : Type 0 where
  pub name : List ℕ
  pub bytes : List ℕ

-- what a store tells once a file is kept
abbrev pub kept_one : Option FileMap → Output → Option FileMap
kept_one told output = told_with told output.name output.bytes

-- what a store tells once files are kept, one after another
abbrev pub kept : Option FileMap → List Output → Option FileMap
kept told [] = told
kept told (output ∷ outputs) = kept (kept_one told output) outputs

-- The file with a name couldn't be written: the files before it are whole, it is as before or holds a first part of its bytes, and all others are as before.
pub record StopsAt (told now : Option FileMap) (files : List Output) (name : List ℕ) : Type 0 where
  pub before : List Output
  pub output : Output
  pub after : List Output
  pub files_are : files ≡ before ++ output ∷ after
  pub name_is : name ≡ output.name
  pub partly : PartlyKept (kept told before) now output.name output.bytes

-- a first part of the files is whole, none or all of them included, and all others are as before
pub record KeepsFirst (told now : Option FileMap) (files : List Output) : Type 0 where
  pub before : List Output
  pub after : List Output
  pub files_are : files ≡ before ++ after
  pub first : now ≡ kept told before
