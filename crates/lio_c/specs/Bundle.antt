-- Words and files as bytes, and why bytes are none.
use Rattle.std.specs.Prelude.{◌≡◌, ℕ, ◌+◌, List, [], ◌∷◌, Some, Result, Ok, Err, slice_get, if◌then◌else◌}
use Rattle.std.specs.Option.{is_some}
use Rattle.std.specs.Str.{IsUtf8}
use Rattle.lio_outside.specs.FileMap.{FileMap, bytes_of, no_files, with_file}
use Rattle.lio_c.specs.Netstrings.{BreaksAt, netstrings}
use Rattle.lio_c.specs.declared.refusal.Refusal.{Refusal}
use Rattle.lio_c.specs.declared.refusal.Refusal.TheVariants.{WordsBroken, WordNotText, FilesBroken, FileAlone, FileTwice, NoMemory}

-- files with those of names and bytes in turn, of which the first name has the number; or the first name that has no bytes behind it, or that a file has already
abbrev pub filed : ℕ → FileMap → List (List ℕ) → Result FileMap Refusal
filed number files [] = Ok files
filed number files (name ∷ []) = Err (FileAlone number)
filed number files (name ∷ bytes ∷ items) = if is_some (bytes_of files name) then Err (FileTwice number) else filed (number + 2) (with_file files name bytes) items

-- bytes are the netstrings of names and bytes in turn, which are these files
pub record AreFiles (bytes : List ℕ) (files : FileMap) : Type 0 where
  pub items : List (List ℕ)
  pub bytes_are : bytes ≡ netstrings items
  pub files_are : filed 0 no_files items ≡ Ok files

-- the word with the number isn't text
pub record IsNoText (words : List (List ℕ)) (number : ℕ) : Type 0 where
  pub word : List ℕ
  pub at : slice_get words number ≡ Some word
  pub none : IsUtf8 word → ⊥

-- why words aren't text
abbrev pub WordsRefuse : List (List ℕ) → Refusal → Type 0
WordsRefuse words (WordNotText number) = IsNoText words number
WordsRefuse words NoMemory = Unit {0}
WordsRefuse words other = ⊥

-- why names and bytes in turn aren't files
abbrev pub FilesRefuse : List (List ℕ) → Refusal → Type 0
FilesRefuse items (FileAlone number) = filed 0 no_files items ≡ Err (FileAlone number)
FilesRefuse items (FileTwice number) = filed 0 no_files items ≡ Err (FileTwice number)
FilesRefuse items NoMemory = Unit {0}
FilesRefuse items other = ⊥

-- Why no call is made by bytes of words and of files. Broken: they are netstrings up to the place alone. WordNotText: the word with the number isn't UTF-8. FileAlone: the name with the number has no bytes
-- behind it. FileTwice: so has a file before it that name. NoMemory: memory was refused.
abbrev pub IsRefusal : List ℕ → List ℕ → Refusal → Type 0
IsRefusal words files (WordsBroken place) = BreaksAt words place
IsRefusal words files (WordNotText number) = (items : List (List ℕ)) × (words ≡ netstrings items) × IsNoText items number
IsRefusal words files (FilesBroken place) = BreaksAt files place
IsRefusal words files (FileAlone number) = (items : List (List ℕ)) × (files ≡ netstrings items) × (filed 0 no_files items ≡ Err (FileAlone number))
IsRefusal words files (FileTwice number) = (items : List (List ℕ)) × (files ≡ netstrings items) × (filed 0 no_files items ≡ Err (FileTwice number))
IsRefusal words files NoMemory = Unit {0}
