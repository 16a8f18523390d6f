-- The files that a run writes, and the first whose name is taken.
use Rattle.std.specs.Prelude.{ℕ, Bool, ◌||◌, List, [], ◌++◌, map, bytes_eq, Option}
use Rattle.std.specs.List.{list_any}
use Rattle.lio_outside.specs.Taken.{first_taken, is_among}
use Rattle.lio_policy.specs.declared.policy.Policy.{Policy}
use Rattle.lio_policy.specs.declared.policy.FileEntry.{FileEntry}

-- whether one of these channels or inputs has this file
abbrev pub has_file : List FileEntry → List ℕ → Bool
has_file entries name = list_any (λ entry. bytes_eq name entry.file) entries

-- whether a run reads this file: one of these or an input
abbrev pub is_read : List (List ℕ) → Policy → List ℕ → Bool
is_read read policy name = is_among read name || has_file policy.inputs name

-- the names that a run writes, in their order: the channels' files and then these
abbrev pub names_written : Policy → List (List ℕ) → List (List ℕ)
names_written policy written = map (λ channel. channel.file) policy.channels ++ written

-- the first file that is written, of the channels in their order and then of these, whose name is that of a file that is read, or of one that is written before
unfoldable pub clash : Policy → List (List ℕ) → List (List ℕ) → Option (List ℕ)
clash policy written read = first_taken (is_read read policy) [] (names_written policy written)
