-- What an answer of a store's `fetch` shows.
use Rattle.std.specs.Prelude.{◌≡◌, ℕ, ◌+◌, ◌≤◌, List, take, Option, None, Some, IfSome, MatchOption}
use Rattle.std.specs.Option.{option_map}
use Rattle.lio_outside.specs.FileMap.{FileMap, bytes_of}
use Rattle.lio_outside.specs.Count.{Faults, FailedAt}

-- the first `limit + 1` bytes under a name, all where there are fewer, None where no file has that name
abbrev pub given : FileMap → List ℕ → ℕ → Option (List ℕ)
given files name limit = option_map (take (limit + 1)) (bytes_of files name)

-- a store that tells its files gave these bytes for a name; one that tells nothing may give any
abbrev pub IsGiven : Option FileMap → List ℕ → ℕ → List ℕ → Type 0
IsGiven told name limit bytes = IfSome told (λ files. given files name limit ≡ Some bytes)

-- a name was reported missing: it isn't there where the store tells its files, and else that is the last call that failed
abbrev pub IsMissing : Option FileMap → List ℕ → Faults → Faults → Type 0
IsMissing told name before now = MatchOption told (FailedAt name before now) (λ files. bytes_of files name ≡ None)

-- a name that was reported missing at the end of a part of the work was so in the whole, where the files stayed
abbrev pub MissingInPart : Type 0
MissingInPart = (told : Option FileMap) (name : List ℕ) (before start now : Faults) → before.count ≤ start.count → IsMissing told name start now → IsMissing told name before now
