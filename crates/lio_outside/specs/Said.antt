-- What an answer of `say` shows.
use Rattle.std.specs.Prelude.{◌≡◌, ℕ, List, ◌++◌, take, Option}
use Rattle.std.specs.Option.{option_map}

-- what an output that tells its bytes tells once more are said; one that tells nothing still tells nothing
abbrev pub said_with : Option (List ℕ) → List ℕ → Option (List ℕ)
said_with told bytes = option_map (λ said. said ++ bytes) told

-- a first part of the bytes was said, none or all of them included
abbrev pub SaidPartly : Option (List ℕ) → Option (List ℕ) → List ℕ → Type 0
SaidPartly old new bytes = (n : ℕ) × (new ≡ said_with old (take n bytes))
