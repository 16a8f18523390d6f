-- How bytes are written in a line.
use Rattle.std.specs.Prelude.{ℕ, List, [], ◌∷◌, ◌==◌, if◌then◌else◌, codes}
use Rattle.std.specs.List.{flat_map}

-- a line end is written as "~n", a tab as "~t", "~" as "~7e", and each other byte as itself
abbrev pub byte_text : ℕ → List ℕ
byte_text b = if b == 10 then codes "~n" else (if b == 9 then codes "~t" else (if b == 126 then codes "~7e" else (b ∷ [])))

-- how bytes are written, one after another
abbrev pub escaped : List ℕ → List ℕ
escaped bs = flat_map byte_text bs
