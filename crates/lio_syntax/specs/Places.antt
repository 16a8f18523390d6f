-- Where a task goes on behind what stands at a place in a script, and where a fault in it is caught. A place is the number of a line, from 0.
use Rattle.std.specs.Prelude.{ℕ, zero, suc, ◌+◌, List, [], ◌∷◌, ◌++◌, drop, Option, Some, None, slice_get}
use Rattle.lio_syntax_lines.specs.declared.line.Line.{Line}
use Rattle.lio_syntax_lines.specs.declared.line.Line.TheVariants as line
use Rattle.lio_syntax.specs.Closing.{end_of}
-- where one goes on, and where a fault is caught
pub use Rattle.lio_syntax.specs.declared.places.Place.{Place}

-- a place, where its line says `else`
abbrev pub if_else : ℕ → Option Line → Option ℕ
if_else place (Some line.Else) = Some place
if_else place line = None

-- the place of the `else` of the `if` at a place
unfoldable pub else_at : List Line → ℕ → Option ℕ
else_at lines at = if_else (end_of lines (at + 1)) (slice_get lines (end_of lines (at + 1)))

-- the place behind the `end` of an `if` with that `else`
abbrev pub behind_else : List Line → ℕ → Option ℕ → ℕ
behind_else lines at None = end_of lines (at + 1) + 1
behind_else lines at (Some place) = end_of lines (place + 1) + 1

-- the block of an `else`
abbrev pub block_of_else : Option ℕ → Option ℕ
block_of_else None = None
block_of_else (Some place) = Some (place + 1)

-- the place behind the statement that a line begins, or behind the handler of a `catch`
abbrev pub next_by : Line → List Line → ℕ → ℕ
next_by (line.Do simple) lines at = at + 1
next_by (line.If a) lines at = behind_else lines at (else_at lines at)
next_by (line.While a) lines at = end_of lines (at + 1) + 1
next_by line.Try lines at = end_of lines (end_of lines (at + 1) + 1) + 1
next_by (line.Catch x y) lines at = end_of lines (at + 1) + 1
next_by (line.Proc name parameters) lines at = at
next_by line.Else lines at = at
next_by line.End lines at = at

-- where a block ends one goes on behind it
abbrev pub settled_by : Option Line → ℕ → ℕ → ℕ
settled_by (Some line.Else) at exit = exit
settled_by (Some line.End) at exit = exit
settled_by line at exit = at

unfoldable pub settled : List Line → ℕ → ℕ → ℕ
settled lines at exit = settled_by (slice_get lines at) at exit

-- the first of these
abbrev pub first_place : List Place → Place
first_place [] = record { behind = 0; handler = 0 }
first_place (place ∷ places) = place

-- where one goes on behind what a line begins in a block; at the end of the block, behind it
abbrev pub place_in : Line → List Line → ℕ → Place → Place
place_in line lines at block = record { behind = settled lines (next_by line lines at) block.behind; handler = block.handler }

-- the same in blocks, the innermost first; what stands behind a handler lies in the block around its `try`
abbrev pub place_by : Line → List Line → ℕ → List Place → Place
place_by (line.Proc name parameters) lines at blocks = record { behind = at; handler = at }
place_by (line.Catch x y) lines at blocks = record { behind = settled lines (end_of lines (at + 1) + 1) (first_place (drop 1 blocks)).behind; handler = at }
place_by line lines at blocks = place_in line lines at (first_place blocks)

-- the same for the blocks that are open behind a line, the innermost first: behind the block of a `while` comes the `while`, and behind the one of a `try` the `catch`
abbrev pub blocks_by : Line → List Line → ℕ → List Place → List Place
blocks_by (line.Proc name parameters) lines at blocks = record { behind = end_of lines (at + 1); handler = end_of lines (at + 1) } ∷ blocks
blocks_by (line.If a) lines at blocks = place_by (line.If a) lines at blocks ∷ blocks
blocks_by line.Else lines at blocks = blocks
blocks_by (line.While a) lines at blocks = record { behind = at; handler = (first_place blocks).handler } ∷ blocks
blocks_by line.Try lines at blocks = record { behind = end_of lines (at + 1); handler = end_of lines (at + 1) } ∷ blocks
blocks_by (line.Catch x y) lines at blocks =
    record { behind = settled lines (end_of lines (at + 1) + 1) (first_place (drop 1 blocks)).behind; handler = (first_place (drop 1 blocks)).handler } ∷ drop 1 blocks
blocks_by line.End lines at blocks = drop 1 blocks
blocks_by (line.Do simple) lines at blocks = blocks

abbrev pub blocks_behind : Option Line → List Line → ℕ → List Place → List Place
blocks_behind None lines at blocks = blocks
blocks_behind (Some line) lines at blocks = blocks_by line lines at blocks

-- the same for those that are open before the line at a place
unfoldable pub blocks_at : List Line → ℕ → List Place
blocks_at lines zero = []
blocks_at lines (suc at) = blocks_behind (slice_get lines at) lines at (blocks_at lines at)

abbrev pub place_or : Option Line → List Line → ℕ → List Place → Place
place_or None lines at blocks = record { behind = at; handler = at }
place_or (Some line) lines at blocks = place_by line lines at blocks

-- where one goes on behind what begins at a place
unfoldable pub place_at : List Line → ℕ → Place
place_at lines at = place_or (slice_get lines at) lines at (blocks_at lines at)

-- the same for each of the first lines
unfoldable pub places_to : List Line → ℕ → List Place
places_to lines zero = []
places_to lines (suc at) = places_to lines at ++ place_at lines at ∷ []
