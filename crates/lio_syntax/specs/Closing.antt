-- Where blocks end: the place of a line is its number, from 0.
use Rattle.std.specs.Prelude.{◌≡◌, ℕ, suc, ◌≤◌, IsTrue, List, [], ◌∷◌, drop, length}
use Rattle.lio_syntax_lines.specs.declared.line.Line.{Line}
use Rattle.lio_syntax_lines.specs.declared.line.Line.TheVariants as line
use Rattle.lio_syntax.specs.Behind.{Behind, Outside, Block, First, Tried, behind}
use Rattle.lio_syntax.specs.OpenBlocks.{are_placed}

-- the places at which the blocks end that are open before a line
abbrev pub ends_before : ℕ → Line → List ℕ → List ℕ
ends_before at (line.Proc name parameters) ends = drop 1 ends
ends_before at (line.If a) ends = drop 1 ends
ends_before at line.Else ends = at ∷ drop 1 ends
ends_before at (line.While a) ends = drop 1 ends
ends_before at line.Try ends = drop 1 ends
ends_before at (line.Catch x y) ends = at ∷ drop 1 ends
ends_before at line.End ends = at ∷ ends
ends_before at (line.Do simple) ends = ends

-- the same before lines of which the first stands at a place, the innermost first; `else` and `catch` end a block and begin another
unfoldable pub block_ends : ℕ → List Line → List ℕ
block_ends at [] = []
block_ends at (line ∷ lines) = ends_before at line (block_ends (suc at) lines)

-- the first of these
abbrev pub first_of : List ℕ → ℕ
first_of [] = 0
first_of (place ∷ places) = place

-- where the innermost block ends that is open behind each of the lines
unfoldable pub ends_behind : ℕ → List Line → List ℕ
ends_behind at [] = []
ends_behind at (line ∷ lines) = first_of (block_ends (suc at) lines) ∷ ends_behind (suc at) lines

-- where the innermost block ends that is open before the line at a place
abbrev pub end_of : List Line → ℕ → ℕ
end_of lines at = first_of (block_ends at (drop at lines))

-- what stands behind the end of the innermost block
abbrev pub outside : Behind → Behind
outside (Outside procedures) = Outside procedures
outside (Block block k) = k
outside (First block other k) = Block other k
outside (Tried block x y handler k) = Block handler k

-- one stands in a block
abbrev pub IsInside : Behind → Type 0
IsInside (Outside procedures) = ⊥
IsInside (Block block k) = Unit {0}
IsInside (First block other k) = Unit {0}
IsInside (Tried block x y handler k) = Unit {0}

-- behind the line at which a block ends stands what stands behind the block
abbrev pub EndIsBehindBlock : Type 0
EndIsBehindBlock = (lines : List Line) (at : ℕ) → IsTrue (are_placed lines) → at ≤ length lines → IsInside (behind (drop at lines))
    → behind (drop (suc (end_of lines at)) lines) ≡ outside (behind (drop at lines))
