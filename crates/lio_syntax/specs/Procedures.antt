-- What a table of the procedures of a script holds.
use Rattle.std.specs.Prelude.{◌≡◌, ℕ, ◌<◌, ◌^◌, List, length, map}
use Rattle.lio_syntax_lines.specs.declared.line.Line.{Line}
use Rattle.lio_syntax.specs.declared.procedures.Procedures.{Procedures}
use Rattle.lio_syntax.specs.Beginnings.{Beginning, beginnings, number_in}
use Rattle.lio_syntax.specs.Headers.{count_in}

-- the table holds these procedures, each by its name and its number
pub record Holds (table : Procedures) (begun : List Beginning) : Type 0 where
  pub numbers : (name : List ℕ) → count_in table.numbers name ≡ number_in begun name
  pub few : length table.places.items < 2 ^ 32
  pub places : table.places.items ≡ map (λ beginning. beginning.at) begun

-- the table holds the procedures that these lines begin
abbrev pub Lists : Procedures → List Line → Type 0
Lists table lines = Holds table (beginnings 0 lines)
