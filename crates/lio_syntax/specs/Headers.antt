-- What a table of procedures holds.
use Rattle.std.specs.Prelude.{◌≡◌, ℕ, List, bytes_eq, Option}
use Rattle.std.specs.Map.{lookup}
use Rattle.lio_syntax_lines.specs.declared.line.ParsedLine.{ParsedLine}
use Rattle.lio_syntax.specs.declared.headers.Headers.{Headers}
use Rattle.lio_syntax.specs.Rules.{parameters_of}

-- the number of parameters of the procedure with this name
abbrev pub count_in : Headers → List ℕ → Option ℕ
count_in headers name = lookup (λ key. bytes_eq name key.items) headers.counts.entries

-- the table holds the procedures that these lines begin, each with the number of parameters in the first line that begins it
pub record Knows (headers : Headers) (lines : List ParsedLine) : Type 0 where
  pub same : (name : List ℕ) → count_in headers name ≡ parameters_of lines name
