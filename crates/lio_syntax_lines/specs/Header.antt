-- The procedures that lines begin and call.
use Rattle.std.specs.Prelude.{ℕ, List, length, Option, Some, None}
use Rattle.lio_syntax_lines.specs.declared.line.Simple.{Simple}
use Rattle.lio_syntax_lines.specs.declared.line.Simple.TheVariants.{Call, Fork, Spawn}
use Rattle.lio_syntax_lines.specs.declared.line.Line.{Line}
use Rattle.lio_syntax_lines.specs.declared.line.Line.TheVariants as line
use Rattle.lio_syntax_lines.specs.declared.line.ParsedLine.{ParsedLine}
use Rattle.lio_syntax_lines.specs.declared.line.ParsedLine.TheVariants.{Blank, Invalid, Says}

-- a procedure's name with a number: of its parameters, or of the arguments that it is given
pub record Signature : Type 0 where
  pub name : List ℕ
  pub count : ℕ

-- that of a name and parameters
abbrev pub signature : (List ℕ × List (List ℕ)) → Signature
signature p = record { name = p.0; count = length p.1 }

-- the procedure that a line begins, with the number of its parameters
abbrev pub header_of : Line → Option Signature
header_of (line.Proc name parameters) = Some (record { name = name; count = length parameters })
header_of (line.If a) = None
header_of line.Else = None
header_of (line.While a) = None
header_of line.Try = None
header_of (line.Catch x y) = None
header_of line.End = None
header_of (line.Do simple) = None

abbrev pub parsed_header : ParsedLine → Option Signature
parsed_header Blank = None
parsed_header Invalid = None
parsed_header (Says line) = header_of line

-- the procedure that a statement calls, forks or spawns, with the number of arguments
abbrev pub call_of : Simple → Option Signature
call_of (Call x p arguments) = Some (record { name = p; count = length arguments })
call_of (Fork x l t c p arguments) = Some (record { name = p; count = length arguments })
call_of (Spawn t c p arguments) = Some (record { name = p; count = length arguments })
call_of simple = None

-- the procedure that a line calls, forks or spawns
abbrev pub line_call : Line → Option Signature
line_call (line.Do simple) = call_of simple
line_call (line.Proc name parameters) = None
line_call (line.If a) = None
line_call line.Else = None
line_call (line.While a) = None
line_call line.Try = None
line_call (line.Catch x y) = None
line_call line.End = None
