use Rattle.std.proofs.Common.{All}
use Rattle.lio_rows_fields.specs.Turns.{CanPrintValue}
use Rattle.lio_rows_fields.proofs.values.values.Given as goal

-- each principal in the values so far has a name
abbrev pub invariant-loop : goal.invariant-loop
invariant-loop l = All (CanPrintValue l.names) l.values
