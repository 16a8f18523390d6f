use Rattle.std.proofs.Common.{codes}
use Rattle.lio_clauses.proofs.PrintLemmas.{Printed, names_below}
use Rattle.lio_clauses.proofs.text.print.append_names.Given as goal

-- the principals below the number are printed
abbrev pub invariant-loop-n : goal.invariant-loop-n
invariant-loop-n l = Printed (codes " \\/ ") (names_below l.names l.clause l.n) l.first l.fn.text.items l.text.items
