use Rattle.std.proofs.Common.{codes, map, take, ◌==◌}
use Rattle.lio_clauses.proofs.PrintLemmas.{Printed, mask_text}
use Rattle.lio_clauses.proofs.text.print.append_formula.Given as goal

-- the clauses before the place are printed
abbrev pub invariant-loop-place : goal.invariant-loop-place
invariant-loop-place l = Printed (codes " /\\ ") (map (mask_text l.names) (take l.place l.clauses)) (l.place == 0) l.fn.text.items l.text.items
