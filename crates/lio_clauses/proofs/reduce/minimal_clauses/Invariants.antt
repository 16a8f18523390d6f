use Rattle.std.proofs.Common.{[], take}
use Rattle.lio_clauses.proofs.Merged.{Merges}
use Rattle.lio_clauses.proofs.reduce.minimal_clauses.Given as goal

abbrev pub invariant-lefts : goal.invariant-lefts
invariant-lefts l = Merges l.left l.right (take l.clause-index l.left) [] l.kept.items

abbrev pub invariant-rights : goal.invariant-rights
invariant-rights l = Merges l.left l.right l.left (take l.clause-index l.right) l.kept.items
