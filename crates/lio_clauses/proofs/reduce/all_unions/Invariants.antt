use Rattle.std.proofs.Common.{◌≡◌, map, take, ◌++◌}
use Rattle.std.specs.Prelude.{bit_or}
use Rattle.lio_clauses.specs.Bits.{unions}
use Rattle.lio_clauses.proofs.reduce.all_unions.Given as goal

abbrev pub invariant-rights : goal.invariant-rights
invariant-rights l = l.clauses.items ≡ unions (take l.a-index l.left) l.right ++ map (bit_or l.a) (take l.b-index l.right)

abbrev pub invariant-lefts : goal.invariant-lefts
invariant-lefts l = l.clauses.items ≡ unions (take l.a-index l.left) l.right
