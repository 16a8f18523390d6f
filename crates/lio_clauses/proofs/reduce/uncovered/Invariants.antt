use Rattle.std.proofs.Common.{◌≡◌, not, take}
use Rattle.std.specs.List.{filter}
use Rattle.lio_clauses.specs.Bits.{covers}
use Rattle.lio_clauses.proofs.reduce.uncovered.Given as goal

abbrev pub invariant-clauses : goal.invariant-clauses
invariant-clauses l = l.kept.items ≡ filter (λ clause. not (covers l.power clause)) (take l.clause-index l.clauses)
