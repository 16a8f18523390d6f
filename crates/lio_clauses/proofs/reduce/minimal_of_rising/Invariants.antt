use Rattle.lio_clauses.specs.Bits.{KeepsMinimal}
use Rattle.lio_clauses.proofs.Rising.{CoversFirst}
use Rattle.lio_clauses.proofs.reduce.minimal_of_rising.Given as goal

abbrev pub invariant-clauses : goal.invariant-clauses
invariant-clauses l = KeepsMinimal l.clauses l.kept.items × CoversFirst l.kept.items l.clauses l.clause-index
