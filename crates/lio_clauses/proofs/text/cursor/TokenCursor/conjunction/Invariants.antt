use Rattle.lio_clauses.specs.declared.text.token.Token.TheVariants.{And}
use Rattle.lio_clauses.specs.Token.{count_of}
use Rattle.lio_clauses.specs.FormulaText.{clause_at, listed}
use Rattle.lio_clauses.specs.Cursor.{left}
use Rattle.lio_clauses.proofs.ReadLemmas.{ReadsOn}
use Rattle.lio_clauses.proofs.text.cursor.TokenCursor.conjunction.Given as goal

abbrev pub invariant-clauses : goal.invariant-clauses
invariant-clauses l = ReadsOn (listed And clause_at (left l.fn.self)) (left l.cursor) l.clauses

abbrev pub decreases-clauses : goal.decreases-clauses
decreases-clauses l = count_of (left l.cursor)
