use Rattle.std.proofs.Common.{◌≡◌, bit_or}
use Rattle.lio_clauses.specs.declared.text.token.Token.TheVariants.{Or}
use Rattle.lio_clauses.specs.Token.{count_of}
use Rattle.lio_clauses.specs.FormulaText.{name_at, listed}
use Rattle.lio_clauses.specs.Cursor.{left, with_value, mask_of}
use Rattle.lio_clauses.proofs.ReadLemmas.{more_names}
use Rattle.lio_clauses.proofs.text.cursor.TokenCursor.names.Given as goal

-- the clause so far with the names to come is that of all names
abbrev pub invariant-names : goal.invariant-names
invariant-names l = with_value (λ ns. bit_or l.clause (mask_of ns)) (more_names (left l.cursor)) ≡ with_value mask_of (listed Or name_at (left l.fn.self))

abbrev pub decreases-names : goal.decreases-names
decreases-names l = count_of (left l.cursor)
