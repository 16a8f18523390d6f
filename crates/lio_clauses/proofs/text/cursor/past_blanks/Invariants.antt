use Rattle.std.proofs.Common.{◌≡◌, ◌+◌, ◌<◌, ◌^◌, ℕ, List, length}
use Rattle.lio_clauses.specs.Token.{tokens}
use Rattle.lio_clauses.proofs.text.cursor.past_blanks.Given as goal

-- the tokens from here on are those from the beginning on
abbrev pub invariant-loop-rest : goal.invariant-loop-rest
invariant-loop-rest l = ((names : List (List ℕ)) → tokens names l.at 0 l.rest ≡ tokens names l.fn.place 0 l.fn.bytes) × (l.at + length l.rest < 2 ^ 64)

abbrev pub decreases-loop-rest : goal.decreases-loop-rest
decreases-loop-rest l = length l.rest
