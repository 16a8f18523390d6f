use Rattle.std.proofs.Common.{◌≡◌, ℕ, List, length}
use Rattle.lio_syntax.specs.Headers.{count_in}
use Rattle.lio_syntax.specs.Rules.{or_else, parameters_of}
use Rattle.lio_syntax.specs.Verdict.{parsed_lines}
use Rattle.lio_syntax.proofs.read.read_headers.Given as goal

-- the procedures so far, and those of the lines that are left
abbrev pub invariant-lines : goal.invariant-lines
invariant-lines l = (names : List (List ℕ)) (q : List ℕ) → parameters_of (parsed_lines names l.fn.bytes) q ≡ or_else (count_in l.headers q) (parameters_of (parsed_lines names l.rest) q)

abbrev pub decreases-lines : goal.decreases-lines
decreases-lines l = length l.rest
