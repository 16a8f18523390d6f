use Rattle.std.proofs.Common.{◌≡◌, ◌<◌, true, get_or, length}
use Rattle.lio_clauses.specs.Bits.{mask_before}
use Rattle.lio_clauses.proofs.reduce.place_of.Given as goal

abbrev pub invariant-loop-i : goal.invariant-loop-i
invariant-loop-i l = l.i < length l.kept → mask_before l.clause (get_or l.kept l.i 0) ≡ true
