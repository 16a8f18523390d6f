use Rattle.std.proofs.Common.{◌≡◌, take}
use Rattle.lio_rounds.specs.Acted.{lent}
use Rattle.lio_rounds.proofs.logs.copies.Given as goal

-- the entries so far were copied
abbrev pub invariant-loop-entry : goal.invariant-loop-entry
invariant-loop-entry l = l.copies.items ≡ lent (take l.entry-index l.entries)
