use Rattle.std.proofs.Common.{◌≡◌, ◌++◌, take}
use Rattle.lio_rounds.specs.Acted.{acted_in, lent}
use Rattle.lio_rounds.proofs.logs.add_acted.Given as goal

-- the entries so far whose actor is the node were put last
abbrev pub invariant-loop-entry : goal.invariant-loop-entry
invariant-loop-entry l = lent l.entries.items ≡ lent l.initial.entries.items ++ acted_in l.n (take l.entry-index l.log)
