use Rattle.std.proofs.Common.{◌≡◌, ◌++◌, drop, List}
use Rattle.lio_syntax.specs.Beginnings.{Beginning, beginnings}
use Rattle.lio_syntax.specs.Procedures.{Holds}
use Rattle.lio_syntax.proofs.procedures.Procedures.of.Given as goal

-- the table holds the procedures so far, and with those that are left they are all
abbrev pub invariant-loop-at : goal.invariant-loop-at
invariant-loop-at l = (begun : List Beginning) × Holds l.procedures begun × (begun ++ beginnings l.at (drop l.at l.lines) ≡ beginnings 0 l.lines)
