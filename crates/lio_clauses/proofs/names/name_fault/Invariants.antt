use Rattle.std.proofs.Common.{◌≡◌, ◌≤◌, drop}
use Rattle.lio_clauses.specs.Names.{bad_place, name_fault}
use Rattle.lio_clauses.proofs.names.name_fault.Given as goal

-- what stands before the place may stand there
abbrev pub invariant-loop-place : goal.invariant-loop-place
invariant-loop-place l = (l.place ≤ 32) × (bad_place l.place (drop l.place l.name) ≡ name_fault l.name)
