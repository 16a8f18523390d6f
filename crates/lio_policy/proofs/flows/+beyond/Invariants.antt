use Rattle.std.proofs.Common.{◌≡◌, take}
use Rattle.std.specs.List.{flat_map}
use Rattle.lio_clauses.specs.Without.{without}
use Rattle.lio_policy.specs.Powers.{power_in}
use Rattle.lio_policy.specs.Flows.{clauses_of}
use Rattle.lio_policy.proofs.flows.+beyond.Given as goal

-- those beyond the arguments so far
abbrev pub invariant-beyond_arguments-loop-arg : goal.invariant-beyond_arguments-loop-arg
invariant-beyond_arguments-loop-arg l = l.left ≡ without l.formula (clauses_of (flat_map power_in (take l.arg-index l.args)))
