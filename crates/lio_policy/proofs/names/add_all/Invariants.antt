use Rattle.std.proofs.Common.{◌≡◌, ◌++◌, [], drop}
use Rattle.lio_policy_draft.specs.Converted.{first_failing}
use Rattle.lio_policy.specs.Rules.{behind, principal_fails}
use Rattle.lio_policy.proofs.names.add_all.Given as goal

-- the names so far stand before those that are left, and the first that fails is among these
abbrev pub invariant-loop-place : goal.invariant-loop-place
invariant-loop-place l =
    (l.names ++ drop l.place l.principals ≡ l.principals)
    × (first_failing l.place (behind principal_fails l.names (drop l.place l.principals)) ≡ first_failing 0 (behind principal_fails [] l.principals))
