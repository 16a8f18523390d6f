use Rattle.std.proofs.Common.{◌<◌, IsOk}
use Rattle.lio_policy.specs.Verdict.{policy_of}
use Rattle.lio_bench.proofs.policies.read_times.Given as goal

-- a policy that was read is one
abbrev pub invariant-loop : goal.invariant-loop
invariant-loop l = 0 < l.counter → IsOk (policy_of l.bytes)
