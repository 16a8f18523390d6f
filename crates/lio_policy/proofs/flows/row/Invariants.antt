use Rattle.std.proofs.Common.{◌≡◌, map, take}
use Rattle.lio_policy.specs.Flows.{may_flow}
use Rattle.lio_policy.proofs.flows.row.Given as goal

-- the answers for the inputs so far
abbrev pub invariant-loop-input : goal.invariant-loop-input
invariant-loop-input l = l.flows ≡ map (λ input. may_flow l.policy input l.channel) (take l.input-index l.policy.inputs)
