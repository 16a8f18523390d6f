use Rattle.std.proofs.Common.{◌≡◌, map, take}
use Rattle.lio_policy.specs.Flows.{may_flow}
use Rattle.lio_policy.proofs.flows.what_may_flow.Given as goal

-- the rows of the channels so far
abbrev pub invariant-loop-channel : goal.invariant-loop-channel
invariant-loop-channel l = l.rows ≡ map (λ channel. map (λ input. may_flow l.policy input channel) l.policy.inputs) (take l.channel-index l.policy.channels)
