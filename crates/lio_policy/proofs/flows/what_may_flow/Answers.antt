use Rattle.std.proofs.Common.{◌∙◌, ap, map}
use Rattle.lio_policy.specs.Flows.{may_flow}
use Rattle.lio_policy.specs.Policy.{PolicyParts}
use Rattle.lio_policy.proofs.FlowLemmas.{rows-more}
use Rattle.lio_policy.proofs.flows.what_may_flow.Goals as goal

pub loop-channel-preserved : goal.loop-channel-preserved
loop-channel-preserved c =
    rows-more (λ channel. map (λ input. may_flow c.args.policy.now input channel) c.args.policy.now.inputs) c.as_slice-channel-items.result.now c.args.policy.now.channels c.loop-channel.channel-index
    c.channel-item.result c.loop-channel.rows c.push.new.self c.in_ok-row.field-0 (c.as_slice-channel-items.ensures ∙ ap (λ (p : PolicyParts). p.channels) c.policy.view_is) c.loop-channel-test.true
    c.channel-item.is c.loop-channel.invariant c.in_ok-row.ensures c.in_ok-push.ensures.ok
