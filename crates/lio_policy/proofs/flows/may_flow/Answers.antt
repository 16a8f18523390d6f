use Rattle.std.proofs.Common.{◌∙◌, ap, sym, cond}
use Rattle.lio_policy.specs.declared.flows.MayFlow.TheVariants.{OnlyByPrivilege, Never}
use Rattle.lio_policy.proofs.FlowLemmas.{answers-may, answers-else}
use Rattle.lio_policy.proofs.flows.may_flow.Goals as goal

pub returns-then-flows : goal.returns-then-flows
returns-then-flows c = answers-may c.args.policy.now c.args.input.now c.args.channel.now c.flows.result c.flows.ensures.test c.if-flows.true

pub returns-then-branch : goal.returns-then-branch
returns-then-branch c =
    ap (λ all. cond all OnlyByPrivilege Never) (sym c.if-branch.true)
    ∙ answers-else c.args.policy.now c.args.input.now c.args.channel.now c.flows.result c.in_ok-flows_by_privilege.field-0 c.flows.ensures.test c.if-flows.false c.in_ok-flows_by_privilege.ensures

pub returns : goal.returns
returns c =
    ap (λ all. cond all OnlyByPrivilege Never) (sym c.if-branch.false)
    ∙ answers-else c.args.policy.now c.args.input.now c.args.channel.now c.flows.result c.in_ok-flows_by_privilege.field-0 c.flows.ensures.test c.if-flows.false c.in_ok-flows_by_privilege.ensures
