use Rattle.std.proofs.Common.{get_or}
use Rattle.std.proofs.lemmas.List.{get_or_default}
use Rattle.lio_policy.specs.declared.flows.MayFlow.{MayFlow}
use Rattle.lio_policy.specs.declared.flows.MayFlow.TheVariants.{Never}
use Rattle.lio_ask_main.specs.Explained.{flow_item}
use Rattle.lio_ask_main.proofs.ExplainedLemmas.{items-push}
use Rattle.lio_ask_main.proofs.explain.flows.print_flows.Goals as goal

pub loop-place-preserved : goal.loop-place-preserved
loop-place-preserved c =
    let flow : MayFlow = get_or c.args.row.now c.loop-place.place Never in
    items-push flow_item c.args.row.now c.loop-place.place flow c.args.out.now.items c.loop-place.out.items c.print_flow.new.out.items c.loop-place-test.true
    (get_or_default c.args.row.now c.loop-place.place Never flow c.loop-place-test.true) c.loop-place.invariant c.in_ok-print_flow.ensures
