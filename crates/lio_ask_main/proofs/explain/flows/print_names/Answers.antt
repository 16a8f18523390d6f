use Rattle.lio_ask_main.specs.Explained.{name_item}
use Rattle.lio_ask_main.proofs.ExplainedLemmas.{items-push}
use Rattle.lio_ask_main.proofs.explain.flows.print_names.Goals as goal

pub loop-place-preserved : goal.loop-place-preserved
loop-place-preserved c =
    items-push name_item c.args.entries.now c.loop-place.place c.index-entries-place.result c.args.out.now.items c.loop-place.out.items c.print_name.new.out.items c.loop-place-test.true c.index-entries-place.is c.loop-place.invariant
    c.in_ok-print_name.ensures
