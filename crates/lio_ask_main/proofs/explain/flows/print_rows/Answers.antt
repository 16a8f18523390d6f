use Rattle.lio_ask_main.specs.Explained.{row_item}
use Rattle.lio_ask_main.proofs.ExplainedLemmas.{items-push}
use Rattle.lio_ask_main.proofs.explain.flows.print_rows.Goals as goal

pub loop-place-preserved : goal.loop-place-preserved
loop-place-preserved c =
    items-push row_item c.args.rows.now c.loop-place.place c.index-rows-place.result c.args.out.now.items c.loop-place.out.items c.print_row.new.out.items c.loop-place-test.true c.index-rows-place.is c.loop-place.invariant
    c.in_ok-print_row.ensures
