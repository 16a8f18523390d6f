use Rattle.std.proofs.Common.{List, map, take, ◌+◌, subst, sym}
use Rattle.lio_task.specs.declared.config.Holder.{Holder}
use Rattle.lio_start.specs.Start.{channel_cell}
use Rattle.lio_start.specs.Making.{Adds}
use Rattle.lio_start.proofs.MakingLemmas.{adds-none, no-logs-push, channels-next, channels-end}
use Rattle.lio_start.proofs.holders.add_channels.Goals as goal

pub loop-entry-init : goal.loop-entry-init
loop-entry-init c = record { adds = λ script. adds-none script c.args.holders.now.items; fresh = λ none. none }

pub loop-entry-preserved : goal.loop-entry-preserved
loop-entry-preserved c = record {
  adds = λ script.
      subst (λ (after : List Holder). Adds script c.args.holders.now.items after (map channel_cell (take (c.loop-entry.entry-index + 1) c.args.channels.now))) (sym {A = List Holder} c.in_ok-push.ensures.items)
      (channels-next script c.args.holders.now.items c.loop-entry.holders.items c.args.channels.now c.loop-entry.entry-index c.entry-item.result c.in_ok-channel.field-0
      c.loop-entry-test.true c.entry-item.is (c.in_ok-channel.ensures.cell script) (c.loop-entry.invariant.adds script));
  fresh = λ none. no-logs-push c.loop-entry.holders.items c.in_ok-channel.field-0 _ c.in_ok-push.ensures.items (c.loop-entry.invariant.fresh none) c.in_ok-channel.ensures.fresh;
}

pub returns-clause-adds : goal.returns-clause-adds
returns-clause-adds c = λ script. channels-end script c.args.holders.now.items c.loop-entry.holders.items c.args.channels.now c.loop-entry.entry-index c.loop-entry-test.false (c.loop-entry.invariant.adds script)
