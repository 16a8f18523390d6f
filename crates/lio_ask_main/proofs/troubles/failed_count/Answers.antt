use Rattle.std.proofs.Common.{◌∙◌, ◌≤◌, ◌+◌, sym, ap, subst, ℕ, cond, length}
use Rattle.std.specs.List.{count_by}
use Rattle.std.proofs.lemmas.List.{take_all}
use Rattle.lio_task.specs.Configuration.{cell_of}
use Rattle.lio_ask_main.specs.Troubles.{has_failed}
use Rattle.lio_ask_main.proofs.CountLemmas.{count-next, one-more}
use Rattle.lio_ask_main.proofs.troubles.failed_count.Goals as goal

pub loop-holder-preserved : goal.loop-holder-preserved
loop-holder-preserved c = record {
  count = λ script. c.with_one-count.ensures ∙ ap (λ (n : ℕ). n + cond c.has_failed.result 1 0) (c.loop-holder.invariant.count script)
      ∙ sym (count-next (λ holder. has_failed (cell_of script holder)) c.deref-holder-items.result.now c.args.config.now.holders.items c.loop-holder.holder-index c.holder-item.result c.has_failed.result c.deref-holder-items.ensures.value c.loop-holder-test.true c.holder-item.is
      (c.has_failed.ensures script));
  most = one-more c.with_one-count.result c.loop-holder.count c.loop-holder.holder-index c.has_failed.result c.with_one-count.ensures c.loop-holder.invariant.most;
}

pub returns : goal.returns
returns c = λ script.
    c.loop-holder.invariant.count script
    ∙ ap (count_by (λ holder. has_failed (cell_of script holder))) (take_all c.loop-holder.holder-index c.args.config.now.holders.items (subst (λ hs. length hs ≤ c.loop-holder.holder-index) c.deref-holder-items.ensures.value c.loop-holder-test.false))
