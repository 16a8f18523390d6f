use Rattle.std.proofs.Common.{List, ◌≡◌, ◌+◌, ℕ, subst, sym, arith}
use Rattle.std.specs.Prelude.{replicate}
use Rattle.lio_calculus.specs.Step.{blank}
use Rattle.lio_task.specs.declared.config.Holder.{Holder}
use Rattle.lio_start.specs.Making.{Adds}
use Rattle.lio_start.proofs.MakingLemmas.{adds-none, free-next, no-logs-push}
use Rattle.lio_start.proofs.holders.add_free.Goals as goal

pub loop-n-init : goal.loop-n-init
loop-n-init c = record { adds = λ script. adds-none script c.args.holders.now.items; fresh = λ none. none }

pub loop-n-preserved : goal.loop-n-preserved
loop-n-preserved c = record {
  adds = λ script.
      subst (λ (after : List Holder). Adds script c.args.holders.now.items after (replicate (c.loop-n._n + 1) blank)) (sym {A = List Holder} c.in_ok-push.ensures.items)
      (free-next script c.args.holders.now.items c.loop-n.holders.items c.loop-n._n c.free.result (c.free.ensures.cell script) (c.loop-n.invariant.adds script));
  fresh = λ none. no-logs-push c.loop-n.holders.items c.free.result _ c.in_ok-push.ensures.items (c.loop-n.invariant.fresh none) c.free.ensures.fresh;
}

pub returns-clause-adds : goal.returns-clause-adds
returns-clause-adds c = λ script.
    let all : c.loop-n._n ≡ c.args.count = omega arith in
    subst (λ (n : ℕ). Adds script c.args.holders.now.items c.loop-n.holders.items (replicate n blank)) all (c.loop-n.invariant.adds script)
