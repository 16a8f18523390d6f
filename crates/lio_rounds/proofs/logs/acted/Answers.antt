use Rattle.std.proofs.Common.{◌∙◌, ◌+◌, ◌++◌, ap, subst, List, All, drop}
use Rattle.std.proofs.lemmas.List.Elements.{All-more}
use Rattle.lio_values.specs.declared.entry.Entry.{Entry}
use Rattle.lio_cells.specs.Node.{IsKept}
use Rattle.lio_task.specs.declared.config.Holder.{Holder}
use Rattle.lio_rounds.specs.Acted.{acted_from, acted_in, lent}
use Rattle.lio_rounds.proofs.MergeLemmas.{acted-next, kept-all}
use Rattle.lio_rounds.proofs.logs.acted.Goals as goal

pub loop-n-preserved : goal.loop-n-preserved
loop-n-preserved c =
    let holders = c.deref-holder-items.result.now in let n = c.loop-n.n in let holder = c.holder-item.result in
    record {
      entries = ap (λ (entries : List Entry). entries ++ acted_from (n + 1) (drop (n + 1) holders)) (c.in_ok-add_acted.ensures ∙ ap (λ (log : List Entry). lent c.loop-n.entries.items ++ acted_in n log) c.log.ensures.log)
          ∙ acted-next holders n holder (lent c.loop-n.entries.items) (acted_from 0 holders) c.loop-n-test.true c.holder-item.is c.loop-n.invariant.entries;
      kept = All-more (λ (h : Holder). IsKept h.node) holders n holder c.loop-n-test.true c.loop-n.invariant.kept (subst (λ (h : Holder). IsKept h.node) c.holder-item.is c.log.ensures.kept);
    }

pub returns-clause-kept : goal.returns-clause-kept
returns-clause-kept c =
    subst (All (λ (h : Holder). IsKept h.node)) c.deref-holder-items.ensures.value (kept-all c.deref-holder-items.result.now c.loop-n.n c.loop-n-test.false c.loop-n.invariant.kept)
