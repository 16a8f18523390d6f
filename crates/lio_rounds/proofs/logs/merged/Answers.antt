use Rattle.std.proofs.Common.{◌≡◌, sym, subst, rules}
use Rattle.std.specs.Prelude.{Vec}
use Rattle.std.specs.declared.alloc.Global.{Global}
use Rattle.std.proofs.lemmas.List.Sorted.{IsNonDecreasingBy-from_sort_by_key}
use Rattle.std.proofs.lemmas.Result.{IfOk-weaker}
use Rattle.lio_values.specs.declared.entry.Entry.{Entry}
use Rattle.lio_calculus.specs.Journals.{IsMerged}
use Rattle.lio_task.specs.Logs.{log_in}
use Rattle.lio_rounds.specs.Acted.{lent}
use Rattle.lio_rounds.proofs.MergeLemmas.{kept-rising, merged}
use Rattle.lio_rounds.proofs.logs.merged.Goals as goal
use Rattle.lio_rounds.proofs.logs.merged.Goals.{After-copies}

-- the merge of the logs, by reference
is_merged : (c : After-copies) → IsMerged (log_in c.args.config.now) (lent c.deref.result.now)
is_merged c =
    subst (λ entries. IsMerged (log_in c.args.config.now) (lent entries)) (sym c.deref.ensures.value)
    (merged c.args.config.now.holders.items c.in_ok-entries.entries.items c.sort_by_cached_key.new.self.items c.requires (λ n. kept-rising c.args.config.now.holders.items n c.in_ok-entries.ensures.kept)
    c.in_ok-entries.ensures.entries c.sort_by_cached_key.ensures.permutation
    (IsNonDecreasingBy-from_sort_by_key (λ entry. entry.now.ticket) c.sort_by_cached_key.new.self.items c.in_ok-sort_by_cached_key.ensures.sorted (λ a r q k. search rules)))

pub returns : goal.returns
returns c =
    IfOk-weaker c.copies.result (λ (entries : Vec Entry Global). entries.items ≡ lent c.deref.result.now) (λ (entries : Vec Entry Global). IsMerged (log_in c.args.config.now) entries.items)
    (λ entries is. subst (IsMerged (log_in c.args.config.now)) (sym is) (is_merged (goal.at.returns c).After-copies)) c.copies.ensures
