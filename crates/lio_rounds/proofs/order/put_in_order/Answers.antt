use Rattle.std.proofs.Common.{rules}
use Rattle.std.specs.List.Sorted.{IsNonDecreasingBy}
use Rattle.std.proofs.lemmas.List.Sorted.{IsNonDecreasingBy-from_sort_by_key}
use Rattle.lio_values.specs.declared.entry.Entry.{Entry}
use Rattle.lio_rounds.proofs.OrderLemmas.{ordered, same-entries}
use Rattle.lio_rounds.proofs.order.put_in_order.Goals as goal

pub returns-clause-same : goal.returns-clause-same
returns-clause-same c = same-entries c.args.entries.now.items c.sort_by_key.new.self.items c.sort_by_key.ensures.permutation

pub returns-in_err-sort_by_key-clause-same : goal.returns-in_err-sort_by_key-clause-same
returns-in_err-sort_by_key-clause-same c = same-entries c.args.entries.now.items c.sort_by_key.new.self.items c.sort_by_key.ensures.permutation

pub returns-clause-rising : goal.returns-clause-rising
returns-clause-rising c = IsNonDecreasingBy-from_sort_by_key (λ entry. entry.ticket) c.sort_by_key.new.self.items c.in_ok-sort_by_key.ensures.sorted (λ a r q k. search rules)

pub returns-clause-journal : goal.returns-clause-journal
returns-clause-journal c = λ journal numbered same.
    let rises : IsNonDecreasingBy (λ (entry : Entry). entry.ticket) c.sort_by_key.new.self.items =
    IsNonDecreasingBy-from_sort_by_key (λ entry. entry.ticket) c.sort_by_key.new.self.items c.in_ok-sort_by_key.ensures.sorted (λ a r q k. search rules) in
    ordered c.args.entries.now.items c.sort_by_key.new.self.items journal
    (same-entries c.args.entries.now.items c.sort_by_key.new.self.items c.sort_by_key.ensures.permutation) rises numbered same
