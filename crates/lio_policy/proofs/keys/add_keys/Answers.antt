use Rattle.std.proofs.Common.{◌≡◌, ◌∙◌, ◌<◌, ◌≤◌, ◌++◌, ◌||◌, sym, ap, arith, true, length, map, is_some}
use Rattle.lio_clauses.specs.Names.{number_of}
use Rattle.std.proofs.lemmas.List.{append-nil, at_drop_all}
use Rattle.lio_policy.specs.Rules.{behind, key_fails}
use Rattle.lio_policy.proofs.RuleLemmas.{fails_here, none_left}
use Rattle.lio_policy_draft.proofs.FailingLemmas.{fault_from, first_from_none}
use Rattle.lio_policy.proofs.keys.add_keys.Goals.{then-is_bad-via-then-is_bad, then-is_bad-via-else-is_bad+then-is_some}
use Rattle.lio_policy.proofs.keys.add_keys.Goals as goal

pub returns-then-is_bad : goal.returns-then-is_bad
returns-then-is_bad g c =
    let key = g.K.Key.key_of c.args.by.now in
    let wrong = g.K.Key.is_wrong c.args.by.now in
    let items = c.args.items.now in
    let i = c.loop-place.place in
    let there = is_some (number_of c.loop-place.table c.key-key.result.now) in
    let by_now : key_fails wrong c.loop-place.table c.key-key.result.now ≡ true =
    elim c.then-is_bad.branch [
      | then-is_bad-via-then-is_bad w ↦ ap (λ bad. bad || there) (sym c.is_bad.ensures ∙ w.if-is_bad.true)
      | then-is_bad-via-else-is_bad+then-is_some w ↦ ap (λ bad. bad || there) (sym c.is_bad.ensures ∙ w.if-is_bad.false) ∙ ap is_some (sym w.find.ensures) ∙ sym w.is_some.ensures ∙ w.if-is_some.true
    ] in
    let fails : key_fails wrong c.loop-place.table (key c.index-items-place.result) ≡ true = ap (key_fails wrong c.loop-place.table) (sym c.key-key.ensures) ∙ by_now in
    let within : i < length items = omega arith in
    let here = sym c.loop-place.invariant.1 ∙ fails_here (key_fails wrong) key c.loop-place.table items i c.index-items-place.result within c.index-items-place.is fails in
    fault_from c.args.rule c.args.first i (behind (key_fails wrong) c.args.table.now (map key items)) c.fault_at.result c.fault_at.ensures here

pub returns : goal.returns
returns g c =
    let key = g.K.Key.key_of c.args.by.now in
    let wrong = g.K.Key.is_wrong c.args.by.now in
    let items = c.args.items.now in
    let i = c.loop-place.place in
    let past : length items ≤ i = omega arith in
    let none = sym c.loop-place.invariant.1 ∙ none_left (key_fails wrong) key c.loop-place.table items i past in
    let all = sym (append-nil c.loop-place.table) ∙ sym (at_drop_all (λ xs. c.loop-place.table ++ map key xs) items i past) ∙ c.loop-place.invariant.0 in
    (first_from_none c.args.first (behind (key_fails wrong) c.args.table.now (map key items)) none, all)
