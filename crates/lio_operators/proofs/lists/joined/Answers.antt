use Rattle.std.proofs.Common.{◌∙◌, rules}
use Rattle.lio_values.specs.Views.{values_of}
use Rattle.lio_operators.proofs.ListLemmas.{joined-refused, joined-told, joined-none, joined-more}
use Rattle.lio_operators.proofs.lists.joined.Goals as goal

pub returns-then-not-may_be_made : goal.returns-then-not-may_be_made
returns-then-not-may_be_made c = search (joined-refused, rules)

pub loop-value-init : goal.loop-value-init
loop-value-init c = c.in_ok-list.ensures ∙ joined-none c.args.a.now

pub loop-value-preserved : goal.loop-value-preserved
loop-value-preserved c =
    joined-more (values_of c.args.a.now) c.as_slice-value-items.result.now c.loop-value.value-index c.value-item.result c.in_ok-copy.field-0 c.push.new.self c.loop-value.list
    c.loop-value.invariant c.in_ok-push.ensures.ok c.in_ok-copy.ensures c.value-item.is c.loop-value-test.true

pub returns : goal.returns
returns c =
    joined-told c.args.longest c.args.a.now c.args.b.now _ _ _ _ _ _ _ _ _ c.ranges.longest.fits c.deepest.ensures.depth c.deepest-2.ensures.depth c.max-deepest.ensures c.size.ensures
    c.size-2.ensures c.saturating_add-size.ensures c.seals.ensures c.seals-2.ensures c.saturating_add-seals.ensures c.as_slice-value-items.result.now c.loop-value.value-index
    c.loop-value.list c.if-not-may_be_made.ensures c.loop-value.invariant c.loop-value-test.false c.as_slice-value-items.ensures.items
