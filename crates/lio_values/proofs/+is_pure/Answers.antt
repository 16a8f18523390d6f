use Rattle.std.proofs.Common.{◌∙◌, ℕ, List, ap}
use Rattle.lio_values.specs.declared.value.Value.{Value}
use Rattle.lio_values.specs.Measures.{items_are_pure}
use Rattle.lio_values.proofs.MeasureLemmas.{whole, impure-with, pure-with}
use Rattle.lio_values.proofs.+is_pure.Goals as goal
use Rattle.lio_values.proofs.+is_pure.Goals.{items::Items::are_pure-then-not-is_pure, items::Items::are_pure-else-not-is_pure}

pub items::Items::are_pure-loop-value-preserved : goal.items::Items::are_pure-loop-value-preserved
items::Items::are_pure-loop-value-preserved t c =
    let values : List Value = c.as_slice-value-items.result.now in
    let place : ℕ = c.loop-value.value-index in
    elim c.if-not-is_pure.branch [
      | items::Items::are_pure-then-not-is_pure w ↦ impure-with values place c.value-item.result c.loop-value-test.true c.value-item.is _ w.pure-is w.if-not-is_pure.ensures
      | items::Items::are_pure-else-not-is_pure w ↦ pure-with values place c.value-item.result c.loop-value-test.true c.value-item.is _ _ w.pure-is c.loop-value.invariant w.if-not-is_pure.ensures
    ]

pub items::Items::are_pure-returns : goal.items::Items::are_pure-returns
items::Items::are_pure-returns t c =
    c.loop-value.invariant ∙ ap items_are_pure (whole _ _ _ c.loop-value.value-index c.as_slice-value-items.ensures c.self.view_is c.loop-value-test.false)
