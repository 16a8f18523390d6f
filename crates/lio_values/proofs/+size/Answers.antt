use Rattle.std.proofs.Common.{◌-◌, ◌^◌, min, ◌∙◌, ap, arith}
use Rattle.lio_values.specs.Measures.{items_size}
use Rattle.lio_values.proofs.MeasureLemmas.{whole, size-next}
use Rattle.lio_values.proofs.+size.Goals as goal

pub items::Items::size-loop-value-preserved : goal.items::Items::size-loop-value-preserved
items::Items::size-loop-value-preserved t c =
    omega (arith, c.saturating_add-size.ensures, c.size.ensures, c.loop-value.invariant, size-next c.as_slice-value-items.result.now c.loop-value.value-index c.value-item.result c.loop-value-test.true c.value-item.is)

pub items::Items::size-returns : goal.items::Items::size-returns
items::Items::size-returns t c =
    c.loop-value.invariant ∙ ap (λ n. min (items_size n) (2 ^ 64 - 1)) (whole _ _ _ c.loop-value.value-index c.as_slice-value-items.ensures c.self.view_is c.loop-value-test.false)
