use Rattle.std.proofs.Common.{◌-◌, ◌^◌, min, ◌∙◌, ap, arith}
use Rattle.lio_values.specs.Measures.{items_seals}
use Rattle.lio_values.proofs.MeasureLemmas.{whole, seals-next}
use Rattle.lio_values.proofs.+seals.Goals as goal

pub items::Items::seals-loop-value-preserved : goal.items::Items::seals-loop-value-preserved
items::Items::seals-loop-value-preserved t c =
    omega (arith, c.saturating_add-seals.ensures, c.seals.ensures, c.loop-value.invariant, seals-next c.as_slice-value-items.result.now c.loop-value.value-index c.value-item.result c.loop-value-test.true c.value-item.is)

pub items::Items::seals-returns : goal.items::Items::seals-returns
items::Items::seals-returns t c =
    c.loop-value.invariant ∙ ap (λ n. min (items_seals n) (2 ^ 64 - 1)) (whole _ _ _ c.loop-value.value-index c.as_slice-value-items.ensures c.self.view_is c.loop-value-test.false)
