use Rattle.std.proofs.Common.{◌≡◌, ◌∙◌, ap, arith}
use Rattle.lio_values.specs.Forest.{deepest}
use Rattle.lio_values.proofs.MeasureLemmas.{whole, deepest-next}
use Rattle.lio_values.proofs.+depth.Goals as goal

pub items::Items::deepest-loop-value-preserved : goal.items::Items::deepest-loop-value-preserved
items::Items::deepest-loop-value-preserved t c =
    omega (arith, c.max-deepest.ensures, c.depth.ensures.depth, c.loop-value.invariant, deepest-next c.as_slice-value-items.result.now c.loop-value.value-index c.value-item.result c.loop-value-test.true c.value-item.is)

pub items::Items::deepest-returns-clause-depth : goal.items::Items::deepest-returns-clause-depth
items::Items::deepest-returns-clause-depth t c =
    c.loop-value.invariant ∙ ap deepest (whole _ _ _ c.loop-value.value-index c.as_slice-value-items.ensures c.self.view_is c.loop-value-test.false)

pub items::Items::deepest-returns-clause-bound : goal.items::Items::deepest-returns-clause-bound
items::Items::deepest-returns-clause-bound t c =
    let all : c.loop-value.deepest ≡ deepest c.args.self.now = items::Items::deepest-returns-clause-depth t c in
    omega (arith, all, ap deepest c.self.view_is, c.self.invariant)
