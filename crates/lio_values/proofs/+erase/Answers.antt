use Rattle.std.proofs.Common.{◌∙◌, ap}
use Rattle.lio_values.specs.Erasure.{erase_forest}
use Rattle.lio_values.specs.Views.{forest_of}
use Rattle.lio_values.proofs.ItemsLemmas.{erased-items, erased-whole, erased-fits}
use Rattle.lio_values.proofs.+erase.Goals as goal

pub items::Items::erase-invariant_of-result : goal.items::Items::erase-invariant_of-result
items::Items::erase-invariant_of-result t c =
    erased-fits c.args.observer.now c.loop-value.values c.self.inside.values
    (erased-whole c.args.observer.now _ _ _ c.loop-value.value-index c.loop-value.invariant c.loop-value-test.false c.as_slice-value-items.ensures) c.self.invariant

pub items::Items::erase-returns : goal.items::Items::erase-returns
items::Items::erase-returns t c =
    ap forest_of (erased-whole c.args.observer.now _ _ _ c.loop-value.value-index c.loop-value.invariant c.loop-value-test.false c.as_slice-value-items.ensures)
    ∙ erased-items c.args.observer.now c.self.inside.values ∙ ap (erase_forest c.args.observer.now) c.self.view_is
