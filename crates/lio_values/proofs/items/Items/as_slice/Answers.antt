use Rattle.std.proofs.Common.{◌∙◌, sym, ap}
use Rattle.lio_values.specs.Views.{values_of, values_of-forest_of}
use Rattle.lio_values.proofs.ItemsLemmas.{shallow}
use Rattle.lio_values.proofs.items.Items.as_slice.Goals as goal

pub returns-clause-items : goal.returns-clause-items
returns-clause-items c = c.as_slice.ensures ∙ sym (values_of-forest_of c.self.inside.values) ∙ ap values_of c.self.view_is

pub returns-clause-shallow : goal.returns-clause-shallow
returns-clause-shallow c = shallow _ _ c.as_slice.ensures c.self.invariant
