use Rattle.std.proofs.Common.{◌≡◌, take}
use Rattle.lio_values.specs.Measures.{items_are_pure}
use Rattle.lio_values.specs.Views.{forest_of}
use Rattle.lio_values.proofs.+is_pure.Given as goal

-- whether those so far are pure
abbrev pub invariant-items::Items::are_pure-loop-value : goal.invariant-items::Items::are_pure-loop-value
invariant-items::Items::are_pure-loop-value l = l.pure ≡ items_are_pure (forest_of (take l.value-index l.value-items))
