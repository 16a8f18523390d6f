use Rattle.std.proofs.Common.{◌≡◌, take}
use Rattle.lio_values.specs.Forest.{deepest}
use Rattle.lio_values.specs.Views.{forest_of}
use Rattle.lio_values.proofs.+depth.Given as goal

-- the deepest so far
abbrev pub invariant-items::Items::deepest-loop-value : goal.invariant-items::Items::deepest-loop-value
invariant-items::Items::deepest-loop-value l = l.deepest ≡ deepest (forest_of (take l.value-index l.value-items))
