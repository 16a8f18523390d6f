use Rattle.std.proofs.Common.{◌≡◌, ◌+◌, ◌*◌, max, take}
use Rattle.lio_values.specs.Forest.{forest_height}
use Rattle.lio_values.proofs.+value.Given as goal

abbrev pub decreases-items::ItemsPartialEq::eq : goal.decreases-items::ItemsPartialEq::eq
decreases-items::ItemsPartialEq::eq l = 6 * (max (forest_height l.self.now) (forest_height l.other.now) + 1)

-- the values so far are the same
abbrev pub invariant-items::ItemsPartialEq::eq-loop-place : goal.invariant-items::ItemsPartialEq::eq-loop-place
invariant-items::ItemsPartialEq::eq-loop-place l = take l.place l.values ≡ take l.place l.others
