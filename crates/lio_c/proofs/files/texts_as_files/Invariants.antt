use Rattle.std.proofs.Common.{◌≡◌, ◌-◌, drop, length}
use Rattle.lio_outside.specs.FileMap.{no_files}
use Rattle.lio_c.specs.Bundle.{filed}
use Rattle.lio_c.proofs.files.texts_as_files.Given as goal

-- those that are left are still to be put
abbrev pub invariant-loop-number : goal.invariant-loop-number
invariant-loop-number l = filed 0 no_files l.items ≡ filed l.number l.store (drop l.number l.items)

abbrev pub decreases-loop-number : goal.decreases-loop-number
decreases-loop-number l = length l.items - l.number
