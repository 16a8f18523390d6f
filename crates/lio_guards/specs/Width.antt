-- Which labels are wide, as a test.
use Rattle.std.specs.Prelude.{Bool, ◌||◌, nat_lt, length, ◌↔◌, IsTrue}
use Rattle.lio_labels.specs.declared.label.Label.{Label}
use Rattle.lio_labels.specs.IsLabel.{IsWide}

-- whether one of a label's formulas has more than 64 clauses
unfoldable pub is_wide : Label → Bool
is_wide label = nat_lt 64 (length label.secrecy) || nat_lt 64 (length label.integrity)

-- the test and the fact agree
abbrev pub WidthIsTested : Type 0
WidthIsTested = (label : Label) → IsTrue (is_wide label) ↔ IsWide label
