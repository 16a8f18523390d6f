-- A task of the calculus: its environment, its continuation as a list of items, its floating label and clearance, and what it may still use
-- (LIO, ICFP 2012; turns and ranges of numbers are this calculus's own).
use Rattle.std.specs.Prelude.{ℕ, Bool, List}
use Rattle.lio_labels.specs.declared.label.Label.{Label}
use Rattle.lio_syntax.specs.Environment.{Environment}
use Rattle.lio_syntax.specs.Items.{Item}

pub record TaskState : Type 0 where
  pub environment : Environment
  pub items : List Item
  pub label : Label
  pub clearance : Label
  -- the turns that it has left
  pub turns : ℕ
  -- the range of numbers that it owns: the first, and how many
  pub first : ℕ
  pub cells : ℕ
  pub ended : Bool
