-- What a label is, and when a pair of formulas is too wide for one.
use Rattle.std.specs.Prelude.{◌⊎◌}
use Rattle.lio_clauses.specs.Canonical.{IsCanonical}
use Rattle.lio_clauses.specs.Width as formula
use Rattle.lio_labels.specs.declared.label.Label.{Label}

-- a label is wide where one of its formulas has more than 64 clauses
abbrev pub IsWide : Label → Type 0
IsWide l = formula.IsWide l.secrecy ⊎ formula.IsWide l.integrity

-- both formulas are canonical, and neither is wide
pub record IsLabel (l : Label) : Type 0 where
  pub secrecy : IsCanonical l.secrecy
  pub integrity : IsCanonical l.integrity
  pub narrow : ¬ IsWide l
