-- When one label flows to another (Disjunction Category Labels, 2011).
use Rattle.std.specs.Prelude.{Bool, ◌&&◌}
use Rattle.lio_clauses.specs.Implication.{Implies, implies}
use Rattle.lio_labels.specs.declared.label.Label.{Label}

-- a label flows to another where the other's secrecy implies its secrecy, and its integrity implies the other's (Disjunction Category Labels, 2011)
unfoldable pub flows : Label → Label → Bool
flows from to = implies to.secrecy from.secrecy && implies from.integrity to.integrity

-- the same over all sets of principals
abbrev pub Flows : Label → Label → Type 0
Flows from to = Implies to.secrecy from.secrecy × Implies from.integrity to.integrity
