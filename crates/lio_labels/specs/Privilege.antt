-- Flow with a privilege, and what a privilege lowers a label to (Disjunction Category Labels, 2011).
use Rattle.std.specs.Prelude.{Bool, ◌&&◌, ◌++◌}
use Rattle.lio_clauses.specs.Implication.{ImplyTogether, implies}
use Rattle.lio_clauses.specs.Canonical.{and}
use Rattle.lio_clauses.specs.Without.{without}
use Rattle.lio_labels.specs.declared.label.Label.{Label}
use Rattle.lio_labels.specs.declared.privilege.Priv.{Priv}

-- a label flows to another with a privilege: each set of principals that satisfies the privilege and the other's secrecy satisfies its secrecy,
-- and each that satisfies the privilege and its integrity satisfies the other's (Disjunction Category Labels, 2011)
abbrev pub FlowsWith : Priv → Label → Label → Type 0
FlowsWith p from to = ImplyTogether p.power to.secrecy from.secrecy × ImplyTogether p.power from.integrity to.integrity

-- the same as a test: the clauses of two formulas together are satisfied where both formulas are
unfoldable pub flows_with : Priv → Label → Label → Bool
flows_with p from to = implies (p.power ++ to.secrecy) from.secrecy && implies (p.power ++ from.integrity) to.integrity

-- a label as a privilege lowers it: its secrecy without the clauses that the privilege implies, and its integrity with the privilege's own
unfoldable pub downgraded : Priv → Label → Label
downgraded p label = record { secrecy = without label.secrecy p.power; integrity = and label.integrity p.power }
