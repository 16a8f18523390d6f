-- The bounds of two labels (Disjunction Category Labels, 2011). A bound may have too many clauses to be a label.
use Rattle.lio_clauses.specs.Canonical.{and, or}
use Rattle.lio_labels.specs.declared.label.Label.{Label}

-- the least label that both flow to: what needs either secrecy, and has the integrity of at least one (Disjunction Category Labels, 2011)
unfoldable pub join : Label → Label → Label
join a b = record { secrecy = and a.secrecy b.secrecy; integrity = or a.integrity b.integrity }

-- the greatest label that flows to both (Disjunction Category Labels, 2011)
unfoldable pub meet : Label → Label → Label
meet a b = record { secrecy = or a.secrecy b.secrecy; integrity = and a.integrity b.integrity }
