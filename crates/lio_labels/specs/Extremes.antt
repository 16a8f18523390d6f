-- The least, the greatest and the public label (Disjunction Category Labels, 2011). True is the formula without a clause, False that of the empty clause.
use Rattle.std.specs.Prelude.{[], ◌∷◌}
use Rattle.lio_labels.specs.declared.label.Label.{Label}

-- secrecy True and integrity False: it flows to each label
abbrev pub least : Label
least = record { secrecy = []; integrity = [] ∷ [] }

-- secrecy False and integrity True: each label flows to it
abbrev pub greatest : Label
greatest = record { secrecy = [] ∷ []; integrity = [] }

-- secrecy True and integrity True: everyone may learn the value, and nobody vouches for it
abbrev pub public : Label
public = record { secrecy = []; integrity = [] }
