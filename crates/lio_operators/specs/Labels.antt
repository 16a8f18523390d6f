-- Operators on two labels (their flow and bounds: Disjunction Category Labels, 2011).
use Rattle.std.specs.Prelude.{not, Bool, nat_lt, ◌||◌, if◌then◌else◌, length, Result, Ok, Err}
use Rattle.lio_labels.specs.declared.label.Label.{Label}
use Rattle.lio_labels.specs.Equality.{same_label}
use Rattle.lio_labels.specs.Bounds.{join, meet}
use Rattle.lio_labels.specs.Flow.{flows}
use Rattle.lio_values.specs.declared.value.Plain.{Plain}
use Rattle.lio_values.specs.declared.value.Plain.TheVariants.{Flag, Lab}
use Rattle.lio_values.specs.declared.fault.FaultKind.{FaultKind}
use Rattle.lio_values.specs.declared.fault.FaultKind.TheVariants.{BadType, LabelWide}
use Rattle.lio_syntax_lines.specs.declared.operators.Two.{Two}
use Rattle.lio_syntax_lines.specs.declared.operators.Two.TheVariants.{Eq, Ne, Join, Meet, Flows}

-- whether one of the two formulas has more than 64 clauses
abbrev pub is_wide : Label → Bool
is_wide label = nat_lt 64 (length label.secrecy) || nat_lt 64 (length label.integrity)

-- a bound of two labels, where it isn't wide
abbrev pub bounded : Label → Label → Label → Result Plain FaultKind
bounded a b bound = if is_wide bound then Err (LabelWide a b) else Ok (Lab bound)

abbrev pub on_labels : Two → Label → Label → Result Plain FaultKind
on_labels Eq a b = Ok (Flag (same_label a b))
on_labels Ne a b = Ok (Flag (not (same_label a b)))
on_labels Join a b = bounded a b (join a b)
on_labels Meet a b = bounded a b (meet a b)
on_labels Flows a b = Ok (Flag (flows a b))
on_labels two a b = Err BadType
