-- The tests of equality of labels and of privileges.
use Rattle.std.specs.Prelude.{ℕ, Bool, List, nat_eq}
use Rattle.std.specs.Ordering.{on, eq_of_both}
use Rattle.std.specs.Cmp.Lexicographic.{pointwise}
use Rattle.lio_labels.specs.declared.label.Label.{Label}
use Rattle.lio_labels.specs.declared.privilege.Priv.{Priv}

-- whether two formulas are equal
abbrev pub same_formula : List (List ℕ) → List (List ℕ) → Bool
same_formula = pointwise (pointwise nat_eq)

-- whether two labels are equal: both formulas are
abbrev pub same_label : Label → Label → Bool
same_label = eq_of_both (on (λ l. l.secrecy) same_formula) (on (λ l. l.integrity) same_formula)

-- whether two privileges are equal
abbrev pub same_privilege : Priv → Priv → Bool
same_privilege = on (λ p. p.power) same_formula
