-- Labels and privileges in lines.
use Rattle.std.specs.Prelude.{ℕ, List, ◌++◌, codes}
use Rattle.lio_clauses.specs.FormulaPrint.{formula_text}
use Rattle.lio_labels.specs.declared.label.Label.{Label}
use Rattle.lio_labels.specs.declared.privilege.Priv.{Priv}
use Rattle.lio_values.specs.PlainText.{label_in_brackets, power_text}
use Rattle.lio_values.specs.ValueText.{labels_text}
use Rattle.lio_events_reading.specs.Cut.{bracketed}
use Rattle.lio_events_reading.specs.Over.{IsLabelOver}

-- two labels, each behind a blank
abbrev pub both_text : List (List ℕ) → Label × Label → List ℕ
both_text names both = labels_text names both.0 both.1

abbrev pub AreLabelsOver : List (List ℕ) → Label × Label → Type 0
AreLabelsOver names both = IsLabelOver names both.0 × IsLabelOver names both.1

-- a privilege behind its word, and whole behind a blank
abbrev pub power_inside : List (List ℕ) → Priv → List ℕ
power_inside names privilege = bracketed (formula_text names privilege.power)

abbrev pub blank_power : List (List ℕ) → Priv → List ℕ
blank_power names privilege = codes " " ++ power_text names privilege

-- a label behind a blank
abbrev pub blank_label : List (List ℕ) → Label → List ℕ
blank_label names label = codes " " ++ label_in_brackets names label
