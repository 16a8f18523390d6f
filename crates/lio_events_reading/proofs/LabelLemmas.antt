-- Labels and privileges are found.
use Rattle.std.proofs.Common.{◌≡◌, ℕ, true, List, [], ◌++◌, ap, sym, ◌∙◌, arith, codes, Ok}
use Rattle.std.specs.Prelude.{IfOk}
use Rattle.std.specs.List.{list_all}
use Rattle.std.proofs.lemmas.Bool.{and_parts}
use Rattle.lio_clauses.specs.Names.{AreNames}
use Rattle.lio_clauses.specs.FormulaPrint as formula
use Rattle.lio_clauses.specs.FormulaPrint.{formula_text}
use Rattle.lio_clauses.specs.FormulaText as formula_read
use Rattle.lio_clauses.proofs.PrintedLemmas.{reads_printed}
use Rattle.lio_labels.specs.declared.label.Label.{Label}
use Rattle.lio_labels.specs.declared.privilege.Priv.{Priv}
use Rattle.lio_labels.specs.LabelPrint.{AreNamed, label_text}
use Rattle.lio_labels.specs.LabelText.{reading}
use Rattle.lio_labels.proofs.TextLemmas.{printed_is_read}
use Rattle.lio_values.specs.PlainText.{label_in_brackets}
use Rattle.lio_syntax_lines.proofs.SolidLemmas.{is_in_label}
use Rattle.lio_syntax_lines.proofs.LabelLemmas.{is_clean, is_inline, list_all-append, list_all-weaker, clean_label}
use Rattle.lio_events_reading.specs.Over.{IsLabelOver, IsPowerOver}
use Rattle.lio_events_reading.specs.Labels.{power_inside}
use Rattle.lio_events_reading.specs.Cut.{IsInside, is_inside, bracketed}
use Rattle.lio_events_reading.specs.Reading.{Finds}

clean_inside : (byte : ℕ) → is_clean byte ≡ true → is_inside byte ≡ true
clean_inside byte e = (and_parts (is_inline byte) (is_in_label byte) e).1

-- no label's text has the sign that ends it
pub inside_label : (names : List (List ℕ)) (label : Label) → AreNames names → AreNamed names label → IsInside (label_text names label)
inside_label names label known named = list_all-weaker is_clean is_inside clean_inside (label_text names label) (clean_label names label known named)

-- the bytes of a formula's text are those of a label's
pub clean_formula : (names A : List (List ℕ)) → AreNames names → formula.AreNamed names A → list_all is_clean (formula_text names A) ≡ true
clean_formula names A known named =
    let label : Label = record { secrecy = A; integrity = [] } in
    let all : list_all is_clean ((formula_text names A ++ codes " %% ") ++ codes "True") ≡ true = clean_label names label known (named, λ k d within. absurd (omega arith)) in
    let more = and_parts (list_all is_clean (formula_text names A ++ codes " %% ")) (list_all is_clean (codes "True")) (sym (list_all-append is_clean (formula_text names A ++ codes " %% ") (codes "True")) ∙ all) in
    let most = and_parts (list_all is_clean (formula_text names A)) (list_all is_clean (codes " %% ")) (sym (list_all-append is_clean (formula_text names A) (codes " %% ")) ∙ more.0) in
    most.0

-- so it doesn't have the sign either
pub inside_formula : (names A : List (List ℕ)) → AreNames names → formula.AreNamed names A → IsInside (formula_text names A)
inside_formula names A known named = list_all-weaker is_clean is_inside clean_inside (formula_text names A) (clean_formula names A known named)

pub finds_label : (names : List (List ℕ)) (old inside left : List ℕ) (found : Label) → AreNames names → Finds bracketed IsInside old inside left → IfOk (reading names inside) (λ label. found ≡ label)
    → Finds (label_in_brackets names) (IsLabelOver names) old found left
finds_label names old inside left found known finds read label rest o e is =
    let g = finds (label_text names label) rest (inside_label names label known o.0) e is in
    let r : reading names inside ≡ Ok label = ap (reading names) g.0 ∙ printed_is_read names label known o.1 o.0 in
    (rw r at read, g.1)

pub finds_power : (names : List (List ℕ)) (old inside left : List ℕ) (found : Priv) → AreNames names → Finds bracketed IsInside old inside left → IfOk (formula_read.reading names inside) (λ power. found.power ≡ power)
    → Finds (power_inside names) (IsPowerOver names) old found left
finds_power names old inside left found known finds read value rest o e is =
    let g = finds (formula_text names value.power) rest (inside_formula names value.power known o.0) e is in
    let r : formula_read.reading names inside ≡ Ok value.power = ap (formula_read.reading names) g.0 ∙ reads_printed names value.power known o.1.0 o.1.1 o.0 in
    let make : List (List ℕ) → Priv = λ power. record { power = power } in
    let same : found.power ≡ value.power = rw r at read in
    (ap make same, g.1)
