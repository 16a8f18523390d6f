-- What is printed is read as the same formulas.
use Rattle.std.specs.Prelude.{◌≡◌, ℕ, List, Ok}
use Rattle.lio_clauses.specs.Canonical.{IsCanonical}
use Rattle.lio_clauses.specs.Width.{IsWide}
use Rattle.lio_clauses.specs.Names.{AreNames}
use Rattle.lio_clauses.specs.FormulaText.{reading, reading_two}
use Rattle.lio_clauses.specs.FormulaPrint.{AreNamed, formula_text, two_text}

-- reading the text of a formula that is not wide gives the formula
abbrev pub ReadsPrinted : Type 0
ReadsPrinted = (names A : List (List ℕ)) → AreNames names → IsCanonical A → ¬ IsWide A → AreNamed names A → reading names (formula_text names A) ≡ Ok A

-- reading the text of two formulas that are not wide gives the formulas
abbrev pub ReadsTwoPrinted : Type 0
ReadsTwoPrinted = (names A B : List (List ℕ)) → AreNames names → IsCanonical A → IsCanonical B → ¬ IsWide A → ¬ IsWide B → AreNamed names A → AreNamed names B
    → reading_two names (two_text names A B) ≡ Ok (A, B)
