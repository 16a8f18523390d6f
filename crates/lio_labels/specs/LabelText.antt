-- The text of labels over tokens:
--   label = formula "%%" formula
-- with the secrecy first. A text has one fault: that of the first token that may not stand where it does, and where there is none,
-- that a formula is wide.
use Rattle.std.specs.Prelude.{◌≡◌, ℕ, List, Result, Ok}
use Rattle.lio_clauses.specs.Canonical.{canonical}
use Rattle.lio_clauses.specs.Token.{symbols, tokens_of}
use Rattle.lio_clauses.specs.FormulaText.{◌>>=◌, reading_two}
use Rattle.lio_clauses.specs.Grammar.{DerivesTwo}
use Rattle.lio_clauses.specs.declared.faults.TextFault.{TextFault}
use Rattle.lio_labels.specs.declared.label.Label.{Label}
use Rattle.lio_labels.specs.IsLabel.{IsWide}

-- the label with this secrecy and this integrity
abbrev pub label_of : List (List ℕ) × List (List ℕ) → Label
label_of both = record { secrecy = both.0; integrity = both.1 }

-- the canonical form of a label's text over the names of principals, or the text's fault
unfoldable pub reading : List (List ℕ) → List ℕ → Result Label TextFault
reading names text = reading_two names text >>= λ both. Ok (label_of both)

-- a pair with the canonical forms of two formulas
abbrev pub canonical_label : List (List ℕ) × List (List ℕ) → Label
canonical_label both = record { secrecy = canonical both.0; integrity = canonical both.1 }

-- what is read is the canonical form of what the text says by the grammar
abbrev pub ReadIsDerived : Type 0
ReadIsDerived = (names : List (List ℕ)) (text : List ℕ) (l : Label) → reading names text ≡ Ok l
    → (both : List (List ℕ) × List (List ℕ)) × DerivesTwo (symbols (tokens_of names text)) both × (l ≡ canonical_label both)

-- what the text says by the grammar is read, unless it is wide
abbrev pub DerivedIsRead : Type 0
DerivedIsRead = (names : List (List ℕ)) (text : List ℕ) (both : List (List ℕ) × List (List ℕ)) → DerivesTwo (symbols (tokens_of names text)) both
    → ¬ IsWide (canonical_label both) → reading names text ≡ Ok (canonical_label both)
