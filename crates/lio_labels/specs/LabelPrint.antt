-- The canonical text of a label.
use Rattle.std.specs.Prelude.{◌≡◌, ℕ, List, Ok}
use Rattle.lio_clauses.specs.Names.{AreNames}
use Rattle.lio_clauses.specs.FormulaPrint as formula
use Rattle.lio_clauses.specs.FormulaPrint.{two_text}
use Rattle.lio_labels.specs.declared.label.Label.{Label}
use Rattle.lio_labels.specs.declared.privilege.Priv.{Priv}
use Rattle.lio_labels.specs.IsLabel.{IsLabel}
use Rattle.lio_labels.specs.Bounds.{join, meet}
use Rattle.lio_labels.specs.Privilege.{downgraded}
use Rattle.lio_labels.specs.LabelText.{reading}

-- each principal of a label has a name
abbrev pub AreNamed : List (List ℕ) → Label → Type 0
AreNamed names l = formula.AreNamed names l.secrecy × formula.AreNamed names l.integrity

-- the secrecy, "%%" with a blank on each side, and the integrity
abbrev pub label_text : List (List ℕ) → Label → List ℕ
label_text names l = two_text names l.secrecy l.integrity

-- reading the text of a label gives the label
abbrev pub ReadsPrinted : Type 0
ReadsPrinted = (names : List (List ℕ)) (l : Label) → AreNames names → IsLabel l → AreNamed names l → reading names (label_text names l) ≡ Ok l

-- the principals of the bounds of two labels have names where those of the labels have
abbrev pub JoinIsNamed : Type 0
JoinIsNamed = (names : List (List ℕ)) (a b : Label) → AreNamed names a → AreNamed names b → AreNamed names (join a b)

abbrev pub MeetIsNamed : Type 0
MeetIsNamed = (names : List (List ℕ)) (a b : Label) → AreNamed names a → AreNamed names b → AreNamed names (meet a b)

-- the principals of a label as a privilege lowers it have names where those of the label and of the privilege have
abbrev pub DowngradedIsNamed : Type 0
DowngradedIsNamed = (names : List (List ℕ)) (p : Priv) (a : Label) → formula.AreNamed names p.power → AreNamed names a → AreNamed names (downgraded p a)
