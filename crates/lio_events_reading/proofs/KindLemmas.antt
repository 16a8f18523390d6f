-- Kinds of faults.
use Rattle.std.proofs.Common.{◌≡◌, ℕ, List, ◌++◌, refl, ap, ◌∙◌, Some}
use Rattle.lio_labels.specs.declared.label.Label.{Label}
use Rattle.lio_labels.specs.declared.privilege.Priv.{Priv}
use Rattle.lio_values.specs.declared.fault.FaultKind.{FaultKind}
use Rattle.lio_values.specs.declared.fault.FaultKind.TheVariants as fault
use Rattle.lio_values.specs.ValueText.{kind_text}
use Rattle.lio_events_reading.specs.declared.words.KindWord.{KindWord}
use Rattle.lio_events_reading.specs.declared.words.KindWord.TheVariants as kind
use Rattle.lio_events_reading.specs.Words.{kind_word, kind_of}
use Rattle.lio_events_reading.specs.Behind.{word_of_kind, kind_behind}
use Rattle.lio_events_reading.specs.Labels.{both_text, blank_power, AreLabelsOver}
use Rattle.lio_events_reading.specs.Numbers as numbers
use Rattle.lio_events_reading.specs.Numbers.{AreLong}
use Rattle.lio_events_reading.specs.Over.{IsKindOver, IsPowerOver}
use Rattle.lio_events_reading.specs.Cut.{IsWord}
use Rattle.lio_events_reading.specs.Reading.{Ends, Finds}
use Rattle.lio_events_reading.proofs.ReadingLemmas.{Begins, finds_then}

is_word : (t : KindWord) → IsWord (kind_word t)
is_word kind.FlowCurrent = refl
is_word t = refl

is_known : (t : KindWord) → kind_of (kind_word t) ≡ Some t
is_known kind.FlowCurrent = refl
is_known t = refl

split : (names : List (List ℕ)) (value : FaultKind) → kind_text names value ≡ kind_word (word_of_kind value) ++ kind_behind names value
split names (fault.FlowCurrent current target) = refl
split names value = refl

ends : (names : List (List ℕ)) (value : FaultKind) (rest : List ℕ) → Ends rest → Ends (kind_behind names value ++ rest)
ends names (fault.FlowCurrent current target) rest e = refl
ends names (fault.FlowClearance target clearance) rest e = refl
ends names (fault.FlowRaise raised clearance) rest e = refl
ends names (fault.FlowPrivilege power source target) rest e = refl
ends names (fault.NoCells asked left) rest e = refl
ends names (fault.ChildTurns asked left) rest e = refl
ends names (fault.LabelWide left right) rest e = refl
ends names (fault.User plain) rest e = refl
ends names fault.BadType rest e = e
ends names other rest e = e

pub kind_begins : (names : List (List ℕ)) → Begins (kind_text names) (kind_behind names) word_of_kind kind_word kind_of
kind_begins names = record { is_word = is_word; is_known = is_known; split = split names; ends = ends names }

-- a kind over the names whose first word is this
abbrev pub Is : List (List ℕ) → KindWord → FaultKind → Type 0
Is names t kind = IsKindOver names kind × (word_of_kind kind ≡ t)

pub flow_current : (names : List (List ℕ)) (old : List ℕ) (a b : Label) (left : List ℕ) → Finds (both_text names) (AreLabelsOver names) old (a, b) left
    → Finds (kind_behind names) (Is names kind.FlowCurrent) old (fault.FlowCurrent a b) left
flow_current names old a b left finds (fault.FlowCurrent x y) rest o e is =
    let g = finds (x, y) rest ((o.0.0.0, o.0.1.0), (o.0.0.1, o.0.1.1)) e is in
    (ap (λ (p : Label × Label). fault.FlowCurrent p.0 p.1) g.0, g.1)
flow_current names old a b left finds other rest o e is = absurd (cc)

pub flow_clearance : (names : List (List ℕ)) (old : List ℕ) (a b : Label) (left : List ℕ) → Finds (both_text names) (AreLabelsOver names) old (a, b) left
    → Finds (kind_behind names) (Is names kind.FlowClearance) old (fault.FlowClearance a b) left
flow_clearance names old a b left finds (fault.FlowClearance x y) rest o e is =
    let g = finds (x, y) rest ((o.0.0.0, o.0.1.0), (o.0.0.1, o.0.1.1)) e is in
    (ap (λ (p : Label × Label). fault.FlowClearance p.0 p.1) g.0, g.1)
flow_clearance names old a b left finds other rest o e is = absurd (cc)

pub flow_raise : (names : List (List ℕ)) (old : List ℕ) (a b : Label) (left : List ℕ) → Finds (both_text names) (AreLabelsOver names) old (a, b) left
    → Finds (kind_behind names) (Is names kind.FlowRaise) old (fault.FlowRaise a b) left
flow_raise names old a b left finds (fault.FlowRaise x y) rest o e is =
    let g = finds (x, y) rest ((o.0.0.0, o.0.1.0), (o.0.0.1, o.0.1.1)) e is in
    (ap (λ (p : Label × Label). fault.FlowRaise p.0 p.1) g.0, g.1)
flow_raise names old a b left finds other rest o e is = absurd (cc)

pub label_wide : (names : List (List ℕ)) (old : List ℕ) (a b : Label) (left : List ℕ) → Finds (both_text names) (AreLabelsOver names) old (a, b) left
    → Finds (kind_behind names) (Is names kind.LabelWide) old (fault.LabelWide a b) left
label_wide names old a b left finds (fault.LabelWide x y) rest o e is =
    let g = finds (x, y) rest ((o.0.0.0, o.0.1.0), (o.0.0.1, o.0.1.1)) e is in
    (ap (λ (p : Label × Label). fault.LabelWide p.0 p.1) g.0, g.1)
label_wide names old a b left finds other rest o e is = absurd (cc)

pub no_cells : (names : List (List ℕ)) (old : List ℕ) (a b : ℕ) (left : List ℕ) → Finds numbers.both_text AreLong old (a, b) left
    → Finds (kind_behind names) (Is names kind.NoCells) old (fault.NoCells a b) left
no_cells names old a b left finds (fault.NoCells x y) rest o e is =
    let g = finds (x, y) rest o.0.1 e is in
    (ap (λ (p : ℕ × ℕ). fault.NoCells p.0 p.1) g.0, g.1)
no_cells names old a b left finds other rest o e is = absurd (cc)

pub child_turns : (names : List (List ℕ)) (old : List ℕ) (a b : ℕ) (left : List ℕ) → Finds numbers.both_text AreLong old (a, b) left
    → Finds (kind_behind names) (Is names kind.ChildTurns) old (fault.ChildTurns a b) left
child_turns names old a b left finds (fault.ChildTurns x y) rest o e is =
    let g = finds (x, y) rest o.0.1 e is in
    (ap (λ (p : ℕ × ℕ). fault.ChildTurns p.0 p.1) g.0, g.1)
child_turns names old a b left finds other rest o e is = absurd (cc)

pub flow_privilege : (names : List (List ℕ)) (old : List ℕ) (power : Priv) (mid : List ℕ) (a b : Label) (left : List ℕ)
    → Finds (blank_power names) (IsPowerOver names) old power mid → Finds (both_text names) (AreLabelsOver names) mid (a, b) left
    → Finds (kind_behind names) (Is names kind.FlowPrivilege) old (fault.FlowPrivilege power a b) left
flow_privilege names old power mid a b left finds finds' (fault.FlowPrivilege p x y) rest o e is =
    let g = finds_then (blank_power names) (IsPowerOver names) (both_text names) (AreLabelsOver names) old power mid (a, b) left finds finds' p (x, y) rest
    (o.0.0.0, o.0.1.0) ((o.0.0.1, o.0.1.1), (o.0.0.2, o.0.1.2)) refl e is in
    (ap (λ r. fault.FlowPrivilege r a b) g.0 ∙ ap (λ (q : Label × Label). fault.FlowPrivilege p q.0 q.1) g.1, g.2)
flow_privilege names old power mid a b left finds finds' other rest o e is = absurd (cc)
