-- Faults and contents are found.
use Rattle.std.proofs.Common.{◌≡◌, ℕ, List, ◌++◌, drop, refl, ap, sym, ◌∙◌, codes, Some, None, Bool, true, false, true≢false}
use Rattle.lio_labels.specs.declared.label.Label.{Label}
use Rattle.lio_values.specs.declared.value.Plain.{Plain}
use Rattle.lio_values.specs.declared.value.Content.{Content}
use Rattle.lio_values.specs.declared.value.Content.TheVariants.{Kept, Faulted, Hidden}
use Rattle.lio_values.specs.declared.value.Value.TheVariants.{Bare, Sealed}
use Rattle.lio_values.specs.declared.fault.Fault.{Fault}
use Rattle.lio_values.specs.declared.fault.FaultKind.{FaultKind}
use Rattle.lio_values.specs.PlainText.{label_in_brackets}
use Rattle.lio_values.specs.ValueText.{kind_text, fault_text, content_text}
use Rattle.lio_events.specs.EntryText.{option_text}
use Rattle.lio_values.specs.declared.value.Plain.TheVariants as plain
use Rattle.lio_events_reading.specs.declared.start.Start.{Start}
use Rattle.lio_events_reading.specs.declared.start.Start.TheVariants as start
use Rattle.lio_events_reading.specs.Start.{start_of}
use Rattle.lio_events_reading.specs.Over.{IsLabelOver, IsKindOver, IsFaultOver, IsContentOver, IsOptionOver}
use Rattle.lio_events_reading.specs.Values.{IsFaultedOver}
use Rattle.lio_events_reading.specs.Reading.{Finds}
use Rattle.lio_events_reading.proofs.ReadingLemmas.{regroup3}
use Rattle.lio_events_reading.proofs.PlainLemmas.{start_kind, starts_plain}

-- a plain value begins with a text, a label, a list, or another word
abbrev begins_plain : Start → Bool
begins_plain start.Text = true
begins_plain start.Label = true
begins_plain start.List = true
begins_plain start.Word = true
begins_plain start.Hidden = false
begins_plain start.Sealed = false
begins_plain start.Empty = false
begins_plain start.Fault = false

kind_begins_plain : (plain : Plain) → begins_plain (start_kind plain) ≡ true
kind_begins_plain plain.Unit = refl
kind_begins_plain other = refl

pub no_such : (plain : Plain) (s : Start) → begins_plain s ≡ false → s ≡ start_kind plain → ⊥
no_such value s none e = let yes : begins_plain s ≡ true = ap begins_plain e ∙ kind_begins_plain value in true≢false (sym yes ∙ none)

pub finds_fault : (names : List (List ℕ)) (old : List ℕ) (kind : FaultKind) (mid next : List ℕ) (at : Label) (left : List ℕ) → Finds (kind_text names) (IsKindOver names) old kind mid → next ≡ drop 4 mid
    → Finds (label_in_brackets names) (IsLabelOver names) next at left → Finds (fault_text names) (IsFaultOver names) old (record { kind = kind; at = at }) left
finds_fault names old kind mid next at left finds d finds' fault rest o e is =
    let sign : List ℕ = codes " at " in
    let a = finds fault.kind (sign ++ (label_in_brackets names fault.at ++ rest)) (o.0.0, o.1.0, o.2) refl (is ∙ regroup3 (kind_text names fault.kind) sign (label_in_brackets names fault.at) rest) in
    let b = finds' fault.at rest (o.0.1, o.1.1) e (d ∙ ap (λ bytes. drop 4 bytes) a.1) in
    let make : FaultKind → Label → Fault = λ k l. record { kind = k; at = l } in
    (ap (λ k. make k at) a.0 ∙ ap (λ l. make fault.kind l) b.0, b.1)

pub finds_fault_content : (names : List (List ℕ)) (old : List ℕ) (found : Content) (left : List ℕ) → start_of old ≡ start.Fault → Finds (content_text names) (IsFaultedOver names) old found left
    → Finds (content_text names) (IsContentOver names) old found left
finds_fault_content names old found left begins finds (Faulted fault) rest o e is = finds (Faulted fault) rest (o, tt) e is
finds_fault_content names old found left begins finds Hidden rest o e is = let no : start.Fault ≡ start.Hidden = sym begins ∙ ap start_of is in absurd (cc)
finds_fault_content names old found left begins finds (Kept plain) rest o e is = absurd (no_such plain start.Fault refl (sym begins ∙ ap start_of is ∙ starts_plain names plain rest o.1))

pub finds_hidden : (names : List (List ℕ)) (old left : List ℕ) → start_of old ≡ start.Hidden → left ≡ drop 6 old → Finds (content_text names) (IsContentOver names) old Hidden left
finds_hidden names old left begins d Hidden rest o e is = (refl, d ∙ ap (λ bytes. drop 6 bytes) is)
finds_hidden names old left begins d (Faulted fault) rest o e is = let no : start.Hidden ≡ start.Fault = sym begins ∙ ap start_of is in absurd (cc)
finds_hidden names old left begins d (Kept plain) rest o e is = absurd (no_such plain start.Hidden refl (sym begins ∙ ap start_of is ∙ starts_plain names plain rest o.1))

pub finds_empty : (names : List (List ℕ)) (old left : List ℕ) → start_of old ≡ start.Empty → left ≡ drop 5 old → Finds (option_text names) (IsOptionOver names) old None left
finds_empty names old left begins d None rest o e is = (refl, d ∙ ap (λ bytes. drop 5 bytes) is)
finds_empty names old left begins d (Some (Sealed label content)) rest o e is = let no : start.Empty ≡ start.Sealed = sym begins ∙ ap start_of is in absurd (cc)
finds_empty names old left begins d (Some (Bare plain)) rest o e is = absurd (no_such plain start.Empty refl (sym begins ∙ ap start_of is ∙ starts_plain names plain rest o.1))
