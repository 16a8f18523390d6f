-- Acts are found.
use Rattle.std.proofs.Common.{◌≡◌, ℕ, List, ◌++◌, refl, ap, ◌∙◌, append_assoc, codes, Some}
use Rattle.lio_labels.specs.declared.label.Label.{Label}
use Rattle.lio_labels.specs.declared.privilege.Priv.{Priv}
use Rattle.lio_values.specs.declared.value.Content.{Content}
use Rattle.lio_values.specs.declared.act.Act.{Act}
use Rattle.lio_values.specs.declared.act.Act.TheVariants as act
use Rattle.lio_values.specs.PlainText.{label_in_brackets, power_text}
use Rattle.lio_values.specs.ValueText.{labels_text, content_text, value_text}
use Rattle.lio_events.specs.EntryText.{act_text, op_text, option_text}
use Rattle.lio_events_reading.specs.declared.words.ActWord.{ActWord}
use Rattle.lio_events_reading.specs.declared.words.ActWord.TheVariants as do_
use Rattle.lio_events_reading.specs.Words.{act_word, act_of}
use Rattle.lio_events_reading.specs.Behind.{word_of_act, release_behind, act_behind}
use Rattle.lio_events_reading.specs.Labels.{both_text, blank_power, AreLabelsOver}
use Rattle.lio_events_reading.specs.Values.{blank_content_text}
use Rattle.lio_events_reading.specs.Over.{IsPowerOver, IsContentOver, IsActOver}
use Rattle.lio_events_reading.specs.Cut.{IsWord}
use Rattle.lio_events_reading.specs.Reading.{Ends, Finds, FindsBefore}
use Rattle.lio_events_reading.proofs.ReadingLemmas.{Begins}

is_word : (t : ActWord) → IsWord (act_word t)
is_word do_.Step = refl
is_word t = refl

is_known : (t : ActWord) → act_of (act_word t) ≡ Some t
is_known do_.Step = refl
is_known t = refl

regroup5 : (l s p c : List ℕ) → (((l ++ s) ++ p) ++ s) ++ c ≡ (l ++ (s ++ p)) ++ (s ++ c)
regroup5 l s p c = simp append_assoc

split : (names : List (List ℕ)) (value : Act) → act_text names value ≡ act_word (word_of_act value) ++ act_behind names value
split names (act.Raise op label) = ap (λ bytes. codes "raise " ++ bytes) (append_assoc (op_text op) (codes " ") (label_in_brackets names label))
split names (act.Release source target power content) =
    ap (λ bytes. codes "release" ++ bytes) (regroup5 (labels_text names source target) (codes " ") (power_text names power) (content_text names content))
split names (act.Expose source target power content) =
    ap (λ bytes. codes "expose" ++ bytes) (regroup5 (labels_text names source target) (codes " ") (power_text names power) (content_text names content))
split names (act.NewRef label value) = ap (λ bytes. codes "newref " ++ bytes) (append_assoc (label_in_brackets names label) (codes " ") (value_text names value))
split names (act.NewVar label value) = ap (λ bytes. codes "newvar " ++ bytes) (append_assoc (label_in_brackets names label) (codes " ") (option_text names value))
split names act.Step = refl
split names other = refl

ends : (names : List (List ℕ)) (value : Act) (rest : List ℕ) → Ends rest → Ends (act_behind names value ++ rest)
ends names act.Step rest e = e
ends names act.Read rest e = e
ends names act.Take rest e = e
ends names act.Wait rest e = e
ends names (act.Seal label) rest e = refl
ends names other rest e = refl

pub act_begins : (names : List (List ℕ)) → Begins (act_text names) (act_behind names) word_of_act act_word act_of
act_begins names = record { is_word = is_word; is_known = is_known; split = split names; ends = ends names }

-- an act over the names whose first word is this
abbrev pub Is : List (List ℕ) → ActWord → Act → Type 0
Is names t act = IsActOver names act × (word_of_act act ≡ t)

-- the sign behind an act
abbrev pub colon : List ℕ
colon = codes " : "

-- what a release shows, behind its word
shown : (names : List (List ℕ)) (old : List ℕ) (source target : Label) (one : List ℕ) (power : Priv) (two : List ℕ) (content : Content) (left : List ℕ) → Finds (both_text names) (AreLabelsOver names) old (source, target) one
    → Finds (blank_power names) (IsPowerOver names) one power two → Finds (blank_content_text names) (IsContentOver names) two content left
    → (s t : Label) (p : Priv) (c : Content) (rest : List ℕ) → IsActOver names (act.Release s t p c) → old ≡ release_behind names s t p c ++ (colon ++ rest)
    → (◌≡◌ {A = Label × Label} (source, target) (s, t)) × (power ≡ p) × (content ≡ c) × (left ≡ colon ++ rest)
shown names old source target one power two content left finds finds' finds'' s t p c rest o is =
    let end : List ℕ = colon ++ rest in
    let a = finds (s, t) (blank_power names p ++ (blank_content_text names c ++ end)) ((o.0.0, o.2.0), (o.0.1, o.2.1)) refl
    (is ∙ append_assoc (labels_text names s t ++ blank_power names p) (blank_content_text names c) end ∙ append_assoc (labels_text names s t) (blank_power names p) (blank_content_text names c ++ end)) in
    let b = finds' p (blank_content_text names c ++ end) (o.0.2, o.2.2) refl a.1 in
    let g = finds'' c end (o.0.3, o.2.3, o.3) refl b.1 in
    (a.0, b.0, g.0, g.1)

-- a release, and an exposure, behind its word
pub release : (names : List (List ℕ)) (old : List ℕ) (source target : Label) (one : List ℕ) (power : Priv) (two : List ℕ) (content : Content) (left : List ℕ) → Finds (both_text names) (AreLabelsOver names) old (source, target) one
    → Finds (blank_power names) (IsPowerOver names) one power two → Finds (blank_content_text names) (IsContentOver names) two content left
    → FindsBefore colon (act_behind names) (Is names do_.Release) old (act.Release source target power content) left
release names old source target one power two content left finds finds' finds'' (act.Release s t p c) rest o is =
    let h = shown names old source target one power two content left finds finds' finds'' s t p c rest o.0 is in
    (ap (λ (x : Label × Label). act.Release x.0 x.1 power content) h.0 ∙ ap (λ y. act.Release s t y content) h.1 ∙ ap (λ z. act.Release s t p z) h.2, h.3)
release names old source target one power two content left finds finds' finds'' other rest o is = absurd (cc)

pub exposure : (names : List (List ℕ)) (old : List ℕ) (source target : Label) (one : List ℕ) (power : Priv) (two : List ℕ) (content : Content) (left : List ℕ) → Finds (both_text names) (AreLabelsOver names) old (source, target) one
    → Finds (blank_power names) (IsPowerOver names) one power two → Finds (blank_content_text names) (IsContentOver names) two content left
    → FindsBefore colon (act_behind names) (Is names do_.Expose) old (act.Expose source target power content) left
exposure names old source target one power two content left finds finds' finds'' (act.Expose s t p c) rest o is =
    let h = shown names old source target one power two content left finds finds' finds'' s t p c rest o.0 is in
    (ap (λ (x : Label × Label). act.Expose x.0 x.1 power content) h.0 ∙ ap (λ y. act.Expose s t y content) h.1 ∙ ap (λ z. act.Expose s t p z) h.2, h.3)
exposure names old source target one power two content left finds finds' finds'' other rest o is = absurd (cc)
