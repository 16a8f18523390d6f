-- What is printed of a value, and what stands behind it, are those of no other: a reader that found the value would leave the rest.
use Rattle.std.proofs.Common.{◌≡◌, ℕ, zero, suc, ◌-◌, ◌^◌, ◌<◌, ◌≤◌, true, false, true≢false, All, List, [], ◌∷◌, ◌++◌, get_or, take, drop, refl, ap, sym, subst, ◌∙◌, arith, append_assoc, codes, Option, Some, None, Ok}
use Rattle.std.specs.Prelude.{decimal}
use Rattle.std.specs.Option.{option_map}
use Rattle.std.specs.List.{prefix_len}
use Rattle.std.specs.Fmt.{signed_decimal}
use Rattle.std.proofs.lemmas.Fmt.{decimal_injective}
use Rattle.std.proofs.lemmas.List.{append_cancel_left}
use Rattle.lio_clauses.specs.Names.{AreNames}
use Rattle.lio_clauses.specs.FormulaPrint.{formula_text}
use Rattle.lio_clauses.specs.FormulaText as formula_read
use Rattle.lio_clauses.proofs.PrintedLemmas.{reads_printed}
use Rattle.lio_labels.specs.declared.label.Label.{Label}
use Rattle.lio_labels.specs.declared.privilege.Priv.{Priv}
use Rattle.lio_labels.specs.LabelPrint.{label_text}
use Rattle.lio_labels.specs.LabelText.{reading}
use Rattle.lio_labels.proofs.TextLemmas.{printed_is_read}
use Rattle.lio_values.specs.declared.value.Handle.{Handle}
use Rattle.lio_values.specs.declared.value.Plain.{Plain}
use Rattle.lio_values.specs.declared.value.Plain.TheVariants.{Unit as unit, Flag, Whole, Bytes, Lab, Power, RefOf, VarOf, ResultOf, ChanOf, Items}
use Rattle.lio_values.specs.declared.value.Content.{Content}
use Rattle.lio_values.specs.declared.value.Content.TheVariants.{Kept, Faulted, Hidden}
use Rattle.lio_values.specs.declared.value.Value.{Value}
use Rattle.lio_values.specs.declared.value.Value.TheVariants.{Bare, Sealed}
use Rattle.lio_values.specs.declared.fault.Fault.{Fault}
use Rattle.lio_values.specs.declared.fault.FaultKind.{FaultKind}
use Rattle.lio_values.specs.declared.fault.FaultKind.TheVariants as fault
use Rattle.lio_values.specs.declared.act.Op.{Op}
use Rattle.lio_values.specs.declared.act.Op.TheVariants as op
use Rattle.lio_values.specs.declared.act.Act.{Act}
use Rattle.lio_values.specs.declared.act.Act.TheVariants as act
use Rattle.lio_values.specs.declared.act.Reply.{Reply}
use Rattle.lio_values.specs.declared.act.Reply.TheVariants as reply
use Rattle.lio_values.specs.Forest.{Forest}
use Rattle.lio_values.specs.ForestText.{further_text, items_text}
use Rattle.lio_values.specs.Quoted.{quoted}
use Rattle.lio_values.specs.PlainText.{label_in_brackets, plain_text}
use Rattle.lio_values.specs.ValueText.{content_text, fault_text, kind_text, labels_text, value_text}
use Rattle.lio_values.specs.Views.{forest_of, forest_of-values_of, values_of}
use Rattle.lio_events.specs.EntryText.{act_text, args_text, line_text, op_text, option_text, reply_text, target_text}
use Rattle.lio_events.specs.JournalText.{entry_text}
use Rattle.lio_events.specs.Printable.{IsRaising}
use Rattle.lio_syntax_lines.specs.Literals.{literal_of}
use Rattle.lio_syntax_lines.proofs.PrintedLemmas.{constant_is_literal, text_is_literal, whole_is_literal}
use Rattle.lio_events_reading.specs.declared.start.Start.TheVariants as start
use Rattle.lio_events_reading.specs.declared.words.PlainWord.{PlainWord}
use Rattle.lio_events_reading.specs.declared.words.PlainWord.TheVariants as tag
use Rattle.lio_events_reading.specs.Behind.{act_behind, kind_behind, op_named, reply_behind, word_of_act, word_of_kind, word_of_reply}
use Rattle.lio_events_reading.specs.Births.{begins_argument, birth_behind}
use Rattle.lio_events_reading.specs.Cut.{AreBytes, IsInside, IsWord, bracketed, is_inside, quoted_len}
use Rattle.lio_events_reading.specs.Fits.{TargetFits, ValueFits}
use Rattle.lio_events_reading.specs.Labels.{AreLabelsOver, blank_label, blank_power, both_text, power_inside}
use Rattle.lio_events_reading.specs.Laws.{TextIsOfOne}
use Rattle.lio_events_reading.specs.Lines.{IsTurnOver, turn_text}
use Rattle.lio_events_reading.specs.Lists.{is_no_end}
use Rattle.lio_events_reading.specs.Numbers as numbers
use Rattle.lio_events_reading.specs.Numbers.{AreLong, blank_decimal}
use Rattle.lio_events_reading.specs.Over.{AreValuesOver, IsActOver, IsBirthOver, IsContentOver, IsFaultOver, IsHandleOver, IsKindOver, IsLabelOver, IsOptionOver, IsPlainOver, IsPowerOver, IsPureOver, IsPureWithin, IsReplyOver, IsValueOver, IsValueWithin}
use Rattle.lio_events_reading.specs.Plains.{IsSingle, IsSingleOver, IsWordedOver, handle_behind, plain_behind, word_of_plain}
use Rattle.lio_events_reading.specs.Reading.{Ends, Finds, FindsBefore, is_word_byte}
use Rattle.lio_events_reading.specs.Start.{start_of}
use Rattle.lio_events_reading.specs.Values.{IsFaultedOver, IsSealedOver, blank_content_text, blank_option_text, blank_value_text, list_value}
use Rattle.lio_events_reading.specs.Words.{op_of}
use Rattle.lio_events_reading.proofs.ActLemmas.{act_begins, colon}
use Rattle.lio_events_reading.proofs.BirthLemmas.{args_end, finds_birth, no_colon, regroup}
use Rattle.lio_events_reading.proofs.CutLemmas.{finds_bracketed, finds_quoted, finds_word}
use Rattle.lio_events_reading.proofs.KindLemmas.{kind_begins}
use Rattle.lio_events_reading.proofs.LabelLemmas.{finds_label, finds_power, inside_formula, inside_label}
use Rattle.lio_events_reading.proofs.LineLemmas.{finds_line, is_read}
use Rattle.lio_events_reading.proofs.ListLemmas.{IsPureItem, apart, finds_bare, finds_list, finds_list_value, finds_no_list, finds_pures, finds_sealed_within, finds_values, further_end, no_end, no_list, pure_item, pures_each, value_within_all, values_each, within_all}
use Rattle.lio_events_reading.proofs.NumberLemmas.{digits_word, finds_long, finds_no_target, finds_target, first_digit, no_dash}
use Rattle.lio_events_reading.proofs.PlainLemmas.{Gives, finds_lab, finds_literal, finds_text, finds_worded, start_kind, starts_plain, whole_is_no_word, whole_word}
use Rattle.lio_events_reading.proofs.ReadingLemmas.{Begins, finds_before_by_word, finds_by_word, finds_two, regroup3}
use Rattle.lio_events_reading.proofs.ReplyLemmas.{reply_begins}
use Rattle.lio_events_reading.proofs.ValueLemmas.{finds_empty, finds_fault, finds_fault_content, finds_hidden, no_such}

-- each value is found at its text, and what stands behind it is left
abbrev Reads : {A : Type 0} → (A → List ℕ) → (A → Type 0) → Type 0
Reads {A} text over = (value : A) (rest : List ℕ) → over value → Ends rest → Finds text over (text value ++ rest) value rest

-- the same before a sign
abbrev ReadsBefore : {A : Type 0} → List ℕ → (A → List ℕ) → (A → Type 0) → Type 0
ReadsBefore {A} sign text over = (value : A) (rest : List ℕ) → over value → FindsBefore sign text over (text value ++ (sign ++ rest)) value (sign ++ rest)

-- words, and what stands in brackets and in quotes
word : Reads (λ word. word) IsWord
word w rest o e v r o' e' is =
    let old : List ℕ = w ++ rest in
    let f = finds_word old (take (prefix_len is_word_byte old) old) (drop (prefix_len is_word_byte old) old) refl refl in
    let one = f w rest o e refl in
    let two = f v r o' e' is in
    (sym one.0 ∙ two.0, sym one.1 ∙ two.1)

in-brackets : Reads bracketed IsInside
in-brackets text rest o e v r o' e' is =
    let old : List ℕ = bracketed text ++ rest in
    let one : List ℕ = drop 1 old in
    let f = finds_bracketed old one (take (prefix_len is_inside one) one) (drop (prefix_len is_inside one) one) (drop 1 (drop (prefix_len is_inside one) one)) refl refl refl refl in
    let a = f text rest o e refl in
    let b = f v r o' e' is in
    (sym a.0 ∙ b.0, sym a.1 ∙ b.1)

in-quotes : (text rest v r : List ℕ) → AreBytes text → AreBytes v → quoted text ++ rest ≡ quoted v ++ r → (quoted text ≡ quoted v) × (rest ≡ r)
in-quotes text rest v r o o' is =
    let old : List ℕ = quoted text ++ rest in
    let f = finds_quoted old (take (quoted_len true old) old) (drop (quoted_len true old) old) refl refl in
    let a = f text rest o refl in
    let b = f v r o' is in
    (sym a.0 ∙ b.0, sym a.1 ∙ b.1)

-- numbers
long : Reads decimal (λ n. n < 2 ^ 64)
long n rest o e = finds_long (decimal n ++ rest) (decimal n) rest n (word (decimal n) rest (digits_word n o) e) (λ m small is. decimal_injective n m o small is)

short : Reads decimal (λ n. n < 2 ^ 32)
short n rest o e m r o' e' is = long n rest (omega arith) e m r (omega arith) e' is

target : Reads target_text TargetFits
target None rest o e = finds_no_target (codes "-" ++ rest) (codes "-") rest (word (codes "-") rest refl e) refl
target (Some n) rest o e =
    let wide : n < 2 ^ 64 = omega arith in
    finds_target (decimal n ++ rest) (decimal n) rest n n (word (decimal n) rest (digits_word n wide) e) (no_dash (get_or (decimal n ++ rest) 0 0) (first_digit n rest wide)) (λ m small is. decimal_injective n m wide small is) (λ within. refl)

-- what stands behind a sign
behind : {A : Type 0} (sign : List ℕ) (text : A → List ℕ) (over : A → Type 0) → Reads text over → Reads (λ value. sign ++ text value) over
behind sign text over reads v rest o e w r o' e' is = reads v rest o e w r o' e' (append_cancel_left sign _ _ (sym (append_assoc sign (text v) rest) ∙ is ∙ append_assoc sign (text w) r))

-- labels and privileges
label : (names : List (List ℕ)) → AreNames names → Reads (label_in_brackets names) (IsLabelOver names)
label names known l rest o e =
    let read : reading names (label_text names l) ≡ Ok l = printed_is_read names l known o.1 o.0 in
    finds_label names (label_in_brackets names l ++ rest) (label_text names l) rest l known (in-brackets (label_text names l) rest (inside_label names l known o.0) e) (rw read refl)

labels : (names : List (List ℕ)) → AreNames names → Reads (both_text names) (AreLabelsOver names)
labels names known both rest o e =
    let blank : List ℕ = codes " " in
    let one : List ℕ = label_in_brackets names both.0 in
    let two : List ℕ = label_in_brackets names both.1 in
    finds_two (label_in_brackets names) (IsLabelOver names) (label_in_brackets names) (IsLabelOver names) (both_text names both ++ rest) (one ++ (blank ++ (two ++ rest))) both.0 (blank ++ (two ++ rest)) (two ++ rest) both.1 rest
    (sym (regroup3 one blank two rest)) (label names known both.0 (blank ++ (two ++ rest)) o.0 refl) refl (label names known both.1 rest o.1 e)

longs : Reads numbers.both_text AreLong
longs both rest o e =
    let blank : List ℕ = codes " " in
    finds_two decimal (λ n. n < 2 ^ 64) decimal (λ n. n < 2 ^ 64) (numbers.both_text both ++ rest) (decimal both.0 ++ (blank ++ (decimal both.1 ++ rest))) both.0 (blank ++ (decimal both.1 ++ rest)) (decimal both.1 ++ rest) both.1 rest
    (sym (regroup3 (decimal both.0) blank (decimal both.1) rest)) (long both.0 (blank ++ (decimal both.1 ++ rest)) o.0 refl) refl (long both.1 rest o.1 e)

power : (names : List (List ℕ)) → AreNames names → Reads (power_inside names) (IsPowerOver names)
power names known p rest o e =
    let read : formula_read.reading names (formula_text names p.power) ≡ Ok p.power = reads_printed names p.power known o.1.0 o.1.1 o.0 in
    finds_power names (power_inside names p ++ rest) (formula_text names p.power) rest p known (in-brackets (formula_text names p.power) rest (inside_formula names p.power known o.0) e) (rw read refl)

blank-power : (names : List (List ℕ)) → AreNames names → Reads (blank_power names) (IsPowerOver names)
blank-power names known = behind (codes " power") (power_inside names) (IsPowerOver names) (power names known)

blank-label : (names : List (List ℕ)) → AreNames names → Reads (blank_label names) (IsLabelOver names)
blank-label names known = behind (codes " ") (label_in_brackets names) (IsLabelOver names) (label names known)

handle : (names : List (List ℕ)) → AreNames names → Reads (handle_behind names) (IsHandleOver names)
handle names known h rest o e k r o' e' is =
    let inside : (decimal h.number ++ label_in_brackets names h.label) ++ rest ≡ (decimal k.number ++ label_in_brackets names k.label) ++ r = ap (λ (bytes : List ℕ). drop 1 bytes) is in
    let a = short h.number (label_in_brackets names h.label ++ rest) o.1.0 refl k.number (label_in_brackets names k.label ++ r) o'.1.0 refl
    (sym (append_assoc (decimal h.number) (label_in_brackets names h.label) rest) ∙ inside ∙ append_assoc (decimal k.number) (label_in_brackets names k.label) r) in
    let b = label names known h.label rest (o.0, o.1.1) e k.label r (o'.0, o'.1.1) e' a.1 in
    let make : ℕ → Label → Handle = λ n l. record { number = n; label = l } in
    (ap (λ n. make n h.label) a.0 ∙ ap (make k.number) b.0, b.1)

-- plain values that are no lists
gives : (names : List (List ℕ)) (w : List ℕ) (found : Plain) → literal_of names w ≡ Some found → Gives names w found
gives names w found is plain s says = let same : Some found ≡ Some plain = sym is ∙ says in cc

worded-single : (names : List (List ℕ)) (old : List ℕ) (found : Plain) (left : List ℕ) → start_of old ≡ start.Word → Finds (plain_text names) (IsWordedOver names) old found left → Finds (plain_text names) (IsSingleOver names) old found left
worded-single names old found left begins finds (Bytes text) rest o e is = let no : start.Word ≡ start.Text = sym begins ∙ ap start_of is in absurd (cc)
worded-single names old found left begins finds (Lab l) rest o e is = let no : start.Word ≡ start.Label = sym begins ∙ ap start_of is in absurd (cc)
worded-single names old found left begins finds (Items f) rest o e is = absurd o.1
worded-single names old found left begins finds plain rest o e is = finds plain rest (o.0, tt) e is

-- what stands behind the word of a plain value, before another's with that word
plain-behind : (names : List (List ℕ)) (t : PlainWord) → AreNames names → (value : Plain) (rest : List ℕ) → IsPlainOver names value → Ends rest → word_of_plain value ≡ Some t
    → Finds (plain_behind names) (λ plain. IsPlainOver names plain × (word_of_plain plain ≡ Some t)) (plain_behind names value ++ rest) value rest
plain-behind names t known (Power p) rest o e some (Power q) r o' e' is = let g = power names known p rest o e q r o'.0 e' is in (ap Power g.0, g.1)
plain-behind names t known (RefOf h) rest o e some (RefOf k) r o' e' is = let g = handle names known h rest o e k r o'.0 e' is in (ap RefOf g.0, g.1)
plain-behind names t known (VarOf h) rest o e some (VarOf k) r o' e' is = let g = handle names known h rest o e k r o'.0 e' is in (ap VarOf g.0, g.1)
plain-behind names t known (ResultOf h) rest o e some (ResultOf k) r o' e' is = let g = handle names known h rest o e k r o'.0 e' is in (ap ResultOf g.0, g.1)
plain-behind names t known (ChanOf h) rest o e some (ChanOf k) r o' e' is = let g = handle names known h rest o e k r o'.0 e' is in (ap ChanOf g.0, g.1)
plain-behind names t known value rest o e some other r o' e' is = let same : word_of_plain value ≡ word_of_plain other = some ∙ sym o'.1 in absurd (cc)

single : (names : List (List ℕ)) → AreNames names → Reads (plain_text names) (IsSingleOver names)
single names known (Bytes text) rest o e =
    finds_text names (quoted text ++ rest) (quoted text) rest (Bytes text) refl (λ v r o' is. in-quotes text rest v r o.0.1 o' is) (gives names (quoted text) (Bytes text) (text_is_literal names text o.0.1))
single names known (Lab l) rest o e = finds_lab names (label_in_brackets names l ++ rest) l rest refl (label names known l rest o.0 e)
single names known (Items f) rest o e = absurd o.1
single names known unit rest o e = worded-single names _ unit rest refl (finds_literal names _ (codes "unit") rest unit (word (codes "unit") rest refl e) refl (gives names (codes "unit") unit (constant_is_literal names).2))
single names known (Flag true) rest o e = worded-single names _ (Flag true) rest refl (finds_literal names _ (codes "true") rest (Flag true) (word (codes "true") rest refl e) refl (gives names (codes "true") (Flag true) (constant_is_literal names).0))
single names known (Flag false) rest o e = worded-single names _ (Flag false) rest refl (finds_literal names _ (codes "false") rest (Flag false) (word (codes "false") rest refl e) refl (gives names (codes "false") (Flag false) (constant_is_literal names).1))
single names known (Whole z) rest o e =
    worded-single names _ (Whole z) rest (starts_plain names (Whole z) rest o.0.1)
    (finds_literal names _ (signed_decimal z) rest (Whole z) (word (signed_decimal z) rest (whole_word z o.0.1) e) (whole_is_no_word z o.0.1) (gives names (signed_decimal z) (Whole z) (whole_is_literal names z o.0.1)))
single names known (Power p) rest o e =
    worded-single names _ (Power p) rest refl (finds_worded names _ (codes "power") (power_inside names p ++ rest) tag.Power (Power p) rest (word (codes "power") (power_inside names p ++ rest) refl refl) refl (plain-behind names tag.Power known (Power p) rest o.0 e refl))
single names known (RefOf h) rest o e =
    worded-single names _ (RefOf h) rest refl (finds_worded names _ (codes "ref") (handle_behind names h ++ rest) tag.Ref (RefOf h) rest (word (codes "ref") (handle_behind names h ++ rest) refl refl) refl (plain-behind names tag.Ref known (RefOf h) rest o.0 e refl))
single names known (VarOf h) rest o e =
    worded-single names _ (VarOf h) rest refl (finds_worded names _ (codes "var") (handle_behind names h ++ rest) tag.Var (VarOf h) rest (word (codes "var") (handle_behind names h ++ rest) refl refl) refl (plain-behind names tag.Var known (VarOf h) rest o.0 e refl))
single names known (ResultOf h) rest o e =
    worded-single names _ (ResultOf h) rest refl (finds_worded names _ (codes "result") (handle_behind names h ++ rest) tag.Result (ResultOf h) rest (word (codes "result") (handle_behind names h ++ rest) refl refl) refl (plain-behind names tag.Result known (ResultOf h) rest o.0 e refl))
single names known (ChanOf h) rest o e =
    worded-single names _ (ChanOf h) rest refl (finds_worded names _ (codes "chan") (handle_behind names h ++ rest) tag.Chan (ChanOf h) rest (word (codes "chan") (handle_behind names h ++ rest) refl refl) refl (plain-behind names tag.Chan known (ChanOf h) rest o.0 e refl))

-- the values of a list before its end
further : (names : List (List ℕ)) (over : Value → Type 0) → Reads (value_text names) over → (xs ys : List Value) (rest r : List ℕ) → All over xs → All over ys
    → further_text names (forest_of xs) ++ (codes "]" ++ rest) ≡ further_text names (forest_of ys) ++ (codes "]" ++ r) → (xs ≡ ys) × (rest ≡ r)
further names over reads [] [] rest r o o' is = (refl, ap (λ (bytes : List ℕ). drop 1 bytes) is)
further names over reads [] (y ∷ ys) rest r o o' is = let no : 93 ≡ 44 = ap (λ (bytes : List ℕ). get_or bytes 0 0) is in absurd (omega (arith, no))
further names over reads (x ∷ xs) [] rest r o o' is = let no : 44 ≡ 93 = ap (λ (bytes : List ℕ). get_or bytes 0 0) is in absurd (omega (arith, no))
further names over reads (x ∷ xs) (y ∷ ys) rest r o o' is =
    let inside : (value_text names x ++ further_text names (forest_of xs)) ++ (codes "]" ++ rest) ≡ (value_text names y ++ further_text names (forest_of ys)) ++ (codes "]" ++ r) = ap (λ (bytes : List ℕ). drop 2 bytes) is in
    let a = reads x (further_text names (forest_of xs) ++ (codes "]" ++ rest)) (o 0 x (omega arith)) (further_end names xs rest) y (further_text names (forest_of ys) ++ (codes "]" ++ r)) (o' 0 y (omega arith)) (further_end names ys r)
    (sym (append_assoc (value_text names x) (further_text names (forest_of xs)) (codes "]" ++ rest)) ∙ inside ∙ append_assoc (value_text names y) (further_text names (forest_of ys)) (codes "]" ++ r)) in
    let b = further names over reads xs ys rest r (λ k d within. o (suc k) d (omega arith)) (λ k d within. o' (suc k) d (omega arith)) a.1 in
    (ap (λ (v : Value). v ∷ xs) a.0 ∙ ap (λ (vs : List Value). y ∷ vs) b.0, b.1)

items : (names : List (List ℕ)) (over : Value → Type 0) → Reads (value_text names) over → ((value : Value) → over value → ValueFits value) → (xs ys : List Value) (rest r : List ℕ) → All over xs → All over ys
    → items_text names (forest_of xs) ++ (codes "]" ++ rest) ≡ items_text names (forest_of ys) ++ (codes "]" ++ r) → (xs ≡ ys) × (rest ≡ r)
items names over reads fits [] [] rest r o o' is = (refl, ap (λ (bytes : List ℕ). drop 1 bytes) is)
items names over reads fits [] (y ∷ ys) rest r o o' is =
    let tail : List ℕ = further_text names (forest_of ys) ++ (codes "]" ++ r) in
    let yes : true ≡ is_no_end (value_text names y ++ tail) = sym (no_end names y tail (fits y (o' 0 y (omega arith)))) in
    let no : false ≡ is_no_end (value_text names y ++ tail) = ap is_no_end (is ∙ append_assoc (value_text names y) (further_text names (forest_of ys)) (codes "]" ++ r)) in
    absurd (true≢false (yes ∙ sym no))
items names over reads fits (x ∷ xs) [] rest r o o' is =
    let tail : List ℕ = further_text names (forest_of xs) ++ (codes "]" ++ rest) in
    let yes : is_no_end (value_text names x ++ tail) ≡ true = no_end names x tail (fits x (o 0 x (omega arith))) in
    let no : is_no_end (value_text names x ++ tail) ≡ false = ap is_no_end (sym (append_assoc (value_text names x) (further_text names (forest_of xs)) (codes "]" ++ rest)) ∙ is) in
    absurd (true≢false (sym yes ∙ no))
items names over reads fits (x ∷ xs) (y ∷ ys) rest r o o' is =
    let a = reads x (further_text names (forest_of xs) ++ (codes "]" ++ rest)) (o 0 x (omega arith)) (further_end names xs rest) y (further_text names (forest_of ys) ++ (codes "]" ++ r)) (o' 0 y (omega arith)) (further_end names ys r)
    (sym (append_assoc (value_text names x) (further_text names (forest_of xs)) (codes "]" ++ rest)) ∙ is ∙ append_assoc (value_text names y) (further_text names (forest_of ys)) (codes "]" ++ r)) in
    let b = further names over reads xs ys rest r (λ k d within. o (suc k) d (omega arith)) (λ k d within. o' (suc k) d (omega arith)) a.1 in
    (ap (λ (v : Value). v ∷ xs) a.0 ∙ ap (λ (vs : List Value). y ∷ vs) b.0, b.1)

-- the values of a list, at its text
list-values : (names : List (List ℕ)) (over : Value → Type 0) → Reads (value_text names) over → ((value : Value) → over value → ValueFits value) → (f : Forest) (rest : List ℕ) → All over (values_of f)
    → (all : List Value) (r : List ℕ) → All over all → value_text names (list_value f) ++ rest ≡ value_text names (list_value (forest_of all)) ++ r → (values_of f ≡ all) × (rest ≡ r)
list-values names over reads fits f rest o all r o' is =
    let inside : (items_text names f ++ codes "]") ++ rest ≡ (items_text names (forest_of all) ++ codes "]") ++ r = ap (λ (bytes : List ℕ). drop 1 bytes) is in
    items names over reads fits (values_of f) all rest r o o'
    (ap (λ (g : Forest). items_text names g ++ (codes "]" ++ rest)) (forest_of-values_of f) ∙ sym (append_assoc (items_text names f) (codes "]") rest) ∙ inside ∙ append_assoc (items_text names (forest_of all)) (codes "]") r)

-- pure values, by their depth
item-pure : (names : List (List ℕ)) (depth : ℕ) → Reads (plain_text names) (IsPureWithin names depth) → Reads (value_text names) (IsPureItem names depth)
item-pure names depth reads (Bare plain) rest o e = pure_item names depth (plain_text names plain ++ rest) plain rest (reads plain rest o e)
item-pure names depth reads (Sealed l content) rest o e = absurd (true≢false (sym o.0.2))

less : (P : ℕ → Type 0) (depth : ℕ) → P depth → P (suc depth - 1)
less P depth p = let same : depth ≡ suc depth - 1 = omega arith in subst P same p

unlisted : (plain : Plain) → IsSingle plain → start_kind plain ≡ start.List → ⊥
unlisted (Items f) s is = s
unlisted (Bytes text) s is = absurd (cc)
unlisted (Lab l) s is = absurd (cc)
unlisted plain s is = absurd (cc)

pure-within : (names : List (List ℕ)) → AreNames names → (depth : ℕ) → Reads (plain_text names) (IsPureWithin names depth)
pure-within names known zero (Items f) rest o e = absurd (no_list names f o)
pure-within names known zero plain rest o e = finds_no_list names 0 (plain_text names plain ++ rest) plain rest (λ begins. refl) (single names known plain rest ((o.0.0, o.0.1), tt) e)
pure-within names known (suc depth) (Items f) rest o e =
    let few : 1 ≤ suc depth = omega arith in
    let inner : Reads (plain_text names) (IsPureWithin names (suc depth - 1)) = less (λ (d : ℕ). Reads (plain_text names) (IsPureWithin names d)) depth (pure-within names known depth) in
    let deep = pures_each names (suc depth - 1) f o.0.0 o.0.1.1 o.0.2 (omega (arith, o.1)) in
    let over : All (IsPureItem names (suc depth - 1)) (values_of f) = apart _ f deep in
    finds_list names (suc depth) (plain_text names (Items f) ++ rest) f rest refl
    (finds_pures names (suc depth) (plain_text names (Items f) ++ rest) f rest few (list-values names (IsPureItem names (suc depth - 1)) (item-pure names (suc depth - 1) inner) (λ v p. p.0.1) f rest over))
pure-within names known (suc depth) plain rest o e =
    finds_no_list names (suc depth) (plain_text names plain ++ rest) plain rest (λ begins. absurd (unlisted plain tt (sym (starts_plain names plain rest o.0.1) ∙ begins))) (single names known plain rest ((o.0.0, o.0.1), tt) e)

pure : (names : List (List ℕ)) → AreNames names → Reads (plain_text names) (IsPureOver names)
pure names known v rest o e w r o' e' is = pure-within names known 8 v rest (o, within_all v o.1) e w r (o', within_all w o'.1) e' is

-- what begins with a word of its own: it is enough that what stands behind the word is found before that of others with this word
by-word : {A T : Type 0} {text after : A → List ℕ} {tag : A → T} {spelled : T → List ℕ} {known : List ℕ → Option T} (over : A → Type 0) → Begins text after tag spelled known
    → ((value : A) (rest : List ℕ) → over value → Ends rest → Finds after (λ other. over other × (tag other ≡ tag value)) (after value ++ rest) value rest) → Reads text over
by-word {text = text} {after} {tag} {spelled} over b each value rest o e =
    let mid : List ℕ = after value ++ rest in
    let is : spelled (tag value) ++ mid ≡ text value ++ rest = sym (ap (λ (bytes : List ℕ). bytes ++ rest) (b.split value) ∙ append_assoc (spelled (tag value)) (after value) rest) in
    subst (λ (old : List ℕ). Finds text over old value rest) is
    (finds_by_word over b (spelled (tag value) ++ mid) (spelled (tag value)) mid (tag value) value rest (word (spelled (tag value)) mid (b.is_word (tag value)) (b.ends value rest e)) (b.is_known (tag value)) (each value rest o e))

before-by-word : {A T : Type 0} {text after : A → List ℕ} {tag : A → T} {spelled : T → List ℕ} {known : List ℕ → Option T} (over : A → Type 0) → Begins text after tag spelled known
    → (sign : List ℕ) → ((rest : List ℕ) → Ends (sign ++ rest))
    → ((value : A) (rest : List ℕ) → over value → FindsBefore sign after (λ other. over other × (tag other ≡ tag value)) (after value ++ (sign ++ rest)) value (sign ++ rest)) → ReadsBefore sign text over
before-by-word {text = text} {after} {tag} {spelled} over b sign ends each value rest o =
    let mid : List ℕ = after value ++ (sign ++ rest) in
    let is : spelled (tag value) ++ mid ≡ text value ++ (sign ++ rest) = sym (ap (λ (bytes : List ℕ). bytes ++ (sign ++ rest)) (b.split value) ∙ append_assoc (spelled (tag value)) (after value) (sign ++ rest)) in
    subst (λ (old : List ℕ). FindsBefore sign text over old value (sign ++ rest)) is
    (finds_before_by_word over b sign (spelled (tag value) ++ mid) (spelled (tag value)) mid (tag value) value (sign ++ rest) ends (word (spelled (tag value)) mid (b.is_word (tag value)) (b.ends value (sign ++ rest) (ends rest)))
    (b.is_known (tag value)) (each value rest o))

-- kinds of faults, and faults
kind-behind : (names : List (List ℕ)) → AreNames names → (value : FaultKind) (rest : List ℕ) → IsKindOver names value → Ends rest
    → Finds (kind_behind names) (λ other. IsKindOver names other × (word_of_kind other ≡ word_of_kind value)) (kind_behind names value ++ rest) value rest
kind-behind names known (fault.FlowCurrent a b) rest o e (fault.FlowCurrent x y) r o' e' is =
    let g = labels names known (a, b) rest ((o.0.0, o.1.0), (o.0.1, o.1.1)) e (x, y) r ((o'.0.0.0, o'.0.1.0), (o'.0.0.1, o'.0.1.1)) e' is in (ap (λ (p : Label × Label). fault.FlowCurrent p.0 p.1) g.0, g.1)
kind-behind names known (fault.FlowClearance a b) rest o e (fault.FlowClearance x y) r o' e' is =
    let g = labels names known (a, b) rest ((o.0.0, o.1.0), (o.0.1, o.1.1)) e (x, y) r ((o'.0.0.0, o'.0.1.0), (o'.0.0.1, o'.0.1.1)) e' is in (ap (λ (p : Label × Label). fault.FlowClearance p.0 p.1) g.0, g.1)
kind-behind names known (fault.FlowRaise a b) rest o e (fault.FlowRaise x y) r o' e' is =
    let g = labels names known (a, b) rest ((o.0.0, o.1.0), (o.0.1, o.1.1)) e (x, y) r ((o'.0.0.0, o'.0.1.0), (o'.0.0.1, o'.0.1.1)) e' is in (ap (λ (p : Label × Label). fault.FlowRaise p.0 p.1) g.0, g.1)
kind-behind names known (fault.LabelWide a b) rest o e (fault.LabelWide x y) r o' e' is =
    let g = labels names known (a, b) rest ((o.0.0, o.1.0), (o.0.1, o.1.1)) e (x, y) r ((o'.0.0.0, o'.0.1.0), (o'.0.0.1, o'.0.1.1)) e' is in (ap (λ (p : Label × Label). fault.LabelWide p.0 p.1) g.0, g.1)
kind-behind names known (fault.FlowPrivilege p a b) rest o e (fault.FlowPrivilege q x y) r o' e' is =
    let first = blank-power names known p (labels_text names a b ++ rest) (o.0.0, o.1.0) refl q (labels_text names x y ++ r) (o'.0.0.0, o'.0.1.0) refl
    (sym (append_assoc (blank_power names p) (labels_text names a b) rest) ∙ is ∙ append_assoc (blank_power names q) (labels_text names x y) r) in
    let g = labels names known (a, b) rest ((o.0.1, o.1.1), (o.0.2, o.1.2)) e (x, y) r ((o'.0.0.1, o'.0.1.1), (o'.0.0.2, o'.0.1.2)) e' first.1 in
    (ap (λ (s : Priv). fault.FlowPrivilege s a b) first.0 ∙ ap (λ (l : Label × Label). fault.FlowPrivilege q l.0 l.1) g.0, g.1)
kind-behind names known (fault.NoCells a b) rest o e (fault.NoCells x y) r o' e' is = let g = longs (a, b) rest o.1 e (x, y) r o'.0.1 e' is in (ap (λ (p : ℕ × ℕ). fault.NoCells p.0 p.1) g.0, g.1)
kind-behind names known (fault.ChildTurns a b) rest o e (fault.ChildTurns x y) r o' e' is = let g = longs (a, b) rest o.1 e (x, y) r o'.0.1 e' is in (ap (λ (p : ℕ × ℕ). fault.ChildTurns p.0 p.1) g.0, g.1)
kind-behind names known (fault.User p) rest o e (fault.User q) r o' e' is = let g = behind (codes " ") (plain_text names) (IsPureOver names) (pure names known) p rest o e q r o'.0 e' is in (ap fault.User g.0, g.1)
kind-behind names known fault.BadType rest o e fault.BadType r o' e' is = (refl, is)
kind-behind names known fault.Overflow rest o e fault.Overflow r o' e' is = (refl, is)
kind-behind names known fault.DivZero rest o e fault.DivZero r o' e' is = (refl, is)
kind-behind names known fault.TooLong rest o e fault.TooLong r o' e' is = (refl, is)
kind-behind names known fault.NoTurns rest o e fault.NoTurns r o' e' is = (refl, is)
kind-behind names known fault.Depth rest o e fault.Depth r o' e' is = (refl, is)
kind-behind names known value rest o e other r o' e' is = let same : word_of_kind other ≡ word_of_kind value = o'.1 in absurd (cc)

kind : (names : List (List ℕ)) → AreNames names → Reads (kind_text names) (IsKindOver names)
kind names known = by-word (IsKindOver names) (kind_begins names) (kind-behind names known)

whole-fault : (names : List (List ℕ)) → AreNames names → Reads (fault_text names) (IsFaultOver names)
whole-fault names known f rest o e =
    let sign : List ℕ = codes " at " in
    let mid : List ℕ = sign ++ (label_in_brackets names f.at ++ rest) in
    let old : kind_text names f.kind ++ mid ≡ fault_text names f ++ rest = sym (regroup3 (kind_text names f.kind) sign (label_in_brackets names f.at) rest) in
    subst (λ (bytes : List ℕ). Finds (fault_text names) (IsFaultOver names) bytes f rest) old
    (finds_fault names (kind_text names f.kind ++ mid) f.kind mid (label_in_brackets names f.at ++ rest) f.at rest (kind names known f.kind mid (o.0.0, o.1.0, o.2) refl) refl (label names known f.at rest (o.0.1, o.1.1) e))

-- contents
faulted : (names : List (List ℕ)) → AreNames names → (f : Fault) (rest : List ℕ) → IsFaultOver names f → Finds (content_text names) (IsFaultedOver names) (content_text names (Faulted f) ++ rest) (Faulted f) rest
faulted names known f rest o Hidden r o' e' is = absurd o'.1
faulted names known f rest o (Kept plain) r o' e' is = absurd o'.1
faulted names known f rest o (Faulted k) r o' e' is =
    let close : List ℕ = codes ")" in
    let inside : (fault_text names f ++ close) ++ rest ≡ (fault_text names k ++ close) ++ r = ap (λ (bytes : List ℕ). drop 6 bytes) is in
    let g = whole-fault names known f (close ++ rest) o refl k (close ++ r) (o'.0.0, o'.0.1, o'.0.2) refl (sym (append_assoc (fault_text names f) close rest) ∙ inside ∙ append_assoc (fault_text names k) close r) in
    (ap Faulted g.0, ap (λ (bytes : List ℕ). drop 1 bytes) g.1)

content : (names : List (List ℕ)) → AreNames names → Reads (content_text names) (IsContentOver names)
content names known Hidden rest o e other r o' e' is = finds_hidden names (codes "hidden" ++ rest) rest refl refl other r o' e' is
content names known (Faulted f) rest o e other r o' e' is = finds_fault_content names (content_text names (Faulted f) ++ rest) (Faulted f) rest refl (faulted names known f rest o) other r o' e' is
content names known (Kept plain) rest o e Hidden r o' e' is = absurd (no_such plain start.Hidden refl (sym (ap start_of is) ∙ starts_plain names plain rest o.1))
content names known (Kept plain) rest o e (Faulted f) r o' e' is = absurd (no_such plain start.Fault refl (sym (ap start_of is) ∙ starts_plain names plain rest o.1))
content names known (Kept plain) rest o e (Kept other) r o' e' is = let g = pure names known plain rest o e other r o' e' is in (ap Kept g.0, g.1)

-- values
regroup-sealed : (a b c d e : List ℕ) → (((a ++ b) ++ c) ++ d) ++ e ≡ a ++ (b ++ (c ++ (d ++ e)))
regroup-sealed a b c d e = simp append_assoc

sealed : (names : List (List ℕ)) → AreNames names → (l : Label) (c : Content) (rest : List ℕ) → IsValueOver names (Sealed l c) → Finds (value_text names) (IsSealedOver names) (value_text names (Sealed l c) ++ rest) (Sealed l c) rest
sealed names known l c rest o (Bare plain) r o' e' is = absurd o'.1
sealed names known l c rest o (Sealed m d) r o' e' is =
    let open_ : List ℕ = codes "(" in
    let close : List ℕ = codes ")" in
    let group : (a b x : List ℕ) → (((a ++ open_) ++ b) ++ close) ++ x ≡ a ++ (open_ ++ (b ++ (close ++ x))) = λ a b x. regroup-sealed a open_ b close x in
    let inside : ((label_in_brackets names l ++ open_) ++ content_text names c ++ close) ++ rest ≡ ((label_in_brackets names m ++ open_) ++ content_text names d ++ close) ++ r = ap (λ (bytes : List ℕ). drop 6 bytes) is in
    let a = label names known l (open_ ++ (content_text names c ++ (close ++ rest))) (o.0.0, o.1.0) refl m (open_ ++ (content_text names d ++ (close ++ r))) (o'.0.0.0, o'.0.1.0) refl
    (sym (group (label_in_brackets names l) (content_text names c) rest) ∙ inside ∙ group (label_in_brackets names m) (content_text names d) r) in
    let b = content names known c (close ++ rest) (o.0.1, o.1.1, o.2) refl d (close ++ r) (o'.0.0.1, o'.0.1.1, o'.0.2) refl (ap (λ (bytes : List ℕ). drop 1 bytes) a.1) in
    (ap (λ (k : Label). Sealed k c) a.0 ∙ ap (Sealed m) b.0, ap (λ (bytes : List ℕ). drop 1 bytes) b.1)

value-within : (names : List (List ℕ)) → AreNames names → (depth : ℕ) → Reads (value_text names) (IsValueWithin names depth)
value-within names known depth (Sealed l c) rest o e = finds_sealed_within names depth (value_text names (Sealed l c) ++ rest) (Sealed l c) rest refl (sealed names known l c rest o.0)
value-within names known zero (Bare (Items f)) rest o e = absurd (omega (arith, o.1))
value-within names known (suc depth) (Bare (Items f)) rest o e =
    let few : 1 ≤ suc depth = omega arith in
    let inner : Reads (value_text names) (IsValueWithin names (suc depth - 1)) = less (λ (d : ℕ). Reads (value_text names) (IsValueWithin names d)) depth (value-within names known depth) in
    let deep = values_each names (suc depth - 1) f o.0.0 o.0.1.1 o.0.2 (omega (arith, o.1)) in
    let over : All (IsValueWithin names (suc depth - 1)) (values_of f) = apart _ f deep in
    finds_list_value names (suc depth) (value_text names (list_value f) ++ rest) f rest refl
    (finds_values names (suc depth) (value_text names (list_value f) ++ rest) f rest few (list-values names (IsValueWithin names (suc depth - 1)) inner (λ v p. p.0.1) f rest over))
value-within names known depth (Bare plain) rest o e =
    finds_bare names depth (plain_text names plain ++ rest) plain rest (λ begins. no_such plain start.Sealed refl (sym begins ∙ starts_plain names plain rest o.0.1))
    (λ begins. absurd (unlisted plain tt (sym (starts_plain names plain rest o.0.1) ∙ begins))) (single names known plain rest ((o.0.0, o.0.1), tt) e)

value : (names : List (List ℕ)) → AreNames names → Reads (value_text names) (IsValueOver names)
value names known v rest o e w r o' e' is = value-within names known 8 v rest (o, value_within_all v o.1) e w r (o', value_within_all w o'.1) e' is

option : (names : List (List ℕ)) → AreNames names → Reads (option_text names) (IsOptionOver names)
option names known None rest o e other r o' e' is = finds_empty names (codes "empty" ++ rest) rest refl refl other r o' e' is
option names known (Some v) rest o e (Some w) r o' e' is = let g = value names known v rest o e w r o' e' is in (ap Some g.0, g.1)
option names known (Some (Sealed l c)) rest o e None r o' e' is = let no : start.Sealed ≡ start.Empty = ap start_of is in absurd (cc)
option names known (Some (Bare plain)) rest o e None r o' e' is = absurd (no_such plain start.Empty refl (sym (ap start_of is) ∙ starts_plain names plain rest o.1))

blank-value : (names : List (List ℕ)) → AreNames names → Reads (blank_value_text names) (IsValueOver names)
blank-value names known = behind (codes " ") (value_text names) (IsValueOver names) (value names known)

blank-content : (names : List (List ℕ)) → AreNames names → Reads (blank_content_text names) (IsContentOver names)
blank-content names known = behind (codes " ") (content_text names) (IsContentOver names) (content names known)

blank-option : (names : List (List ℕ)) → AreNames names → Reads (blank_option_text names) (IsOptionOver names)
blank-option names known = behind (codes " ") (option_text names) (IsOptionOver names) (option names known)

blank-number : Reads blank_decimal (λ n. n < 2 ^ 32)
blank-number = behind (codes " ") decimal (λ n. n < 2 ^ 32) short

-- the arguments of a birth before the colon
args : (names : List (List ℕ)) → AreNames names → (xs ys : List Value) (rest r : List ℕ) → AreValuesOver names xs → AreValuesOver names ys → args_text names xs ++ (colon ++ rest) ≡ args_text names ys ++ (colon ++ r)
    → (xs ≡ ys) × (rest ≡ r)
args names known [] [] rest r o o' is = (refl, ap (λ (bytes : List ℕ). drop 3 bytes) is)
args names known [] (y ∷ ys) rest r o o' is =
    let tail : List ℕ = args_text names ys ++ (colon ++ r) in
    let here : colon ++ rest ≡ codes " " ++ (value_text names y ++ tail) = is ∙ append_assoc (codes " " ++ value_text names y) (args_text names ys) (colon ++ r) in
    let yes : begins_argument (codes " " ++ (value_text names y ++ tail)) ≡ true = no_colon names y tail (o' 0 y (omega arith)).1 in
    let no : false ≡ begins_argument (codes " " ++ (value_text names y ++ tail)) = ap begins_argument here in
    absurd (true≢false (sym yes ∙ sym no))
args names known (x ∷ xs) [] rest r o o' is =
    let tail : List ℕ = args_text names xs ++ (colon ++ rest) in
    let here : codes " " ++ (value_text names x ++ tail) ≡ colon ++ r = sym (append_assoc (codes " " ++ value_text names x) (args_text names xs) (colon ++ rest)) ∙ is in
    let yes : begins_argument (codes " " ++ (value_text names x ++ tail)) ≡ true = no_colon names x tail (o 0 x (omega arith)).1 in
    let no : begins_argument (codes " " ++ (value_text names x ++ tail)) ≡ false = ap begins_argument here in
    absurd (true≢false (sym yes ∙ no))
args names known (x ∷ xs) (y ∷ ys) rest r o o' is =
    let a = blank-value names known x (args_text names xs ++ (colon ++ rest)) (o 0 x (omega arith)) (args_end names xs rest) y (args_text names ys ++ (colon ++ r)) (o' 0 y (omega arith)) (args_end names ys r)
    (sym (append_assoc (blank_value_text names x) (args_text names xs) (colon ++ rest)) ∙ is ∙ append_assoc (blank_value_text names y) (args_text names ys) (colon ++ r)) in
    let b = args names known xs ys rest r (λ k d within. o (suc k) d (omega arith)) (λ k d within. o' (suc k) d (omega arith)) a.1 in
    (ap (λ (v : Value). v ∷ xs) a.0 ∙ ap (λ (vs : List Value). y ∷ vs) b.0, b.1)

birth : (names : List (List ℕ)) → AreNames names → ReadsBefore colon (birth_behind names) (IsBirthOver names)
birth names known b rest o =
    let end : List ℕ = colon ++ rest in
    let five : List ℕ = args_text names b.args ++ end in
    let four : List ℕ = blank_decimal b.cells ++ five in
    let three : List ℕ = blank_decimal b.first ++ four in
    let two : List ℕ = blank_decimal b.turns ++ three in
    let one : List ℕ = labels_text names b.result b.clearance ++ two in
    let over : AreValuesOver names b.args = λ k d within. (o.0.2 k d within, o.1.args k d within, o.2 k d within) in
    let old : blank_decimal b.proc_at ++ one ≡ birth_behind names b ++ end =
    sym (regroup (codes " ") (decimal b.proc_at) (labels_text names b.result b.clearance) (decimal b.turns) (decimal b.first) (decimal b.cells) (args_text names b.args) end) in
    subst (λ (bytes : List ℕ). FindsBefore colon (birth_behind names) (IsBirthOver names) bytes b end) old
    (finds_birth names (blank_decimal b.proc_at ++ one) b.proc_at one b.result b.clearance two b.turns three b.first four b.cells five b.args end
    (blank-number b.proc_at one o.1.proc_at refl) (labels names known (b.result, b.clearance) two ((o.0.0, o.1.result), (o.0.1, o.1.clearance)) refl)
    (blank-number b.turns three o.1.turns refl) (blank-number b.first four o.1.first refl) (blank-number b.cells five o.1.cells (args_end names b.args rest))
    (λ vs r o' is. let g = args names known b.args vs rest r over o' is in (g.0, ap (λ (bytes : List ℕ). colon ++ bytes) g.1)))

-- operations that raise
named : (asked : Op) → IsRaising asked → option_map op_named (op_of (op_text asked)) ≡ Some asked
named op.Unlabel is = refl
named op.Taint is = refl
named op.Read is = refl
named op.Wait is = refl
named op.Take is = refl
named op.Put is = refl
named other is = absurd is

op-word : (asked : Op) → IsRaising asked → IsWord (op_text asked)
op-word op.Unlabel is = refl
op-word op.Taint is = refl
op-word op.Read is = refl
op-word op.Wait is = refl
op-word op.Take is = refl
op-word op.Put is = refl
op-word other is = absurd is

raised : Reads op_text IsRaising
raised a rest o e b r o' e' is =
    let g = word (op_text a) rest (op-word a o) e (op_text b) r (op-word b o') e' is in
    let some : Some a ≡ Some b = sym (named a o) ∙ ap (λ (text : List ℕ). option_map op_named (op_of text)) g.0 ∙ named b o' in
    (cc, g.1)

-- a value behind a label
labelled : {A : Type 0} (names : List (List ℕ)) → AreNames names → (text : A → List ℕ) (over : A → Type 0) → Reads (λ value. codes " " ++ text value) over → (l m : Label) (v w : A) (rest r : List ℕ) → IsLabelOver names l → IsLabelOver names m
    → over v → over w → Ends rest → Ends r → (blank_label names l ++ (codes " " ++ text v)) ++ rest ≡ (blank_label names m ++ (codes " " ++ text w)) ++ r → (l ≡ m) × (v ≡ w) × (rest ≡ r)
labelled names known text over reads l m v w rest r lo mo o o' e e' is =
    let a = blank-label names known l ((codes " " ++ text v) ++ rest) lo refl m ((codes " " ++ text w) ++ r) mo refl (sym (append_assoc (blank_label names l) (codes " " ++ text v) rest) ∙ is ∙ append_assoc (blank_label names m) (codes " " ++ text w) r) in
    let b = reads v rest o e w r o' e' a.1 in
    (a.0, b.0, b.1)

-- what a release and an exposure show
shown : (names : List (List ℕ)) → AreNames names → (s t : Label) (p : Priv) (c : Content) (rest : List ℕ) (s' t' : Label) (p' : Priv) (c' : Content) (r : List ℕ) → IsActOver names (act.Release s t p c) → IsActOver names (act.Release s' t' p' c') → Ends rest → Ends r
    → act_behind names (act.Release s t p c) ++ rest ≡ act_behind names (act.Release s' t' p' c') ++ r → (◌≡◌ {A = Label × Label} (s, t) (s', t')) × (p ≡ p') × (c ≡ c') × (rest ≡ r)
shown names known s t p c rest s' t' p' c' r o o' e e' is =
    let front : (x y : Label) (q : Priv) (d : Content) (tail : List ℕ) → act_behind names (act.Release x y q d) ++ tail ≡ labels_text names x y ++ (blank_power names q ++ (blank_content_text names d ++ tail)) =
    λ x y q d tail. regroup3 (labels_text names x y) (blank_power names q) (blank_content_text names d) tail in
    let a = labels names known (s, t) (blank_power names p ++ (blank_content_text names c ++ rest)) ((o.0.0, o.2.0), (o.0.1, o.2.1)) refl (s', t') (blank_power names p' ++ (blank_content_text names c' ++ r)) ((o'.0.0, o'.2.0), (o'.0.1, o'.2.1)) refl
    (sym (front s t p c rest) ∙ is ∙ front s' t' p' c' r) in
    let b = blank-power names known p (blank_content_text names c ++ rest) (o.0.2, o.2.2) refl p' (blank_content_text names c' ++ r) (o'.0.2, o'.2.2) refl a.1 in
    let g = blank-content names known c rest (o.0.3, o.2.3, o.3) e c' r (o'.0.3, o'.2.3, o'.3) e' b.1 in
    (a.0, b.0, g.0, g.1)

-- acts, before the colon
act-behind : (names : List (List ℕ)) → AreNames names → (value : Act) (rest : List ℕ) → IsActOver names value
    → FindsBefore colon (act_behind names) (λ other. IsActOver names other × (word_of_act other ≡ word_of_act value)) (act_behind names value ++ (colon ++ rest)) value (colon ++ rest)
act-behind names known act.Step rest o act.Step r o' is = (refl, is)
act-behind names known act.Read rest o act.Read r o' is = (refl, is)
act-behind names known act.Take rest o act.Take r o' is = (refl, is)
act-behind names known act.Wait rest o act.Wait r o' is = (refl, is)
act-behind names known (act.Seal l) rest o (act.Seal m) r o' is = let g = blank-label names known l (colon ++ rest) (o.0, o.2) refl m (colon ++ r) (o'.0.0, o'.0.2) refl is in (ap act.Seal g.0, g.1)
act-behind names known (act.Lower l) rest o (act.Lower m) r o' is = let g = blank-label names known l (colon ++ rest) (o.0, o.2) refl m (colon ++ r) (o'.0.0, o'.0.2) refl is in (ap act.Lower g.0, g.1)
act-behind names known (act.Raise a l) rest o (act.Raise b m) r o' is =
    let front : (x : Op) (k : Label) (tail : List ℕ) → act_behind names (act.Raise x k) ++ tail ≡ (codes " " ++ op_text x) ++ (blank_label names k ++ tail) = λ x k tail. append_assoc (codes " " ++ op_text x) (blank_label names k) tail in
    let f = behind (codes " ") op_text IsRaising raised a (blank_label names l ++ (colon ++ rest)) o.1 refl b (blank_label names m ++ (colon ++ r)) o'.0.1 refl (sym (front a l (colon ++ rest)) ∙ is ∙ front b m (colon ++ r)) in
    let g = blank-label names known l (colon ++ rest) (o.0, o.2) refl m (colon ++ r) (o'.0.0, o'.0.2) refl f.1 in
    (ap (λ (x : Op). act.Raise x l) f.0 ∙ ap (act.Raise b) g.0, g.1)
act-behind names known (act.Release s t p c) rest o (act.Release s' t' p' c') r o' is =
    let h = shown names known s t p c (colon ++ rest) s' t' p' c' (colon ++ r) o o'.0 refl refl is in
    (ap (λ (x : Label × Label). act.Release x.0 x.1 p c) h.0 ∙ ap (λ y. act.Release s' t' y c) h.1 ∙ ap (λ z. act.Release s' t' p' z) h.2, h.3)
act-behind names known (act.Expose s t p c) rest o (act.Expose s' t' p' c') r o' is =
    let h = shown names known s t p c (colon ++ rest) s' t' p' c' (colon ++ r) o o'.0 refl refl is in
    (ap (λ (x : Label × Label). act.Expose x.0 x.1 p c) h.0 ∙ ap (λ y. act.Expose s' t' y c) h.1 ∙ ap (λ z. act.Expose s' t' p' z) h.2, h.3)
act-behind names known (act.NewRef l v) rest o (act.NewRef m w) r o' is =
    let g = labelled names known (value_text names) (IsValueOver names) (blank-value names known) l m v w (colon ++ rest) (colon ++ r) (o.0.0, o.2.0) (o'.0.0.0, o'.0.2.0) (o.0.1, o.2.1, o.3) (o'.0.0.1, o'.0.2.1, o'.0.3) refl refl is in
    (ap (λ (k : Label). act.NewRef k v) g.0 ∙ ap (act.NewRef m) g.1, g.2)
act-behind names known (act.NewVar l v) rest o (act.NewVar m w) r o' is =
    let g = labelled names known (option_text names) (IsOptionOver names) (blank-option names known) l m v w (colon ++ rest) (colon ++ r) (o.0.0, o.2.0) (o'.0.0.0, o'.0.2.0) (o.0.1, o.2.1, o.3) (o'.0.0.1, o'.0.2.1, o'.0.3) refl refl is in
    (ap (λ (k : Label). act.NewVar k v) g.0 ∙ ap (act.NewVar m) g.1, g.2)
act-behind names known (act.Fork b) rest o (act.Fork d) r o' is = let g = birth names known b rest (o.0, o.2, o.3) d r (o'.0.0, o'.0.2, o'.0.3) is in (ap act.Fork g.0, g.1)
act-behind names known (act.Spawn b) rest o (act.Spawn d) r o' is = let g = birth names known b rest (o.0, o.2, o.3) d r (o'.0.0, o'.0.2, o'.0.3) is in (ap act.Spawn g.0, g.1)
act-behind names known (act.Write v) rest o (act.Write w) r o' is = let g = blank-value names known v (colon ++ rest) (o.0, o.2, o.3) refl w (colon ++ r) (o'.0.0, o'.0.2, o'.0.3) refl is in (ap act.Write g.0, g.1)
act-behind names known (act.Put v) rest o (act.Put w) r o' is = let g = blank-value names known v (colon ++ rest) (o.0, o.2, o.3) refl w (colon ++ r) (o'.0.0, o'.0.2, o'.0.3) refl is in (ap act.Put g.0, g.1)
act-behind names known (act.Ended c) rest o (act.Ended d) r o' is = let g = blank-content names known c (colon ++ rest) (o.0, o.2, o.3) refl d (colon ++ r) (o'.0.0, o'.0.2, o'.0.3) refl is in (ap act.Ended g.0, g.1)
act-behind names known (act.Send text) rest o (act.Send other) r o' is =
    let g = in-quotes text (colon ++ rest) other (colon ++ r) o.2 o'.0.2 (ap (λ (bytes : List ℕ). drop 1 bytes) is) in
    let one : literal_of names (quoted text) ≡ Some (Bytes text) = text_is_literal names text o.2 in
    let two : literal_of names (quoted other) ≡ Some (Bytes other) = text_is_literal names other o'.0.2 in
    let same : Some (Bytes text) ≡ Some (Bytes other) = sym one ∙ ap (literal_of names) g.0 ∙ two in
    let texts : text ≡ other = cc in
    (ap act.Send texts, g.1)
act-behind names known value rest o other r o' is = let same : word_of_act other ≡ word_of_act value = o'.1 in absurd (cc)

whole-act : (names : List (List ℕ)) → AreNames names → ReadsBefore colon (act_text names) (IsActOver names)
whole-act names known = before-by-word (IsActOver names) (act_begins names) colon (λ rest. refl) (act-behind names known)

-- replies
reply-behind : (names : List (List ℕ)) → AreNames names → (value : Reply) (rest : List ℕ) → IsReplyOver names value → Ends rest
    → Finds (reply_behind names) (λ other. IsReplyOver names other × (word_of_reply other ≡ word_of_reply value)) (reply_behind names value ++ rest) value rest
reply-behind names known reply.Done rest o e reply.Done r o' e' is = (refl, is)
reply-behind names known (reply.Got v) rest o e (reply.Got w) r o' e' is = let g = blank-value names known v rest o e w r o'.0 e' is in (ap reply.Got g.0, g.1)
reply-behind names known (reply.Told c) rest o e (reply.Told d) r o' e' is = let g = blank-content names known c rest o e d r o'.0 e' is in (ap reply.Told g.0, g.1)
reply-behind names known (reply.Refused f) rest o e (reply.Refused k) r o' e' is = let g = behind (codes " ") (fault_text names) (IsFaultOver names) (whole-fault names known) f rest o e k r o'.0 e' is in (ap reply.Refused g.0, g.1)
reply-behind names known value rest o e other r o' e' is = let same : word_of_reply other ≡ word_of_reply value = o'.1 in absurd (cc)

whole-reply : (names : List (List ℕ)) → AreNames names → Reads (reply_text names) (IsReplyOver names)
whole-reply names known = by-word (IsReplyOver names) (reply_begins names) (reply-behind names known)

-- an act, and the reply to it
turn : (names : List (List ℕ)) → AreNames names → Reads (turn_text names) (IsTurnOver names)
turn names known t rest o e u r o' e' is =
    let front : (x : Act × Reply) (tail : List ℕ) → turn_text names x ++ tail ≡ act_text names x.0 ++ (colon ++ (reply_text names x.1 ++ tail)) = λ x tail. regroup3 (act_text names x.0) colon (reply_text names x.1) tail in
    let a = whole-act names known t.0 (reply_text names t.1 ++ rest) o.0 u.0 (reply_text names u.1 ++ r) o'.0 (sym (front t rest) ∙ is ∙ front u r) in
    let b = whole-reply names known t.1 rest o.1 e u.1 r o'.1 e' (ap (λ (bytes : List ℕ). drop 3 bytes) a.1) in
    let make : Act → Reply → Act × Reply = λ x y. (x, y) in
    (ap (λ x. make x t.1) a.0 ∙ ap (make u.0) b.0, b.1)

-- lines
line-parts : (d s t l a c r n : List ℕ) → ((((((((d ++ s) ++ t) ++ s) ++ l) ++ s) ++ a) ++ c) ++ r) ++ n ≡ d ++ (s ++ (t ++ (s ++ (l ++ (s ++ (((a ++ c) ++ r) ++ n))))))
line-parts d s t l a c r n = simp append_assoc

pub text_is_of_one : TextIsOfOne
unfolding entry_text line_text
text_is_of_one names one other known o o' same =
    let blank : List ℕ = codes " " in
    let end : List ℕ = codes "\n" in
    let line : List ℕ = line_text names one in
    let both : Act × Reply = (one.act, one.reply) in
    let six : List ℕ = turn_text names both ++ end in
    let four : List ℕ = label_in_brackets names one.at ++ (blank ++ six) in
    let two : List ℕ = target_text one.target ++ (blank ++ four) in
    let next : List ℕ = decimal one.actor ++ (blank ++ two) in
    let line_is : line ≡ next = line-parts (decimal one.actor) blank (target_text one.target) (label_in_brackets names one.at) (act_text names one.act) colon (reply_text names one.reply) end in
    let ticket = long one.ticket (blank ++ next) o.fits.ticket refl in
    let all : decimal one.ticket ++ (blank ++ next) ≡ entry_text names true one = ap (λ (bytes : List ℕ). decimal one.ticket ++ (blank ++ bytes)) (sym line_is) ∙ sym (append_assoc (decimal one.ticket) blank line) in
    let found = finds_line names one.ticket next one.actor (blank ++ two) two one.target (blank ++ four) four one.at (blank ++ six) six one.act one.reply end
    (short one.actor (blank ++ two) o.fits.actor refl) refl (target one.target (blank ++ four) o.fits.target refl) refl (label names known one.at (blank ++ six) (o.printable.at, o.fits.at) refl) refl
    (turn names known both end ((o.printable.act, o.printable.raise, o.fits.act, o.printable.pure.0), (o.printable.reply, o.fits.reply, o.printable.pure.1)) refl) in
    is_read names (entry_text names true one) (decimal one.ticket ++ (blank ++ next)) one.ticket (blank ++ next) next one all ticket refl found other o' (sym same)
