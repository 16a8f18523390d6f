-- Plain values are found.
use Rattle.std.proofs.Common.{◌≡◌, ℕ, suc, ◌^◌, ◌<◌, ◌≤◌, true, false, List, [], ◌∷◌, ◌++◌, length, get_or, refl, ap, sym, ◌∙◌, arith, codes, ne_eqb, Some, None, ℤ, pos, negsuc}
use Rattle.std.specs.Prelude.{decimal}
use Rattle.std.specs.Fmt.{signed_decimal}
use Rattle.std.specs.List.{list_all}
use Rattle.std.proofs.lemmas.Bool.{and_parts}
use Rattle.std.proofs.lemmas.Bool.Decides.{nat_tests}
use Rattle.std.proofs.lemmas.Fmt.{digits_decimal, decimal_nonempty}
use Rattle.lio_labels.specs.declared.label.Label.{Label}
use Rattle.lio_values.specs.declared.value.Plain.{Plain}
use Rattle.lio_values.specs.declared.value.Plain.TheVariants.{Unit as unit, Flag, Whole, Bytes, Lab, Power, RefOf, VarOf, ResultOf, ChanOf, Items}
use Rattle.lio_values.specs.Quoted.{quoted}
use Rattle.lio_values.specs.PlainText.{label_in_brackets, plain_text}
use Rattle.lio_syntax_lines.specs.Literals.{is_digit, is_whole, literal_of}
use Rattle.lio_syntax_lines.proofs.PrintedLemmas.{own, constant_is_literal, whole_is_literal, text_is_literal}
use Rattle.lio_events_reading.specs.declared.words.PlainWord.{PlainWord}
use Rattle.lio_events_reading.specs.declared.words.PlainWord.TheVariants as tag
use Rattle.lio_events_reading.specs.declared.start.Start.{Start}
use Rattle.lio_events_reading.specs.declared.start.Start.TheVariants as start
use Rattle.lio_events_reading.specs.Words.{plain_of}
use Rattle.lio_events_reading.specs.Start.{start_at, start_of}
use Rattle.lio_events_reading.specs.Plains.{handle_behind, plain_behind, word_of_plain, IsSingle, IsSingleOver, IsWordedOver}
use Rattle.lio_events_reading.specs.Labels.{power_inside}
use Rattle.lio_events_reading.specs.Fits.{PlainFits}
use Rattle.lio_events_reading.specs.Over.{IsLabelOver, IsPlainOver}
use Rattle.lio_events_reading.specs.Cut.{IsWord, AreBytes}
use Rattle.lio_events_reading.specs.Reading.{Finds}
use Rattle.lio_events_reading.proofs.NumberLemmas.{digits_word, first_digit}

-- what begins with a digit or a sign
starts_number : (first third : ℕ) → is_digit first ≡ true → start_at first third ≡ start.Word
starts_number first third e =
    let low : 48 ≤ first = grind (arith, nat_tests) in
    let high : first ≤ 57 = grind (arith, nat_tests) in
    rw (ne_eqb first 34 (omega arith), ne_eqb first 60 (omega arith), ne_eqb first 91 (omega arith), ne_eqb first 104 (omega arith), ne_eqb first 115 (omega arith), ne_eqb first 101 (omega arith), ne_eqb first 102 (omega arith)) refl

-- what a plain value begins with
abbrev pub start_kind : Plain → Start
start_kind (Bytes text) = start.Text
start_kind (Lab label) = start.Label
start_kind unit = start.Word
start_kind (Flag flag) = start.Word
start_kind (Whole number) = start.Word
start_kind (Power privilege) = start.Word
start_kind (RefOf handle) = start.Word
start_kind (VarOf handle) = start.Word
start_kind (ResultOf handle) = start.Word
start_kind (ChanOf handle) = start.Word
start_kind (Items items) = start.List

starts_whole : (z : ℤ) (rest : List ℕ) → is_whole z ≡ true → start_of (signed_decimal z ++ rest) ≡ start.Word
starts_whole (pos n) rest e =
    let small : n < 2 ^ 64 = grind (arith, nat_tests) in
    starts_number (get_or (decimal n ++ rest) 0 0) (get_or (decimal n ++ rest) 2 0) (first_digit n rest small)
starts_whole (negsuc n) rest e = refl

pub starts_plain : (names : List (List ℕ)) (plain : Plain) (rest : List ℕ) → PlainFits plain → start_of (plain_text names plain ++ rest) ≡ start_kind plain
starts_plain names (Bytes text) rest fits = refl
starts_plain names (Lab label) rest fits = refl
starts_plain names unit rest fits = refl
starts_plain names (Flag true) rest fits = refl
starts_plain names (Flag false) rest fits = refl
starts_plain names (Whole number) rest fits = starts_whole number rest fits
starts_plain names (Power privilege) rest fits = refl
starts_plain names (RefOf handle) rest fits = refl
starts_plain names (VarOf handle) rest fits = refl
starts_plain names (ResultOf handle) rest fits = refl
starts_plain names (ChanOf handle) rest fits = refl
starts_plain names (Items items) rest fits = refl

-- a whole is a word, and begins with none of the words of privileges and handles
pub whole_word : (z : ℤ) → is_whole z ≡ true → IsWord (signed_decimal z)
whole_word (pos n) e = let small : n < 2 ^ 64 = grind (arith, nat_tests) in digits_word n small
whole_word (negsuc n) e = let small : suc n < 2 ^ 64 = grind (arith, nat_tests) in digits_word (suc n) small

no_plain_word : (byte : ℕ) (bytes : List ℕ) → is_digit byte ≡ true → plain_of (byte ∷ bytes) ≡ None
no_plain_word byte bytes e =
    let high : byte ≤ 57 = grind (arith, nat_tests) in
    rw (ne_eqb 112 byte (omega arith), ne_eqb 114 byte (omega arith), ne_eqb 118 byte (omega arith), ne_eqb 99 byte (omega arith)) refl

no_word_of_digits : (digits : List ℕ) → 0 < length digits → list_all is_digit digits ≡ true → plain_of digits ≡ None
no_word_of_digits [] some all = absurd (omega arith)
no_word_of_digits (byte ∷ bytes) some all = no_plain_word byte bytes (and_parts (is_digit byte) (list_all is_digit bytes) all).0

pub whole_is_no_word : (z : ℤ) → is_whole z ≡ true → plain_of (signed_decimal z) ≡ None
whole_is_no_word (pos n) e =
    let small : n < 2 ^ 64 = grind (arith, nat_tests) in no_word_of_digits (decimal n) (decimal_nonempty n small) (digits_decimal own n small)
whole_is_no_word (negsuc n) e = refl

-- what a literal's word gives
abbrev pub Gives : List (List ℕ) → List ℕ → Plain → Type 0
Gives names word found = (plain : Plain) → IsSingle plain → literal_of names word ≡ Some plain → found ≡ plain

pub finds_literal : (names : List (List ℕ)) (old word left : List ℕ) (found : Plain) → Finds (λ word. word) IsWord old word left → plain_of word ≡ None → Gives names word found
    → Finds (plain_text names) (IsWordedOver names) old found left
finds_literal names old word left found finds none gives unit rest o e is =
    let g = finds (codes "unit") rest refl e is in (gives unit tt (ap (literal_of names) g.0 ∙ (constant_is_literal names).2), g.1)
finds_literal names old word left found finds none gives (Flag true) rest o e is =
    let g = finds (codes "true") rest refl e is in (gives (Flag true) tt (ap (literal_of names) g.0 ∙ (constant_is_literal names).0), g.1)
finds_literal names old word left found finds none gives (Flag false) rest o e is =
    let g = finds (codes "false") rest refl e is in (gives (Flag false) tt (ap (literal_of names) g.0 ∙ (constant_is_literal names).1), g.1)
finds_literal names old word left found finds none gives (Whole z) rest o e is =
    let g = finds (signed_decimal z) rest (whole_word z o.0.1) e is in (gives (Whole z) tt (ap (literal_of names) g.0 ∙ whole_is_literal names z o.0.1), g.1)
finds_literal names old word left found finds none gives (Bytes text) rest o e is = absurd o.1
finds_literal names old word left found finds none gives (Lab label) rest o e is = absurd o.1
finds_literal names old word left found finds none gives (Items items) rest o e is = absurd o.1
finds_literal names old word left found finds none gives (Power p) rest o e is =
    let g = finds (codes "power") (power_inside names p ++ rest) refl refl is in
    let some : None ≡ Some tag.Power = sym none ∙ ap plain_of g.0 in absurd (cc)
finds_literal names old word left found finds none gives (RefOf h) rest o e is =
    let g = finds (codes "ref") (handle_behind names h ++ rest) refl refl is in
    let some : None ≡ Some tag.Ref = sym none ∙ ap plain_of g.0 in absurd (cc)
finds_literal names old word left found finds none gives (VarOf h) rest o e is =
    let g = finds (codes "var") (handle_behind names h ++ rest) refl refl is in
    let some : None ≡ Some tag.Var = sym none ∙ ap plain_of g.0 in absurd (cc)
finds_literal names old word left found finds none gives (ResultOf h) rest o e is =
    let g = finds (codes "result") (handle_behind names h ++ rest) refl refl is in
    let some : None ≡ Some tag.Result = sym none ∙ ap plain_of g.0 in absurd (cc)
finds_literal names old word left found finds none gives (ChanOf h) rest o e is =
    let g = finds (codes "chan") (handle_behind names h ++ rest) refl refl is in
    let some : None ≡ Some tag.Chan = sym none ∙ ap plain_of g.0 in absurd (cc)

-- a plain value over the names whose first word is this
abbrev pub Is : List (List ℕ) → PlainWord → Plain → Type 0
Is names t plain = IsPlainOver names plain × (word_of_plain plain ≡ Some t)

pub finds_worded : (names : List (List ℕ)) (old word mid : List ℕ) (t : PlainWord) (found : Plain) (left : List ℕ) → Finds (λ word. word) IsWord old word mid → plain_of word ≡ Some t
    → Finds (plain_behind names) (Is names t) mid found left → Finds (plain_text names) (IsWordedOver names) old found left
finds_worded names old word mid t found left finds some finds' unit rest o e is =
    let g = finds (codes "unit") rest refl e is in let none : Some t ≡ None = sym some ∙ ap plain_of g.0 in absurd (cc)
finds_worded names old word mid t found left finds some finds' (Flag true) rest o e is =
    let g = finds (codes "true") rest refl e is in let none : Some t ≡ None = sym some ∙ ap plain_of g.0 in absurd (cc)
finds_worded names old word mid t found left finds some finds' (Flag false) rest o e is =
    let g = finds (codes "false") rest refl e is in let none : Some t ≡ None = sym some ∙ ap plain_of g.0 in absurd (cc)
finds_worded names old word mid t found left finds some finds' (Whole z) rest o e is =
    let g = finds (signed_decimal z) rest (whole_word z o.0.1) e is in
    let none : Some t ≡ None = sym some ∙ ap plain_of g.0 ∙ whole_is_no_word z o.0.1 in absurd (cc)
finds_worded names old word mid t found left finds some finds' (Bytes text) rest o e is = absurd o.1
finds_worded names old word mid t found left finds some finds' (Lab label) rest o e is = absurd o.1
finds_worded names old word mid t found left finds some finds' (Items items) rest o e is = absurd o.1
finds_worded names old word mid t found left finds some finds' (Power p) rest o e is =
    let g = finds (codes "power") (power_inside names p ++ rest) refl refl is in
    finds' (Power p) rest (o.0, sym (sym some ∙ ap plain_of g.0)) e g.1
finds_worded names old word mid t found left finds some finds' (RefOf h) rest o e is =
    let g = finds (codes "ref") (handle_behind names h ++ rest) refl refl is in
    finds' (RefOf h) rest (o.0, sym (sym some ∙ ap plain_of g.0)) e g.1
finds_worded names old word mid t found left finds some finds' (VarOf h) rest o e is =
    let g = finds (codes "var") (handle_behind names h ++ rest) refl refl is in
    finds' (VarOf h) rest (o.0, sym (sym some ∙ ap plain_of g.0)) e g.1
finds_worded names old word mid t found left finds some finds' (ResultOf h) rest o e is =
    let g = finds (codes "result") (handle_behind names h ++ rest) refl refl is in
    finds' (ResultOf h) rest (o.0, sym (sym some ∙ ap plain_of g.0)) e g.1
finds_worded names old word mid t found left finds some finds' (ChanOf h) rest o e is =
    let g = finds (codes "chan") (handle_behind names h ++ rest) refl refl is in
    finds' (ChanOf h) rest (o.0, sym (sym some ∙ ap plain_of g.0)) e g.1

-- by what the value begins with
pub finds_text : (names : List (List ℕ)) (old word left : List ℕ) (found : Plain) → start_of old ≡ start.Text → ((text rest : List ℕ) → AreBytes text → old ≡ quoted text ++ rest → (word ≡ quoted text) × (left ≡ rest))
    → Gives names word found → Finds (plain_text names) (IsSingleOver names) old found left
finds_text names old word left found begins finds gives (Bytes text) rest o e is =
    let g = finds text rest o.0.1 is in (gives (Bytes text) tt (ap (literal_of names) g.0 ∙ text_is_literal names text o.0.1), g.1)
finds_text names old word left found begins finds gives unit rest o e is = let no : start.Text ≡ start.Word = sym begins ∙ ap start_of is in absurd (cc)
finds_text names old word left found begins finds gives plain rest o e is =
    let no : start.Text ≡ start_kind plain = sym begins ∙ ap start_of is ∙ starts_plain names plain rest o.0.1 in absurd (cc)

pub finds_lab : (names : List (List ℕ)) (old : List ℕ) (found : Label) (left : List ℕ) → start_of old ≡ start.Label → Finds (label_in_brackets names) (IsLabelOver names) old found left
    → Finds (plain_text names) (IsSingleOver names) old (Lab found) left
finds_lab names old found left begins finds (Lab label) rest o e is = let g = finds label rest o.0 e is in (ap Lab g.0, g.1)
finds_lab names old found left begins finds unit rest o e is = let no : start.Label ≡ start.Word = sym begins ∙ ap start_of is in absurd (cc)
finds_lab names old found left begins finds plain rest o e is =
    let no : start.Label ≡ start_kind plain = sym begins ∙ ap start_of is ∙ starts_plain names plain rest o.0.1 in absurd (cc)

-- a text alone
pub finds_sent : (names : List (List ℕ)) (old word left : List ℕ) (found : Plain) (bytes : List ℕ) → ((text rest : List ℕ) → AreBytes text → old ≡ quoted text ++ rest → (word ≡ quoted text) × (left ≡ rest))
    → Gives names word found → found ≡ Bytes bytes → Finds quoted AreBytes old bytes left
finds_sent names old word left found bytes finds gives are text rest o e is =
    let g = finds text rest o is in
    let same : Bytes bytes ≡ Bytes text = sym are ∙ gives (Bytes text) tt (ap (literal_of names) g.0 ∙ text_is_literal names text o) in
    ((cc), g.1)

pub finds_not_sent : (names : List (List ℕ)) (old word left : List ℕ) (found : Plain) (bytes : List ℕ) → ((text rest : List ℕ) → AreBytes text → old ≡ quoted text ++ rest → (word ≡ quoted text) × (left ≡ rest))
    → Gives names word found → ((text : List ℕ) → found ≡ Bytes text → ⊥) → Finds quoted AreBytes old bytes left
finds_not_sent names old word left found bytes finds gives none text rest o e is =
    let g = finds text rest o is in absurd (none text (gives (Bytes text) tt (ap (literal_of names) g.0 ∙ text_is_literal names text o)))

pub none_are_bytes : (bytes : List ℕ) → bytes ≡ [] → AreBytes bytes
none_are_bytes bytes e = rw e refl
