-- The bytes of names and of the text of labels.
use Rattle.std.proofs.Common.{◌≡◌, ℕ, suc, ◌+◌, ◌<◌, ◌==◌, Bool, true, false, not, ◌&&◌, ◌||◌, List, [], ◌∷◌, ◌++◌, length, get_or, map, refl, ap, sym, arith, ◌∙◌, ne_eqb, Option, Some, None, is_none, All, true≢false, codes}
use Rattle.std.specs.Prelude.{nat_lt, if◌then◌else◌}
use Rattle.std.proofs.lemmas.Bool.Decides.{nat_tests}
use Rattle.std.proofs.lemmas.Bool.{and_parts}
use Rattle.std.specs.List.{list_all}
use Rattle.lio_clauses.specs.Names.{AreNames, is_letter, is_name_byte, may_stand, bad_place, name_fault}
use Rattle.lio_clauses.specs.FormulaPrint as formula
use Rattle.lio_clauses.specs.FormulaPrint.{joined, name_of, clause_text, formula_text}
use Rattle.lio_labels.specs.declared.label.Label.{Label}
use Rattle.lio_labels.specs.LabelPrint.{AreNamed, label_text}
use Rattle.lio_syntax_lines.specs.Literals.{is_name, is_reserved}
use Rattle.lio_syntax_lines.specs.Words.{is_blank}
use Rattle.lio_syntax_lines.proofs.SolidLemmas.{is_solid, is_plain_word, is_in_label, begins_label}

-- a test of two lists, one after the other
pub list_all-append : {X : Type 0} (p : X → Bool) (xs ys : List X) → list_all p (xs ++ ys) ≡ (list_all p xs && list_all p ys)
list_all-append p [] ys = refl
list_all-append p (x ∷ xs) ys = by (p x) (list_all-append p xs ys)
  where
    by : (b : Bool) → list_all p (xs ++ ys) ≡ (list_all p xs && list_all p ys) → (b && list_all p (xs ++ ys)) ≡ ((b && list_all p xs) && list_all p ys)
    by true e = e
    by false e = refl

pub both : {X : Type 0} (p : X → Bool) (xs ys : List X) → list_all p xs ≡ true → list_all p ys ≡ true → list_all p (xs ++ ys) ≡ true
both p xs ys e f = list_all-append p xs ys ∙ (rw (e, f) refl)

-- a weaker test
pub list_all-weaker : {X : Type 0} (p q : X → Bool) → ((x : X) → p x ≡ true → q x ≡ true) → (xs : List X) → list_all p xs ≡ true → list_all q xs ≡ true
list_all-weaker p q weaker [] e = refl
list_all-weaker p q weaker (x ∷ xs) e =
    let parts = and_parts (p x) (list_all p xs) e in
    rw (weaker x parts.0, list_all-weaker p q weaker xs parts.1) refl

-- names have the bytes of names
named_step : (place byte : ℕ) → 0 < place → may_stand place byte ≡ true → is_name_byte byte ≡ true
named_step place byte later e =
    let parts = and_parts (nat_lt place 32) (if place == 0 then is_letter byte else is_name_byte byte) e in
    sym (ap (λ b. if b then is_letter byte else is_name_byte byte) (ne_eqb place 0 (omega arith))) ∙ parts.1

named_cons : (place byte : ℕ) (bytes : List ℕ) → 0 < place → bad_place place (byte ∷ bytes) ≡ None → (bad_place (place + 1) bytes ≡ None → list_all is_name_byte bytes ≡ true)
    → (b : Bool) → may_stand place byte ≡ b → list_all is_name_byte (byte ∷ bytes) ≡ true
named_cons place byte bytes later e rest true is =
    let more : bad_place (place + 1) bytes ≡ None = sym (ap (λ b. if b then bad_place (place + 1) bytes else Some place) is) ∙ e in
    rw (named_step place byte later is, rest more) refl
named_cons place byte bytes later e rest false is =
    let some : Some place ≡ None = sym (ap (λ b. if b then bad_place (place + 1) bytes else Some place) is) ∙ e in absurd (cc)

named_bytes : (place : ℕ) (bytes : List ℕ) → 0 < place → bad_place place bytes ≡ None → list_all is_name_byte bytes ≡ true
named_bytes place [] later e = refl
named_bytes place (byte ∷ bytes) later e = named_cons place byte bytes later e (named_bytes (place + 1) bytes (omega arith)) (may_stand place byte) refl

-- a name begins with a letter, and has the bytes of names
pub record Named (name : List ℕ) : Type 0 where
  pub first : ℕ
  pub rest : List ℕ
  pub is : name ≡ first ∷ rest
  pub letter : is_letter first ≡ true
  pub bytes : list_all is_name_byte rest ≡ true

named_first : (byte : ℕ) (bytes : List ℕ) → name_fault (byte ∷ bytes) ≡ None → (b : Bool) → may_stand 0 byte ≡ b → Named (byte ∷ bytes)
named_first byte bytes e true is =
    let more : bad_place (0 + 1) bytes ≡ None = sym (ap (λ b. if b then bad_place (0 + 1) bytes else Some 0) is) ∙ e in
    record { first = byte; rest = bytes; is = refl; letter = (and_parts (nat_lt 0 32) (is_letter byte) is).1; bytes = named_bytes (0 + 1) bytes (omega arith) more }
named_first byte bytes e false is =
    let some : Some 0 ≡ None = sym (ap (λ b. if b then bad_place (0 + 1) bytes else Some 0) is) ∙ e in absurd (cc)

pub named : (name : List ℕ) → name_fault name ≡ None → Named name
named [] e = let some : Some 0 ≡ None = e in absurd (cc)
named (byte ∷ bytes) e = named_first byte bytes e (may_stand 0 byte) refl

none : (o : Option ℕ) → is_none o ≡ true → o ≡ None
none None e = refl
none (Some n) e = absurd (true≢false (sym e))

pub name_is_named : (name : List ℕ) → is_name name ≡ true → Named name
unfolding is_name
name_is_named name e = named name (none (name_fault name) (and_parts (is_none (name_fault name)) (not (is_reserved name)) e).0)

letter_is_named : (byte : ℕ) → is_letter byte ≡ true → is_name_byte byte ≡ true
letter_is_named byte e = rw e refl

-- a byte that ends neither a line nor a label
abbrev pub is_inline : ℕ → Bool
is_inline byte = not (byte == 10) && not (byte == 13)

abbrev pub is_clean : ℕ → Bool
is_clean byte = is_inline byte && is_in_label byte

name_byte_clean : (byte : ℕ) → is_name_byte byte ≡ true → is_clean byte ≡ true
name_byte_clean byte e = grind (arith, nat_tests)

name_byte_solid : (byte : ℕ) → is_name_byte byte ≡ true → is_solid byte ≡ true
name_byte_solid byte e = grind (arith, nat_tests)

letter_solid : (byte : ℕ) → is_letter byte ≡ true → (is_solid byte && not (byte == 34) && not (byte == 60)) ≡ true
letter_solid byte e = grind (arith, nat_tests)

pub named_clean : (name : List ℕ) → Named name → list_all is_clean name ≡ true
named_clean name n =
    let all : list_all is_name_byte (n.first ∷ n.rest) ≡ true = rw (letter_is_named n.first n.letter, n.bytes) refl in
    rw n.is (list_all-weaker is_name_byte is_clean name_byte_clean (n.first ∷ n.rest) all)

pub named_plain : (name : List ℕ) → Named name → is_plain_word name ≡ true
named_plain name n = rw (n.is, letter_solid n.first n.letter, list_all-weaker is_name_byte is_solid name_byte_solid n.rest n.bytes) refl

letter_begins : (byte : ℕ) → is_letter byte ≡ true → (is_blank byte || byte == 61) ≡ false
letter_begins byte e = grind (arith, nat_tests)

named_begins : (name : List ℕ) → Named name → begins_label name ≡ true
named_begins name n = rw (n.is, letter_begins n.first n.letter) refl

-- the text of formulas
abbrev clean : List ℕ → Bool
clean text = list_all is_clean text

clean_joined : (sign : List ℕ) (texts : List (List ℕ)) → clean sign ≡ true → list_all clean texts ≡ true → clean (joined sign texts) ≡ true
clean_joined sign [] s all = refl
clean_joined sign (t ∷ []) s all = (and_parts (clean t) true all).0
clean_joined sign (t ∷ u ∷ ts) s all =
    let parts = and_parts (clean t) (list_all clean (u ∷ ts)) all in
    both is_clean (t ++ sign) (joined sign (u ∷ ts)) (both is_clean t sign parts.0 s) (clean_joined sign (u ∷ ts) s parts.1)

name_of_named : (names : List (List ℕ)) (n : ℕ) → AreNames names → n < length names → Named (name_of names n)
name_of_named names n known within = named (get_or names n []) (known.each n [] within)

clean_names : (names : List (List ℕ)) (c : List ℕ) → AreNames names → All (λ n. n < length names) c → list_all clean (map (name_of names) c) ≡ true
clean_names names [] known all = refl
clean_names names (n ∷ c) known all =
    rw (named_clean (name_of names n) (name_of_named names n known (all 0 n (omega arith))), clean_names names c known (λ k d l. all (suc k) d (omega arith))) refl

clean_clause : (names : List (List ℕ)) (c : List ℕ) → AreNames names → All (λ n. n < length names) c → clean (clause_text names c) ≡ true
clean_clause names [] known all = refl
clean_clause names (n ∷ []) known all = named_clean (name_of names n) (name_of_named names n known (all 0 n (omega arith)))
clean_clause names (n ∷ m ∷ c) known all =
    both is_clean (codes "(" ++ joined (codes " \\/ ") (map (name_of names) (n ∷ m ∷ c))) (codes ")")
    (both is_clean (codes "(") (joined (codes " \\/ ") (map (name_of names) (n ∷ m ∷ c))) refl (clean_joined (codes " \\/ ") (map (name_of names) (n ∷ m ∷ c)) refl (clean_names names (n ∷ m ∷ c) known all))) refl

clean_clauses : (names : List (List ℕ)) (A : List (List ℕ)) → AreNames names → formula.AreNamed names A → list_all clean (map (clause_text names) A) ≡ true
clean_clauses names [] known all = refl
clean_clauses names (c ∷ A) known all =
    rw (clean_clause names c known (all 0 c (omega arith)), clean_clauses names A known (λ k d l. all (suc k) d (omega arith))) refl

clean_formula : (names : List (List ℕ)) (A : List (List ℕ)) → AreNames names → formula.AreNamed names A → clean (formula_text names A) ≡ true
clean_formula names [] known all = refl
clean_formula names ([] ∷ []) known all = refl
clean_formula names ([] ∷ c ∷ A) known all = clean_joined (codes " /\\ ") (map (clause_text names) ([] ∷ c ∷ A)) refl (clean_clauses names ([] ∷ c ∷ A) known all)
clean_formula names ((n ∷ c) ∷ A) known all = clean_joined (codes " /\\ ") (map (clause_text names) ((n ∷ c) ∷ A)) refl (clean_clauses names ((n ∷ c) ∷ A) known all)

pub clean_label : (names : List (List ℕ)) (l : Label) → AreNames names → AreNamed names l → list_all is_clean (label_text names l) ≡ true
clean_label names l known all =
    both is_clean (formula_text names l.secrecy ++ codes " %% ") (formula_text names l.integrity)
    (both is_clean (formula_text names l.secrecy) (codes " %% ") (clean_formula names l.secrecy known all.0) refl) (clean_formula names l.integrity known all.1)

begins_more : (text more : List ℕ) → begins_label text ≡ true → begins_label (text ++ more) ≡ true
begins_more [] more e = absurd (true≢false (sym e))
begins_more (byte ∷ text) more e = e

begins_joined : (sign text : List ℕ) (texts : List (List ℕ)) → begins_label text ≡ true → begins_label (joined sign (text ∷ texts)) ≡ true
begins_joined sign text [] e = e
begins_joined sign text (other ∷ texts) e = begins_more (text ++ sign) (joined sign (other ∷ texts)) (begins_more text sign e)

begins_clause : (names : List (List ℕ)) (c : List ℕ) → AreNames names → All (λ n. n < length names) c → begins_label (clause_text names c) ≡ true
begins_clause names [] known all = refl
begins_clause names (n ∷ []) known all = named_begins (name_of names n) (name_of_named names n known (all 0 n (omega arith)))
begins_clause names (n ∷ m ∷ c) known all = refl

begins_formula : (names : List (List ℕ)) (A : List (List ℕ)) → AreNames names → formula.AreNamed names A → begins_label (formula_text names A) ≡ true
begins_formula names [] known all = refl
begins_formula names ([] ∷ []) known all = refl
begins_formula names ([] ∷ c ∷ A) known all = begins_joined (codes " /\\ ") (clause_text names []) (map (clause_text names) (c ∷ A)) refl
begins_formula names ((n ∷ c) ∷ A) known all = begins_joined (codes " /\\ ") (clause_text names (n ∷ c)) (map (clause_text names) A) (begins_clause names (n ∷ c) known (all 0 (n ∷ c) (omega arith)))

pub label_begins : (names : List (List ℕ)) (l : Label) → AreNames names → AreNamed names l → begins_label (label_text names l) ≡ true
label_begins names l known all =
    begins_more (formula_text names l.secrecy ++ codes " %% ") (formula_text names l.integrity) (begins_more (formula_text names l.secrecy) (codes " %% ") (begins_formula names l.secrecy known all.0))
