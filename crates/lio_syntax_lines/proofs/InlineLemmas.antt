-- The words of literals stand in one line, as they are.
use Rattle.std.proofs.Common.{◌≡◌, ℕ, suc, ◌+◌, ◌/◌, ◌%◌, ◌^◌, ◌<◌, ◌==◌, Bool, true, false, not, ◌&&◌, List, [], ◌∷◌, ◌++◌, length, refl, arith, ne_eqb, ℤ, pos, negsuc, codes}
use Rattle.std.specs.Prelude.{nat_lt, nat_le, decimal}
use Rattle.std.specs.Fmt.{signed_decimal}
use Rattle.std.proofs.lemmas.Bool.Decides.{nat_tests}
use Rattle.std.proofs.lemmas.Bool.{and_parts}
use Rattle.std.proofs.lemmas.Fmt.{digits_decimal, decimal_nonempty}
use Rattle.std.specs.List.{list_all, flat_map}
use borrow.Author.Tests.{ltb-true}
use Rattle.lio_clauses.specs.Names.{AreNames}
use Rattle.lio_labels.proofs.TextLemmas.{printed_is_read}
use Rattle.lio_values.specs.declared.value.Plain.{Plain}
use Rattle.lio_values.specs.declared.value.Plain.TheVariants.{Unit as unit, Flag, Whole, Bytes, Lab, Power, RefOf, VarOf, ResultOf, ChanOf, Items}
use Rattle.lio_values.specs.Forest.{Nothing, Then}
use Rattle.lio_values.specs.PlainText.{plain_text}
use Rattle.lio_values.specs.Quoted.{hex_digit, quoted}
use Rattle.lio_values.specs.Quoted as quoted
use Rattle.lio_labels.specs.LabelPrint.{label_text}
use Rattle.std.proofs.Common.{Some}
use Rattle.lio_syntax_lines.specs.Literals.{is_name, is_digit, is_whole, is_byte, literal_of, IsLiteral}
use Rattle.lio_syntax_lines.proofs.LabelLemmas.{both, list_all-weaker, is_inline, is_clean, clean_label, label_begins, named_clean, named_plain, name_is_named}
use Rattle.lio_syntax_lines.proofs.PrintedLemmas.{own, text_is_literal, text_is_no_name, whole_is_literal, whole_is_no_name, constant_is_literal, empty_is_literal, empty_is_no_name, constant_is_no_name, label_is_literal, label_is_no_name}
use Rattle.lio_syntax_lines.proofs.SolidLemmas.{Solid, is_solid, is_plain_word, is_in_label, solid_plain, solid_text, solid_label}

-- a word that is cut as it is, with no line end and no carriage return in it
pub record Good (word : List ℕ) : Type 0 where
  pub solid : Solid word
  pub inline : list_all is_inline word ≡ true

digit_inline : (byte : ℕ) → is_digit byte ≡ true → is_inline byte ≡ true
digit_inline byte e = grind (arith, nat_tests)

digit_solid : (byte : ℕ) → is_digit byte ≡ true → is_solid byte ≡ true
digit_solid byte e = grind (arith, nat_tests)

digit_plain : (byte : ℕ) → is_digit byte ≡ true → (is_solid byte && not (byte == 34) && not (byte == 60)) ≡ true
digit_plain byte e = grind (arith, nat_tests)

digits_plain : (word : List ℕ) → 0 < length word → list_all is_digit word ≡ true → is_plain_word word ≡ true
digits_plain [] some all = absurd (omega arith)
digits_plain (byte ∷ bytes) some all =
    let parts = and_parts (is_digit byte) (list_all is_digit bytes) all in
    rw (digit_plain byte parts.0, list_all-weaker is_digit is_solid digit_solid bytes parts.1) refl

good_whole : (z : ℤ) → is_whole z ≡ true → Good (signed_decimal z)
good_whole (pos n) e =
    let fits : n < 2 ^ 64 = grind (arith, nat_tests) in
    let all : list_all is_digit (decimal n) ≡ true = digits_decimal own n fits in
    record { solid = solid_plain (decimal n) (digits_plain (decimal n) (decimal_nonempty n fits) all); inline = list_all-weaker is_digit is_inline digit_inline (decimal n) all }
good_whole (negsuc n) e =
    let fits : suc n < 2 ^ 64 = grind (arith, nat_tests) in
    let all : list_all is_digit (decimal (suc n)) ≡ true = digits_decimal own (suc n) fits in
    record {
      solid = solid_plain (45 ∷ decimal (suc n)) (list_all-weaker is_digit is_solid digit_solid (decimal (suc n)) all);
      inline = list_all-weaker is_digit is_inline digit_inline (decimal (suc n)) all;
    }

hex_inline : (n : ℕ) → n < 16 → is_inline (hex_digit n) ≡ true
hex_inline n small = by (nat_lt n 10) refl
  where
    by : (b : Bool) → nat_lt n 10 ≡ b → is_inline (hex_digit n) ≡ true
    by true e = rw (e, ne_eqb (n + 48) 10 (omega arith), ne_eqb (n + 48) 13 (omega arith)) refl
    by false e = rw (e, ne_eqb (n + 87) 10 (omega arith), ne_eqb (n + 87) 13 (omega arith)) refl

printable_inline : (byte : ℕ) → (nat_le 32 byte && nat_le byte 126) ≡ true → (is_inline byte && true) ≡ true
printable_inline byte e = grind (arith, nat_tests)

byte_inline : (byte : ℕ) → byte < 256 → list_all is_inline (quoted.escaped byte) ≡ true
unfolding quoted.escaped
byte_inline byte small = by (byte == 34) (byte == 92) (byte == 10) (nat_le 32 byte && nat_le byte 126) refl refl refl refl
  where
    by : (a b c d : Bool) → (byte == 34) ≡ a → (byte == 92) ≡ b → (byte == 10) ≡ c → (nat_le 32 byte && nat_le byte 126) ≡ d → list_all is_inline (quoted.escaped byte) ≡ true
    by true b c d e f g h = rw e refl
    by false true c d e f g h = rw (e, f) refl
    by false false true d e f g h = rw (e, f, g) refl
    by false false false true e f g h = let it : (is_inline byte && true) ≡ true = printable_inline byte h in rw (e, f, g, h) it
    by false false false false e f g h = rw (e, f, g, h, hex_inline (byte / 16) (omega arith), hex_inline (byte % 16) (omega arith)) refl

bytes_inline : (bytes : List ℕ) → list_all is_byte bytes ≡ true → list_all is_inline (flat_map quoted.escaped bytes) ≡ true
bytes_inline [] all = refl
bytes_inline (byte ∷ bytes) all =
    let parts = and_parts (is_byte byte) (list_all is_byte bytes) all in
    both is_inline (quoted.escaped byte) (flat_map quoted.escaped bytes) (byte_inline byte (ltb-true byte 256 parts.0)) (bytes_inline bytes parts.1)

good_text : (bytes : List ℕ) → list_all is_byte bytes ≡ true → Good (quoted bytes)
good_text bytes all = record {
  solid = solid_text bytes all;
  inline = both is_inline (codes "\"" ++ flat_map quoted.escaped bytes) (codes "\"") (both is_inline (codes "\"") (flat_map quoted.escaped bytes) refl (bytes_inline bytes all)) refl;
}

clean_inline : (byte : ℕ) → is_clean byte ≡ true → is_inline byte ≡ true
clean_inline byte e = (and_parts (is_inline byte) (is_in_label byte) e).0

clean_in_label : (byte : ℕ) → is_clean byte ≡ true → is_in_label byte ≡ true
clean_in_label byte e = (and_parts (is_inline byte) (is_in_label byte) e).1

pub good_name : (name : List ℕ) → is_name name ≡ true → Good name
good_name name e = let n = name_is_named name e in record {
  solid = solid_plain name (named_plain name n);
  inline = list_all-weaker is_clean is_inline clean_inline name (named_clean name n);
}

-- the text of a literal is a good word, that is no name and is read as the literal
pub good_literal : (names : List (List ℕ)) (plain : Plain) → AreNames names → IsLiteral names plain → Good (plain_text names plain)
good_literal names unit known h = record { solid = solid_plain _ refl; inline = refl }
good_literal names (Flag true) known h = record { solid = solid_plain _ refl; inline = refl }
good_literal names (Flag false) known h = record { solid = solid_plain _ refl; inline = refl }
good_literal names (Whole number) known h = good_whole number h
good_literal names (Bytes text) known h = good_text text h
good_literal names (Lab label) known h =
    let all : list_all is_clean (label_text names label) ≡ true = clean_label names label known h.0 in
    record {
      solid = solid_label (label_text names label) (list_all-weaker is_clean is_in_label clean_in_label (label_text names label) all) (label_begins names label known h.0);
      inline = both is_inline (codes "<" ++ label_text names label) (codes ">") (both is_inline (codes "<") (label_text names label) refl (list_all-weaker is_clean is_inline clean_inline (label_text names label) all)) refl;
    }
good_literal names (Power privilege) known h = absurd h
good_literal names (RefOf handle) known h = absurd h
good_literal names (VarOf handle) known h = absurd h
good_literal names (ResultOf handle) known h = absurd h
good_literal names (ChanOf handle) known h = absurd h
good_literal names (Items Nothing) known h = record { solid = solid_plain _ refl; inline = refl }
good_literal names (Items (Then item items)) known h = absurd h

pub literal_no_name : (names : List (List ℕ)) (plain : Plain) → IsLiteral names plain → is_name (plain_text names plain) ≡ false
literal_no_name names unit h = constant_is_no_name.2
literal_no_name names (Flag true) h = constant_is_no_name.0
literal_no_name names (Flag false) h = constant_is_no_name.1
literal_no_name names (Whole number) h = whole_is_no_name number h
literal_no_name names (Bytes text) h = text_is_no_name text
literal_no_name names (Lab label) h = label_is_no_name (label_text names label)
literal_no_name names (Power privilege) h = absurd h
literal_no_name names (RefOf handle) h = absurd h
literal_no_name names (VarOf handle) h = absurd h
literal_no_name names (ResultOf handle) h = absurd h
literal_no_name names (ChanOf handle) h = absurd h
literal_no_name names (Items Nothing) h = empty_is_no_name
literal_no_name names (Items (Then item items)) h = absurd h

pub literal_back : (names : List (List ℕ)) (plain : Plain) → AreNames names → IsLiteral names plain → literal_of names (plain_text names plain) ≡ Some plain
literal_back names unit known h = (constant_is_literal names).2
literal_back names (Flag true) known h = (constant_is_literal names).0
literal_back names (Flag false) known h = (constant_is_literal names).1
literal_back names (Whole number) known h = whole_is_literal names number h
literal_back names (Bytes text) known h = text_is_literal names text h
literal_back names (Lab label) known h = label_is_literal names label (printed_is_read names label known h.1 h.0)
literal_back names (Power privilege) known h = absurd h
literal_back names (RefOf handle) known h = absurd h
literal_back names (VarOf handle) known h = absurd h
literal_back names (ResultOf handle) known h = absurd h
literal_back names (ChanOf handle) known h = absurd h
literal_back names (Items Nothing) known h = empty_is_literal names
literal_back names (Items (Then item items)) known h = absurd h
