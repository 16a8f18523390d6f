-- Names and literals: which words they are, and what they say.
use Rattle.std.specs.Prelude.{ℕ, ◌+◌, ◌-◌, ◌*◌, ◌==◌, ◌&&◌, ◌||◌, not, Bool, true, false, nat_lt, nat_le, if◌then◌else◌, List, [], ◌∷◌, length, take, drop, codes, bytes_eq, Option, Some, None, is_some, is_none, ℤ, pos, neg_ℤ, negsuc, IsTrue}
use Rattle.std.specs.List.{list_all}
use Rattle.std.specs.Option.{option_map, option_and_then}
use Rattle.std.specs.Result.{result_ok}
use Rattle.lio_clauses.specs.Names.{name_fault}
use Rattle.lio_labels.specs.declared.label.Label.{Label}
use Rattle.lio_labels.specs.IsLabel.{IsLabel}
use Rattle.lio_labels.specs.LabelPrint.{AreNamed}
use Rattle.lio_labels.specs.LabelText.{reading}
use Rattle.lio_values.specs.declared.value.Plain.{Plain}
use Rattle.lio_values.specs.declared.value.Plain.TheVariants.{Unit as unit, Flag, Whole, Bytes, Lab, Power, RefOf, VarOf, ResultOf, ChanOf, Items}
use Rattle.lio_syntax_lines.specs.Keyword.{keyword_of}
use Rattle.lio_values.specs.Forest.{Nothing, Then}
use Rattle.lio_syntax_lines.specs.Operators.{one_of, two_of, is_reserved_two}

-- the first of two that is there
abbrev pub or_else : {X : Type 0} → Option X → Option X → Option X
or_else (Some x) other = Some x
or_else None other = other

-- the flags and unit
unfoldable pub constant_of : List ℕ → Option Plain
constant_of word =
    if bytes_eq word (codes "true") then Some (Flag true)
    else (if bytes_eq word (codes "false") then Some (Flag false)
    else (if bytes_eq word (codes "unit") then Some unit else None))

-- the empty list
abbrev pub empty_of : List ℕ → Option Plain
empty_of word = if bytes_eq word (codes "[]") then Some (Items Nothing) else None

-- the first words of lines, the words of operators but `push` and `at`, the flags and unit are reserved
unfoldable pub is_reserved : List ℕ → Bool
is_reserved word = is_some (keyword_of word) || is_some (one_of word) || is_reserved_two (two_of word) || is_some (constant_of word)

-- 1 to 32 bytes of `a` to `z`, `0` to `9` and `_` that begin with a letter, and no reserved word
unfoldable pub is_name : List ℕ → Bool
is_name word = is_none (name_fault word) && not (is_reserved word)

-- a decimal digit
abbrev pub is_digit : ℕ → Bool
is_digit byte = nat_le 48 byte && nat_le byte 57

-- the number of decimal digits behind a number
unfoldable pub number_from : ℕ → List ℕ → ℕ
number_from number [] = number
number_from number (digit ∷ digits) = number_from (number * 10 + (digit - 48)) digits

-- the number of 1 to 19 decimal digits
unfoldable pub digits_of : List ℕ → Option ℕ
digits_of digits = if nat_lt 0 (length digits) && nat_le (length digits) 19 && list_all is_digit digits then Some (number_from 0 digits) else None

-- a number and its negative, where they have 64 bits with sign
abbrev pub positive : ℕ → Option ℤ
positive number = if nat_le number 9223372036854775807 then Some (pos number) else None

abbrev pub negative : ℕ → Option ℤ
negative number = if nat_le number 9223372036854775808 then Some (neg_ℤ (pos number)) else None

-- a whole: digits, or `-` and digits
abbrev pub whole_of : List ℕ → Option ℤ
whole_of [] = None
whole_of (byte ∷ bytes) = if byte == 45 then option_and_then negative (digits_of bytes) else option_and_then positive (digits_of (byte ∷ bytes))

-- the value of a lower-case hexadecimal digit
abbrev pub hex_value : ℕ → Option ℕ
hex_value digit = if is_digit digit then Some (digit - 48) else (if nat_le 97 digit && nat_le digit 102 then Some (digit - 87) else None)

-- the byte of two hexadecimal digits
abbrev pub both_digits : Option ℕ → Option ℕ → Option ℕ
both_digits (Some high) (Some low) = Some (high * 16 + low)
both_digits (Some high) None = None
both_digits None low = None

-- the byte that a sign behind a backslash stands for: `"`, `\` and `n`
abbrev pub escape_of : ℕ → Option ℕ
escape_of sign = if sign == 34 then Some 34 else (if sign == 92 then Some 92 else (if sign == 110 then Some 10 else None))

-- a printable byte
abbrev pub is_printable : ℕ → Bool
is_printable byte = nat_le 32 byte && nat_le byte 126

-- a byte before others, where both are read
abbrev pub put_before : Option ℕ → Option (List ℕ) → Option (List ℕ)
put_before None bytes = None
put_before (Some byte) bytes = option_map (λ rest. byte ∷ rest) bytes

-- nothing, at the end
abbrev pub at_end : List ℕ → Option (List ℕ)
at_end [] = Some []
at_end (_ ∷ _) = None

-- The bytes of what stands behind the first quote of a text: printable bytes stand for themselves, but the quote ends the text, and `\`
-- begins an escape, `\"`, `\\`, `\n`, or `\x` and two hexadecimal digits.
unfoldable mutual
  pub unquoted : List ℕ → Option (List ℕ)
  unquoted [] = None
  unquoted (byte ∷ bytes) =
      if byte == 34 then at_end bytes
      else (if byte == 92 then escaped bytes else (if is_printable byte then put_before (Some byte) (unquoted bytes) else None))

  -- behind a backslash
  pub escaped : List ℕ → Option (List ℕ)
  escaped [] = None
  escaped (sign ∷ bytes) = if sign == 120 then first_digit bytes else put_before (escape_of sign) (unquoted bytes)

  -- behind `\x`
  pub first_digit : List ℕ → Option (List ℕ)
  first_digit [] = None
  first_digit (high ∷ bytes) = second_digit high bytes

  pub second_digit : ℕ → List ℕ → Option (List ℕ)
  second_digit high [] = None
  second_digit high (low ∷ bytes) = put_before (both_digits (hex_value high) (hex_value low)) (unquoted bytes)

-- the bytes of a text in quotes
abbrev pub text_of : List ℕ → Option (List ℕ)
text_of [] = None
text_of (byte ∷ bytes) = if byte == 34 then unquoted bytes else None

-- what stands between `<` and `>`
unfoldable pub bracketed : List ℕ → Option (List ℕ)
bracketed word =
    let rest : List ℕ = drop 1 word
    in if bytes_eq (take 1 word) (codes "<") && bytes_eq (drop (length rest - 1) rest) (codes ">") then Some (take (length rest - 1) rest) else None

-- the label in brackets, over the names of principals
abbrev pub label_of : List (List ℕ) → List ℕ → Option Label
label_of names word = option_and_then (λ text. result_ok (reading names text)) (bracketed word)

-- a flag or unit, a whole, a text, a label or the empty list
unfoldable pub literal_of : List (List ℕ) → List ℕ → Option Plain
literal_of names word =
    or_else (constant_of word) (or_else (option_map Whole (whole_of word)) (or_else (option_map Bytes (text_of word)) (or_else (option_map Lab (label_of names word)) (empty_of word))))

-- a byte, and a whole of 64 bits with sign
abbrev pub is_byte : ℕ → Bool
is_byte byte = nat_lt byte 256

abbrev pub is_whole : ℤ → Bool
is_whole (pos number) = nat_le number 9223372036854775807
is_whole (negsuc number) = nat_le number 9223372036854775807

-- a value that a word can say; each principal in it has a name
abbrev pub IsLiteral : List (List ℕ) → Plain → Type 0
IsLiteral names (Lab label) = AreNamed names label × IsLabel label
IsLiteral names unit = Unit {0}
IsLiteral names (Flag flag) = Unit {0}
IsLiteral names (Whole number) = IsTrue (is_whole number)
IsLiteral names (Bytes text) = IsTrue (list_all is_byte text)
IsLiteral names (Power privilege) = ⊥
IsLiteral names (RefOf handle) = ⊥
IsLiteral names (VarOf handle) = ⊥
IsLiteral names (ResultOf handle) = ⊥
IsLiteral names (ChanOf handle) = ⊥
IsLiteral names (Items Nothing) = Unit {0}
IsLiteral names (Items (Then item items)) = ⊥

-- a name is no reserved word
abbrev pub IsName : List ℕ → Type 0
IsName name = IsTrue (is_name name)
