-- Netstrings are cut off where they end.
use Rattle.std.proofs.Common.{◌≡◌, ◌≢◌, ◌∙◌, ℕ, ◌+◌, ◌-◌, ◌^◌, ◌<◌, ◌≤◌, true, List, [], ◌∷◌, ◌++◌, length, length-append, take, drop, refl, ap, sym, arith, append_assoc, append-nil, codes, Option, None, Some, MatchOption, Bor}
use Rattle.std.specs.Prelude.{decimal}
use Rattle.std.specs.List.{list_all, prefix_len}
use Rattle.std.proofs.lemmas.Bool.Decides.{nat_tests}
use Rattle.std.proofs.lemmas.Fmt.{digits_decimal}
use Rattle.std.proofs.lemmas.List.{append_cancel_left}
use Rattle.lio_syntax_lines.specs.Literals.{is_digit}
use Rattle.lio_syntax_lines.proofs.PrintedLemmas.{own}
use Rattle.lio_syntax_lines.proofs.LabelLemmas.{list_all-weaker}
use Rattle.lio_events_reading.proofs.CutLemmas.{drop_front, prefix_whole, take_front}
use Rattle.lio_c.specs.Netstrings.{BreaksAt, NoneBegins, is_before_colon, netstring, netstrings}

digit-before : (byte : ℕ) → is_digit byte ≡ true → is_before_colon byte ≡ true
digit-before byte e = grind (arith, nat_tests)

-- the digits of a length stand before the colon
digits-before : (n : ℕ) → n < 2 ^ 64 → list_all is_before_colon (decimal n) ≡ true
digits-before n small = list_all-weaker is_digit is_before_colon digit-before (decimal n) (digits_decimal own n small)

-- what stands behind the digits of a netstring
abbrev behind-digits : List ℕ → List ℕ → List ℕ
behind-digits item rest = codes ":" ++ (item ++ (codes "," ++ rest))

shape : (item rest : List ℕ) → netstring item ++ rest ≡ decimal (length item) ++ behind-digits item rest
shape item rest =
    append_assoc (decimal (length item)) (codes ":" ++ (item ++ codes ",")) rest
    ∙ ap (λ bytes. decimal (length item) ++ (codes ":" ++ bytes)) (append_assoc item (codes ",") rest)

-- an item is no longer than its netstring
pub item-within : (bytes item rest : List ℕ) → bytes ≡ netstring item ++ rest → length item + 2 + length rest ≤ length bytes
item-within bytes item rest is =
    let whole : length bytes ≡ length (decimal (length item)) + length (behind-digits item rest) = ap length (is ∙ shape item rest) ∙ length-append (decimal (length item)) (behind-digits item rest) in
    let inner : length (item ++ (codes "," ++ rest)) ≡ length item + length (codes "," ++ rest) = length-append item (codes "," ++ rest) in
    omega arith

-- how many bytes stand before the first colon
len-found : (bytes item rest : List ℕ) → bytes ≡ netstring item ++ rest → length bytes < 2 ^ 64 → prefix_len is_before_colon bytes ≡ length (decimal (length item))
len-found bytes item rest is fits =
    let within : length item + 2 + length rest ≤ length bytes = item-within bytes item rest is in
    let small : length item < 2 ^ 64 = omega arith in
    ap (prefix_len is_before_colon) (is ∙ shape item rest) ∙ prefix_whole is_before_colon (decimal (length item)) (behind-digits item rest) (digits-before (length item) small) refl

-- the digits that stand before the first colon are those of the length
pub digits-found : (bytes item rest : List ℕ) → bytes ≡ netstring item ++ rest → length bytes < 2 ^ 64 → take (prefix_len is_before_colon bytes) bytes ≡ decimal (length item)
digits-found bytes item rest is fits =
    let text : List ℕ = decimal (length item) in
    let tail : List ℕ = behind-digits item rest in
    let here : bytes ≡ text ++ tail = is ∙ shape item rest in
    ap (λ n. take n bytes) (len-found bytes item rest is fits) ∙ ap (take (length text)) here ∙ take_front text tail

-- what is taken for an item is that of the netstring that stands there
pub item-found : (bytes digits one behind item rest found : List ℕ) (len count : ℕ) → bytes ≡ netstring item ++ rest → length bytes < 2 ^ 64 → len ≡ prefix_len is_before_colon bytes
    → digits ≡ take len bytes → ((n : ℕ) → n < 2 ^ 64 → digits ≡ decimal n → count ≡ n) → one ≡ drop len bytes → behind ≡ drop 1 one → found ≡ take count behind → found ≡ item
item-found bytes digits one behind item rest found len count is fits l d number o b f =
    let within : length item + 2 + length rest ≤ length bytes = item-within bytes item rest is in
    let small : length item < 2 ^ 64 = omega arith in
    let text : List ℕ = decimal (length item) in
    let tail : List ℕ = behind-digits item rest in
    let here : bytes ≡ text ++ tail = is ∙ shape item rest in
    let digits_are : digits ≡ text = d ∙ ap (λ n. take n bytes) l ∙ digits-found bytes item rest is fits in
    let count_is : count ≡ length item = number (length item) small digits_are in
    let one_is : one ≡ tail = o ∙ ap (λ n. drop n bytes) (l ∙ len-found bytes item rest is fits) ∙ ap (drop (length text)) here ∙ drop_front text tail in
    let behind_is : behind ≡ item ++ (codes "," ++ rest) = b ∙ ap (drop 1) one_is in
    f ∙ ap (λ n. take n behind) count_is ∙ ap (take (length item)) behind_is ∙ take_front item (codes "," ++ rest)

-- bytes that are shorter than a front, or begin with another, don't begin with it
pub short-front : (bytes front : List ℕ) → length bytes < length front → (rest : List ℕ) → bytes ≢ front ++ rest
short-front bytes front less rest is =
    let whole : length bytes ≡ length front + length rest = ap length is ∙ length-append front rest in
    absurd (omega arith)

pub other-front : (bytes front first : List ℕ) → first ≡ take (length front) bytes → first ≢ front → (rest : List ℕ) → bytes ≢ front ++ rest
other-front bytes front first f differs rest is = differs (f ∙ ap (take (length front)) is ∙ take_front front rest)

-- bytes don't begin with two fronts where they don't with the first, or what is behind that doesn't with the second
pub none-first : (bytes a b : List ℕ) → ((rest : List ℕ) → bytes ≢ a ++ rest) → (rest : List ℕ) → bytes ≢ (a ++ b) ++ rest
none-first bytes a b none rest is = none (b ++ rest) (is ∙ append_assoc a b rest)

pub none-second : (bytes more a b : List ℕ) → bytes ≡ a ++ more → ((rest : List ℕ) → more ≢ b ++ rest) → (rest : List ℕ) → bytes ≢ (a ++ b) ++ rest
none-second bytes more a b is none rest e = none rest (append_cancel_left a more (b ++ rest) (sym is ∙ e ∙ append_assoc a b rest))

-- the four parts of a netstring
pub whole-item : (bytes one two three rest item digits : List ℕ) → digits ≡ decimal (length item) → bytes ≡ digits ++ one → one ≡ codes ":" ++ two → two ≡ item ++ three → three ≡ codes "," ++ rest → bytes ≡ netstring item ++ rest
whole-item bytes one two three rest item digits d a b c e =
    a ∙ ap (λ front. front ++ one) d ∙ ap (λ more. decimal (length item) ++ more) (b ∙ ap (λ more. codes ":" ++ more) (c ∙ ap (λ more. item ++ more) e)) ∙ sym (shape item rest)

-- what stands behind the digits isn't a colon, or what stands behind that isn't the item
pub none-in_text : (bytes one item digits : List ℕ) → digits ≡ decimal (length item) → bytes ≡ digits ++ one → ((rest : List ℕ) → one ≢ codes ":" ++ rest) → (rest : List ℕ) → bytes ≢ netstring item ++ rest
none-in_text bytes one item digits d a none =
    none-second bytes one (decimal (length item)) (codes ":" ++ (item ++ codes ",")) (a ∙ ap (λ front. front ++ one) d) (none-first one (codes ":") (item ++ codes ",") none)

none-behind : (bytes one two item digits : List ℕ) → digits ≡ decimal (length item) → bytes ≡ digits ++ one → one ≡ codes ":" ++ two → ((rest : List ℕ) → two ≢ (item ++ codes ",") ++ rest) → (rest : List ℕ) → bytes ≢ netstring item ++ rest
none-behind bytes one two item digits d a b none =
    none-second bytes one (decimal (length item)) (codes ":" ++ (item ++ codes ",")) (a ∙ ap (λ front. front ++ one) d) (none-second one two (codes ":") (item ++ codes ",") b none)

pub none-in_item : (bytes one two item digits : List ℕ) → digits ≡ decimal (length item) → bytes ≡ digits ++ one → one ≡ codes ":" ++ two → ((rest : List ℕ) → two ≢ item ++ rest) → (rest : List ℕ) → bytes ≢ netstring item ++ rest
none-in_item bytes one two item digits d a b none = none-behind bytes one two item digits d a b (none-first two item (codes ",") none)

-- the netstring of an item stands there where an end does behind the item
pub behind-last : (bytes one two three item digits : List ℕ) (last : Option (Bor (List ℕ))) → digits ≡ decimal (length item) → bytes ≡ digits ++ one → one ≡ codes ":" ++ two → two ≡ item ++ three
    → MatchOption last ((rest : List ℕ) → three ≢ codes "," ++ rest) (λ rest. three ≡ codes "," ++ rest.now) → MatchOption last ((rest : List ℕ) → bytes ≢ netstring item ++ rest) (λ rest. bytes ≡ netstring item ++ rest.now)
behind-last bytes one two three item digits None d a b c none = none-behind bytes one two item digits d a b (none-second two three item (codes ",") c none)
behind-last bytes one two three item digits (Some rest) d a b c is = whole-item bytes one two three rest.now item digits d a b c is

-- no other item's netstring stands there than that which is taken for one
pub none-begins : (bytes found : List ℕ) → ((item rest : List ℕ) → bytes ≡ netstring item ++ rest → found ≡ item) → ((rest : List ℕ) → bytes ≢ netstring found ++ rest) → NoneBegins bytes
none-begins bytes found finds none item rest is = none rest (is ∙ ap (λ (i : List ℕ). netstring i ++ rest) (sym (finds item rest is)))

-- items and one more
pub netstrings-push : (items : List (List ℕ)) (item : List ℕ) → netstrings (items ++ item ∷ []) ≡ netstrings items ++ netstring item
netstrings-push [] item = append-nil (netstring item)
netstrings-push (first ∷ items) item = ap (λ more. netstring first ++ more) (netstrings-push items item) ∙ sym (append_assoc (netstring first) (netstrings items) (netstring item))

-- the items so far, and what is left of the bytes
pub record IsReadSoFar (bytes : List ℕ) (items : List (List ℕ)) (rest : List ℕ) : Type 0 where
  pub are : bytes ≡ netstrings items ++ rest
  pub within : length rest ≤ length bytes

pub read-none : (bytes : List ℕ) (items : List (List ℕ)) → items ≡ [] → IsReadSoFar bytes items bytes
read-none bytes items none = record { are = ap (λ (i : List (List ℕ)). netstrings i ++ bytes) (sym none); within = omega arith }

pub read-more : (bytes rest item behind : List ℕ) (items now : List (List ℕ)) → IsReadSoFar bytes items rest → rest ≡ netstring item ++ behind → now ≡ items ++ item ∷ [] → IsReadSoFar bytes now behind
read-more bytes rest item behind items now so_far is pushed =
    let within : length item + 2 + length behind ≤ length rest = item-within rest item behind is in
    let before : length rest ≤ length bytes = so_far.within in
    record {
      are = so_far.are ∙ ap (λ more. netstrings items ++ more) is ∙ sym (append_assoc (netstrings items) (netstring item) behind)
          ∙ ap (λ front. front ++ behind) (sym (netstrings-push items item) ∙ ap netstrings (sym pushed));
      within = omega arith;
    }

pub shorter : (rest item behind : List ℕ) → rest ≡ netstring item ++ behind → length behind < length rest
shorter rest item behind is = let within : length item + 2 + length behind ≤ length rest = item-within rest item behind is in omega arith

-- they break where none stands at the front of what is left
pub breaks : (bytes rest : List ℕ) (items : List (List ℕ)) (place : ℕ) → IsReadSoFar bytes items rest → NoneBegins rest → (length rest ≡ 0 → ⊥) → place ≡ length bytes - length rest → BreaksAt bytes place
breaks bytes rest items place so_far none some at =
    let whole : length bytes ≡ length (netstrings items) + length rest = ap length so_far.are ∙ length-append (netstrings items) rest in
    record {
      items = items;
      rest = rest;
      bytes_are = so_far.are;
      place_is = omega (arith, at, whole);
      goes_on = λ is. some (ap length is);
      none = none;
    }

pub read-all : (bytes rest : List ℕ) (items : List (List ℕ)) → IsReadSoFar bytes items rest → length rest ≡ 0 → bytes ≡ netstrings items
read-all bytes [] items so_far is = so_far.are ∙ append-nil (netstrings items)
read-all bytes (byte ∷ rest) items so_far is = absurd (omega arith)
