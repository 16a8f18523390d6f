-- Netstrings are those of one list of items.
use Rattle.std.proofs.Common.{◌≡◌, ◌∙◌, ℕ, ◌+◌, ◌^◌, ◌<◌, ◌≤◌, List, [], ◌∷◌, ◌++◌, length, take, drop, refl, ap, sym, arith}
use Rattle.std.specs.Prelude.{decimal}
use Rattle.std.specs.List.{prefix_len}
use Rattle.std.proofs.lemmas.Fmt.{digits_value-decimal}
use Rattle.lio_syntax_lines.specs.Literals.{number_from}
use Rattle.lio_syntax_lines.proofs.PrintedLemmas.{own}
use Rattle.lio_events_reading.proofs.CutLemmas.{drop_front}
use Rattle.lio_c.specs.Laws.{AreOfOneList}
use Rattle.lio_c.specs.Netstrings.{is_before_colon, netstring, netstrings}
use Rattle.lio_c.proofs.ItemLemmas.{digits-found, item-found, item-within}

decimal-apart : (m n : ℕ) → m < 2 ^ 64 → n < 2 ^ 64 → decimal m ≡ decimal n → m ≡ n
decimal-apart m n one two same = sym (digits_value-decimal own m one) ∙ ap (number_from 0) same ∙ digits_value-decimal own n two

-- one item of the front
one-item : (bytes a b one two : List ℕ) → length bytes < 2 ^ 64 → bytes ≡ netstring a ++ one → bytes ≡ netstring b ++ two → a ≡ b
one-item bytes a b one two small is also =
    let len : ℕ = prefix_len is_before_colon bytes in
    let digits : List ℕ = take len bytes in
    let within : length a + 2 + length one ≤ length bytes = item-within bytes a one is in
    let other : length b + 2 + length two ≤ length bytes = item-within bytes b two also in
    let short : length a < 2 ^ 64 = omega arith in
    let number : digits ≡ decimal (length a) → (n : ℕ) → n < 2 ^ 64 → digits ≡ decimal n → length a ≡ n = λ first n few second. decimal-apart (length a) n short few (sym first ∙ second) in
    let first : digits ≡ decimal (length a) = digits-found bytes a one is small in
    let found : List ℕ = take (length a) (drop 1 (drop len bytes)) in
    sym (item-found bytes digits (drop len bytes) (drop 1 (drop len bytes)) a one found len (length a) is small refl refl (number first) refl refl refl)
    ∙ item-found bytes digits (drop len bytes) (drop 1 (drop len bytes)) b two found len (length a) also small refl refl (number first) refl refl refl

-- what stands behind it
one-rest : (a one two : List ℕ) → netstring a ++ one ≡ netstring a ++ two → one ≡ two
one-rest a one two same = sym (drop_front (netstring a) one) ∙ ap (drop (length (netstring a))) same ∙ drop_front (netstring a) two

pub are_of_one_list : AreOfOneList
are_of_one_list [] [] small same = refl
are_of_one_list [] (b ∷ bs) small same =
    let within : length b + 2 + length (netstrings bs) ≤ 0 = item-within [] b (netstrings bs) same in
    absurd (omega arith)
are_of_one_list (a ∷ others) [] small same =
    let within : length a + 2 + length (netstrings others) ≤ 0 = item-within [] a (netstrings others) (sym same) in
    absurd (omega arith)
are_of_one_list (a ∷ others) (b ∷ bs) small same =
    let bytes : List ℕ = netstring a ++ netstrings others in
    let item : a ≡ b = one-item bytes a b (netstrings others) (netstrings bs) small refl same in
    let rest : netstrings others ≡ netstrings bs = one-rest a (netstrings others) (netstrings bs) (same ∙ ap (λ i. netstring i ++ netstrings bs) (sym item)) in
    let within : length a + 2 + length (netstrings others) ≤ length bytes = item-within bytes a (netstrings others) refl in
    let less : length (netstrings others) < 2 ^ 64 = omega arith in
    ap (λ i. i ∷ others) item ∙ ap (λ more. b ∷ more) (are_of_one_list others bs less rest)
