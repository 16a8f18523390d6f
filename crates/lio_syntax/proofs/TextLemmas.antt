-- On the lines of a text.
use Rattle.std.proofs.Common.{◌≡◌, ℕ, zero, suc, ◌+◌, ◌-◌, ◌<◌, ◌==◌, Bool, true, false, List, [], ◌∷◌, length, take, drop, refl, ap, ◌∙◌, arith, add-one, length-drop}
use Rattle.std.proofs.lemmas.Grind.{common_steps}
use Rattle.std.proofs.lemmas.List.{take_all}
use Rattle.std.specs.List.{onto_first, prefix_len}
use Rattle.lio_syntax.specs.Verdict.{is_inside, text_lines}

-- the first line, and what is behind its line end
pub First : List ℕ → Type 0
First text = text_lines text ≡ take (prefix_len is_inside text) text ∷ text_lines (drop (suc (prefix_len is_inside text)) text)

longer : (byte other : ℕ) (bytes : List ℕ) → (byte == 10) ≡ false → First (other ∷ bytes) → First (byte ∷ other ∷ bytes)
unfolding First text_lines
longer byte other bytes e rest =
    let one : 1 + prefix_len is_inside (other ∷ bytes) ≡ suc (prefix_len is_inside (other ∷ bytes)) = omega arith in
    rw (e, one) (ap (onto_first byte) rest)

first : (byte : ℕ) (bytes : List ℕ) (b : Bool) → (byte == 10) ≡ b → (0 < length bytes → First bytes) → First (byte ∷ bytes)
unfolding First text_lines
first byte bytes true e rest = rw e refl
first byte [] false e rest = rw e refl
first byte (other ∷ bytes) false e rest = longer byte other bytes e (rest (omega arith))

pub text_lines-first : (text : List ℕ) → 0 < length text → First text
unfolding First
text_lines-first [] some = absurd (omega arith)
text_lines-first (byte ∷ bytes) some = first byte bytes (byte == 10) refl (text_lines-first bytes)

-- a text without bytes
pub text_lines-none : (text : List ℕ) → length text ≡ 0 → text_lines text ≡ []
unfolding text_lines
text_lines-none [] none = refl
text_lines-none (byte ∷ bytes) none = absurd (omega arith)

-- a slice behind the line end
pub text_lines-more : (text : List ℕ) (len : ℕ) → len ≡ prefix_len is_inside text → len < length text
    → text_lines text ≡ take len text ∷ text_lines (take (length text - (len + 1)) (drop (len + 1) text))
unfolding First
text_lines-more text len e within =
    let all : take (length text - (len + 1)) (drop (len + 1) text) ≡ drop (len + 1) text = take_all (length text - (len + 1)) (drop (len + 1) text) (omega (arith, length-drop (len + 1) text)) in
    rw (all, add-one, e) (text_lines-first text (omega arith))

take_none : (n : ℕ) → (let none : List ℕ = [] in take n none ≡ none)
take_none zero = refl
take_none (suc n) = refl

-- a last line without a line end
pub text_lines-last : (text : List ℕ) (len : ℕ) → len ≡ prefix_len is_inside text → len ≡ length text → 0 < length text
    → text_lines text ≡ take len text ∷ text_lines (take (length text - len) (drop len text))
unfolding First
text_lines-last text len e whole some =
    let gone : drop len text ≡ [] = grind (arith, common_steps) in
    let past : take (length text - len) (drop len text) ≡ [] = rw gone (take_none (length text - len)) in
    let further : drop (suc len) text ≡ [] = grind (arith, common_steps) in
    let it : text_lines text ≡ take len text ∷ text_lines (drop (suc len) text) = rw e (text_lines-first text some) in
    rw past (it ∙ ap (λ rest. take len text ∷ text_lines rest) further)
