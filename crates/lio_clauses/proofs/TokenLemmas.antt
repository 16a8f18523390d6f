-- On the tokens of a text.
use Rattle.std.proofs.Common.{◌≡◌, ◌≢◌, ℕ, zero, suc, ◌+◌, ◌-◌, ◌<◌, ◌≤◌, ◌==◌, Bool, true, false, if◌then◌else◌, List, [], ◌∷◌, length, length-drop, take, drop, slice_get, Option, Some, None, eq-eqb, refl, sym, ap, subst, ◌∙◌, arith, eqb-true}
use Rattle.std.proofs.lemmas.List.{take_all}
use Rattle.lio_clauses.specs.declared.text.token.Token.{Token}
use Rattle.lio_clauses.specs.declared.text.token.Token.TheVariants.{Truth, Falsity, Open, Close, And, Or, Over, Principal, Stranger, Stray}
use Rattle.lio_clauses.specs.Token.{Tokens, At, End, tokens, front, place_of, count_of, symbols, same_token, after}

-- the bytes inside a token are passed over
pub tokens-past : (names : List (List ℕ)) (place inside : ℕ) (bytes : List ℕ) → inside ≤ length bytes → tokens names place inside bytes ≡ tokens names (place + inside) 0 (drop inside bytes)
tokens-past names place zero [] h = ap (λ n. tokens names n 0 []) (omega arith)
tokens-past names place zero (b ∷ bs) h = ap (λ n. tokens names n 0 (b ∷ bs)) (omega arith)
tokens-past names place (suc inside) [] h = absurd (omega arith)
tokens-past names place (suc inside) (b ∷ bs) h =
    tokens-past names (suc place) inside bs (omega arith) ∙ ap (λ n. tokens names n 0 (drop inside bs)) (omega arith)

after_token : (names : List (List ℕ)) (place size b : ℕ) (bs : List ℕ) → 0 < size → size ≤ length (b ∷ bs)
    → tokens names (suc place) (size - 1) bs ≡ tokens names (place + size) 0 (drop size (b ∷ bs))
after_token names place zero b bs some within = absurd (omega arith)
after_token names place (suc n) b bs some within =
    let one : suc n - 1 ≡ n = omega arith in
    ap (λ m. tokens names (suc place) m bs) one ∙ tokens-past names (suc place) n bs (omega arith) ∙ ap (λ m. tokens names m 0 (drop n bs)) (omega arith)

-- a token stands where no blank is
pub tokens-token : (names : List (List ℕ)) (place : ℕ) (bytes : List ℕ) → slice_get bytes 0 ≢ Some 32 → 0 < length bytes → 0 < (front names bytes).size → (front names bytes).size ≤ length bytes
    → tokens names place 0 bytes ≡ At place (front names bytes).token (tokens names (place + (front names bytes).size) 0 (drop (front names bytes).size bytes))
tokens-token names place [] no_blank here some within = absurd (omega arith)
tokens-token names place (b ∷ bs) no_blank here some within = by (b == 32) refl
  where
    by : (c : Bool) → (b == 32) ≡ c → tokens names place 0 (b ∷ bs) ≡ At place (front names (b ∷ bs)).token (tokens names (place + (front names (b ∷ bs)).size) 0 (drop (front names (b ∷ bs)).size (b ∷ bs)))
    by true e = absurd (no_blank (ap Some (eqb-true b 32 e)))
    by false e = ap (λ c. if c then tokens names (suc place) zero bs else At place (front names (b ∷ bs)).token (tokens names (suc place) ((front names (b ∷ bs)).size - 1) bs)) e ∙ ap (At place (front names (b ∷ bs)).token) (after_token names place (front names (b ∷ bs)).size b bs some within)

-- as a cursor reads it
pub next-token : (names : List (List ℕ)) (place : ℕ) (bytes : List ℕ) → slice_get bytes 0 ≢ Some 32 → 0 < length bytes
    → (token : Token) (size : ℕ) → token ≡ (front names bytes).token → size ≡ (front names bytes).size → 0 < size → size ≤ length bytes
    → At place token (tokens names (place + size) 0 (take (length bytes - size) (drop size bytes))) ≡ tokens names place 0 bytes
next-token names place bytes no_blank here token size e f some within =
    let all : take (length bytes - size) (drop size bytes) ≡ drop size bytes = take_all (length bytes - size) (drop size bytes) (omega (arith, length-drop size bytes)) in
    ap (λ bs. At place token (tokens names (place + size) 0 bs)) all
    ∙ ap (λ t. At place t (tokens names (place + size) 0 (drop size bytes))) e
    ∙ ap (λ n. At place (front names bytes).token (tokens names (place + n) 0 (drop n bytes))) f
    ∙ sym (tokens-token names place bytes no_blank here (subst (λ n. 0 < n) f some) (subst (λ n. n ≤ length bytes) f within))

-- tokens that are tested as equal are equal
pub same_token-refl : (token : Token) → same_token token token ≡ true
same_token-refl Truth = refl
same_token-refl Falsity = refl
same_token-refl Open = refl
same_token-refl Close = refl
same_token-refl And = refl
same_token-refl Or = refl
same_token-refl Over = refl
same_token-refl (Principal n) = eq-eqb n n refl
same_token-refl Stranger = refl
same_token-refl Stray = refl

pub same_token-true : (token other : Token) → same_token token other ≡ true → token ≡ other
same_token-true Truth Truth e = refl
same_token-true Falsity Falsity e = refl
same_token-true Open Open e = refl
same_token-true Close Close e = refl
same_token-true And And e = refl
same_token-true Or Or e = refl
same_token-true Over Over e = refl
same_token-true (Principal m) (Principal n) e = ap Principal (eqb-true m n e)
same_token-true Stranger Stranger e = refl
same_token-true Stray Stray e = refl
same_token-true token other e = cc

-- what is after a token stands behind it
pub after-At : (token : Token) (place : ℕ) (rest : Tokens) → after token (At place token rest) ≡ Some rest
after-At token place rest = ap (λ b. if b then Some rest else None) (same_token-refl token)

pub after-Some : (token : Token) (ts rest : Tokens) → after token ts ≡ Some rest → ts ≡ At (place_of ts) token rest
after-Some token (End place) rest e = cc
after-Some token (At place next more) rest e = by (same_token token next) refl e
  where
    by : (b : Bool) → same_token token next ≡ b → (if b then Some more else None) ≡ Some rest → At place next more ≡ At place token rest
    by true f e =
        let same : more ≡ rest = cc in
        ap (λ t. At place t more) (sym (same_token-true token next f)) ∙ ap (At place token) same
    by false f e = cc

-- the tokens without their places
pub symbols-cons : (ts : Tokens) (token : Token) (rest : List Token) → symbols ts ≡ token ∷ rest → (more : Tokens) × (ts ≡ At (place_of ts) token more) × (symbols more ≡ rest)
symbols-cons (End place) token rest e = cc
symbols-cons (At place next more) token rest e =
    let same : next ≡ token = cc in
    let left : symbols more ≡ rest = cc in
    (more, ap (λ t. At place t more) same, left)

pub after-symbols : (token : Token) (ts rest : Tokens) → after token ts ≡ Some rest → symbols ts ≡ token ∷ symbols rest
after-symbols token ts rest e = ap symbols (after-Some token ts rest e)

-- another token is next, or none
pub after-other : (token : Token) (ts : Tokens) → ((rest : List Token) → symbols ts ≢ token ∷ rest) → after token ts ≡ None
after-other token ts other = by (after token ts) refl
  where
    by : (o : Option Tokens) → after token ts ≡ o → after token ts ≡ None
    by None e = e
    by (Some rest) e = absurd (other (symbols rest) (after-symbols token ts rest e))

pub count_of-symbols : (ts : Tokens) → count_of ts ≡ length (symbols ts)
count_of-symbols (End place) = refl
count_of-symbols (At place token rest) = ap suc (count_of-symbols rest)
