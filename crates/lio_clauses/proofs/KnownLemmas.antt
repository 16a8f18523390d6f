-- The principals of a formula that is read are those of the names.
use Rattle.std.proofs.Common.{◌≡◌, ℕ, zero, suc, ◌<◌, ◌==◌, ◌-◌, Bool, true, false, cond, if◌then◌else◌, inl, inr, List, [], ◌∷◌, ◌++◌, map, length, take, codes, nat_eq, nat_lt, Option, Some, None, Ok, Err, All, refl, sym, subst}
use Rattle.std.specs.List.{prefix_len, starts_with}
use Rattle.std.specs.Str.{bytes_eq}
use Rattle.std.proofs.lemmas.List.Quantifiers.{position-Some}
use Rattle.lio_clauses.specs.declared.text.token.Token.{Token}
use Rattle.lio_clauses.specs.declared.text.token.Token.TheVariants as token
use Rattle.lio_clauses.specs.declared.faults.TextFault.TheVariants.{Wide}
use Rattle.lio_clauses.specs.Names.{is_letter, is_name_byte, number_of}
use Rattle.lio_clauses.specs.Token.{At, Lexeme, name_token, name_at_front, front, tokens, symbols}
use Rattle.lio_clauses.specs.FormulaText.{◌>>=◌, written, written_two, narrow, reading, reading_two}
use Rattle.lio_clauses.specs.Grammar.{ClauseTree, Name, Names, FormulaTree, Truth, Falsity, Clauses, name_tokens, repetition, clause_tokens, clause_value, formula_tokens, formula_value}
use Rattle.lio_clauses.specs.Canonical.{canonical}
use Rattle.lio_clauses.specs.Implication.{named}
use Rattle.lio_clauses.specs.FormulaPrint.{AreNamed}
use Rattle.lio_clauses.proofs.GrammarLemmas.{bind-Ok, read_is_derived, read_two_are_derived}
use Rattle.lio_clauses.proofs.Members.{In, In-All}
use Rattle.lio_clauses.proofs.Sublists.{sublists-members}
use Rattle.lio_clauses.proofs.Implied.{named-parts}
use Rattle.lio_clauses.proofs.Minimal.{canonical_of-sublist}

module _ (k : ℕ) where
  -- a token that names a principal has a number below k
  abbrev pub IsBelow : Token → Type 0
  IsBelow (token.Principal n) = n < k
  IsBelow token = Unit {0}

  -- and so has each of the tokens
  abbrev pub AreBelow : List Token → Type 0
  AreBelow (token ∷ tokens) = IsBelow token × AreBelow tokens
  AreBelow [] = Unit {0}

  below-left : (ts us : List Token) → AreBelow (ts ++ us) → AreBelow ts
  below-left [] us h = tt
  below-left (t ∷ ts) us h = (h.0, below-left ts us h.1)

  below-right : (ts us : List Token) → AreBelow (ts ++ us) → AreBelow us
  below-right [] us h = h
  below-right (t ∷ ts) us h = below-right ts us h.1

  -- the principals of a clause, and of clauses
  abbrev pub BelowIn : List ℕ → Type 0
  BelowIn c = (n : ℕ) → In n c → n < k

  abbrev pub BelowInEach : List (List ℕ) → Type 0
  BelowInEach A = (c : List ℕ) → In c A → BelowIn c

  below-cons : (n : ℕ) (c : List ℕ) → n < k → BelowIn c → BelowIn (n ∷ c)
  below-cons n c small all m (inl e) = subst (λ m. m < k) (sym e) small
  below-cons n c small all m (inr h) = all m h

  each-cons : (c : List ℕ) (A : List (List ℕ)) → BelowIn c → BelowInEach A → BelowInEach (c ∷ A)
  each-cons c A own all d (inl e) = subst BelowIn (sym e) own
  each-cons c A own all d (inr h) = all d h

  names-below : (ns : List ℕ) → AreBelow (repetition token.Or name_tokens ns) → BelowIn ns
  names-below [] h = λ n i. absurd i
  names-below (n ∷ ns) h = below-cons n ns h.1.0 (names-below ns h.1.1)

  clause-below : (c : ClauseTree) → AreBelow (clause_tokens c) → BelowIn (clause_value c)
  clause-below (Name n) h = below-cons n [] h.0 (λ m i. absurd i)
  clause-below (Names n ns) h = below-cons n ns h.1.0 (names-below ns (below-left (repetition token.Or name_tokens ns) (token.Close ∷ []) h.1.1))

  clauses-below : (cs : List ClauseTree) → AreBelow (repetition token.And clause_tokens cs) → BelowInEach (map clause_value cs)
  clauses-below [] h = λ c i. absurd i
  clauses-below (c ∷ cs) h =
      each-cons (clause_value c) (map clause_value cs) (clause-below c (below-left (clause_tokens c) (repetition token.And clause_tokens cs) h.1))
      (clauses-below cs (below-right (clause_tokens c) (repetition token.And clause_tokens cs) h.1))

  pub formula-below : (f : FormulaTree) → AreBelow (formula_tokens f) → BelowInEach (formula_value f)
  formula-below Truth h = λ c i. absurd i
  formula-below Falsity h = each-cons [] [] (λ n i. absurd i) (λ c i. absurd i)
  formula-below (Clauses c cs) h =
      each-cons (clause_value c) (map clause_value cs) (clause-below c (below-left (clause_tokens c) (repetition token.And clause_tokens cs) h))
      (clauses-below cs (below-right (clause_tokens c) (repetition token.And clause_tokens cs) h))

module _ (names : List (List ℕ)) where
  -- a name's number is below the number of names
  name_token-below : (name : List ℕ) (o : Option ℕ) → number_of names name ≡ o → IsBelow (length names) (name_token o)
  name_token-below name None e = tt
  name_token-below name (Some n) e = (position-Some (bytes_eq name) names n [] e).0

  either : (t : Bool) (x y : Lexeme) → IsBelow (length names) x.token → IsBelow (length names) y.token → IsBelow (length names) (if t then x else y).token
  either true x y h k = h
  either false x y h k = k

  front-below : (bytes : List ℕ) → IsBelow (length names) (front names bytes).token
  unfolding front
  front-below bytes =
      either (starts_with nat_eq bytes (codes "True")) _ _ tt
      (either (starts_with nat_eq bytes (codes "False")) _ _ tt
      (either (starts_with nat_eq bytes (codes "(")) _ _ tt
      (either (starts_with nat_eq bytes (codes ")")) _ _ tt
      (either (starts_with nat_eq bytes (codes "/\\")) _ _ tt
      (either (starts_with nat_eq bytes (codes "\\/")) _ _ tt
      (either (starts_with nat_eq bytes (codes "%%")) _ _ tt (name_below bytes)))))))
    where
      name_below : (bytes : List ℕ) → IsBelow (length names) (name_at_front names bytes).token
      name_below [] = tt
      name_below (b ∷ bs) =
          either (is_letter b) (record { token = name_token (number_of names (take (prefix_len is_name_byte (b ∷ bs)) (b ∷ bs))); size = prefix_len is_name_byte (b ∷ bs) })
          (record { token = token.Stray; size = 1 })
          (name_token-below (take (prefix_len is_name_byte (b ∷ bs)) (b ∷ bs)) (number_of names (take (prefix_len is_name_byte (b ∷ bs)) (b ∷ bs))) refl) tt

  -- so the tokens of a text have such numbers
  pub tokens-below : (place inside : ℕ) (bytes : List ℕ) → AreBelow (length names) (symbols (tokens names place inside bytes))
  tokens-below place inside [] = tt
  tokens-below place (suc inside) (b ∷ bs) = tokens-below (suc place) inside bs
  tokens-below place zero (b ∷ bs) = by (b == 32) (tokens-below (suc place) zero bs) (tokens-below (suc place) ((front names (b ∷ bs)).size - 1) bs)
    where
      by : (c : Bool) → AreBelow (length names) (symbols (tokens names (suc place) zero bs)) → AreBelow (length names) (symbols (tokens names (suc place) ((front names (b ∷ bs)).size - 1) bs))
          → AreBelow (length names) (symbols (if c then tokens names (suc place) zero bs else At place (front names (b ∷ bs)).token (tokens names (suc place) ((front names (b ∷ bs)).size - 1) bs)))
      by true skipped after = skipped
      by false skipped after = (front-below (b ∷ bs), after)

-- a canonical form has no other principals than the formula
pub canonical-below : (k : ℕ) (A : List (List ℕ)) → BelowInEach k A → BelowInEach k (canonical A)
unfolding canonical
canonical-below k A all c h n i =
    let p = named-parts A n (sublists-members c (named A) (canonical_of-sublist (named A) _ c h) n i) in
    all p.0 p.1.0 n p.1.1

narrow-named : (names A B : List (List ℕ)) → BelowInEach (length names) A → narrow A ≡ Ok B → AreNamed names B
narrow-named names A B below e =
    let all = subst (BelowInEach (length names)) (of_narrow (nat_lt 64 (length (canonical A))) e) (canonical-below (length names) A below) in
    In-All (λ c. All (λ n. n < length names) c) B (λ c h. In-All (λ n. n < length names) c (λ n i. all c h n i))
  where
    of_narrow : (b : Bool) → cond b (Err Wide) (Ok (canonical A)) ≡ Ok B → canonical A ≡ B
    of_narrow true e = cc
    of_narrow false e = cc

-- and what is read has names
pub reading-named : (names : List (List ℕ)) (text : List ℕ) (A : List (List ℕ)) → reading names text ≡ Ok A → AreNamed names A
unfolding reading
reading-named names text A e =
    let p = bind-Ok (written names text) narrow A e in
    let d = read_is_derived names text p.0 p.1 in
    let below = formula-below (length names) d.formula (subst (AreBelow (length names)) d.written (tokens-below names 0 0 text)) in
    narrow-named names p.0 A (subst (BelowInEach (length names)) (sym d.means) below) p.2

pub reading_two-named : (names : List (List ℕ)) (text : List ℕ) (both : List (List ℕ) × List (List ℕ)) → reading_two names text ≡ Ok both → AreNamed names both.0 × AreNamed names both.1
unfolding reading_two
reading_two-named names text both e =
    let p = bind-Ok (written_two names text) (λ both. narrow both.0 >>= λ A. narrow both.1 >>= λ B. Ok (A, B)) both e in
    let q = bind-Ok (narrow p.0.0) (λ A. narrow p.0.1 >>= λ B. Ok (A, B)) both p.2 in
    let u = bind-Ok (narrow p.0.1) (λ B. Ok (q.0, B)) both q.2 in
    let d = read_two_are_derived names text p.0 p.1 in
    let all = subst (AreBelow (length names)) d.written (tokens-below names 0 0 text) in
    let first = formula-below (length names) d.first (below-left (length names) (formula_tokens d.first) (token.Over ∷ formula_tokens d.second) all) in
    let second = formula-below (length names) d.second (below-right (length names) (formula_tokens d.first) (token.Over ∷ formula_tokens d.second) all).1 in
    let one : both ≡ (q.0, u.0) = let last = u.2 in cc in
    subst (λ (b : List (List ℕ) × List (List ℕ)). AreNamed names b.0 × AreNamed names b.1) (sym one) (
      narrow-named names p.0.0 q.0 (subst (λ (b : List (List ℕ) × List (List ℕ)). BelowInEach (length names) b.0) (sym d.means) first) q.1,
      narrow-named names p.0.1 u.0 (subst (λ (b : List (List ℕ) × List (List ℕ)). BelowInEach (length names) b.1) (sym d.means) second) u.1,
    )
