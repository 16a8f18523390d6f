-- Going through the names of a clause, and through the clauses of a formula.
use Rattle.std.proofs.Common.{◌≡◌, ℕ, ◌<◌, ◌^◌, ◌*◌, ◌%◌, bit_or, List, [], ◌∷◌, ◌++◌, map, ◌⊎◌, inl, inr, Option, Some, None, Result, Ok, Err, IfOk, IfErr, IsTrue, refl, sym, ap, subst, ◌∙◌, append_assoc, arith}
use Rattle.std.specs.List.{All}
use Rattle.std.proofs.lemmas.List.{append-nil, map-append}
use Rattle.lio_clauses.specs.declared.text.token.Token.TheVariants.{And, Or, Open, Close, Over, Truth, Falsity}
use Rattle.lio_clauses.specs.declared.faults.TextFault.{TextFault}
use Rattle.lio_clauses.specs.declared.faults.TextFault.TheVariants.{NoMemory}
use Rattle.lio_clauses.specs.declared.text.clauses.Clauses.{Clauses}
use Rattle.lio_clauses.specs.Token.{Tokens, count_of, after, tokens_of}
use Rattle.lio_clauses.specs.FormulaText.{Read, Reading, ◌>>=◌, narrow, written, written_two, reading, reading_two, if_next, expected, ended, whole, two_at, name_at, repeated, listed, names_at, one_at, clause_at, formula_at}
use Rattle.lio_clauses.specs.Grammar.{name_tokens, clause_tokens, clause_value}
use Rattle.lio_clauses.specs.Cursor.{with_value, mask_of, AreMasksOf, Gives, HasMasks, HaveMasks}
use Rattle.lio_clauses.specs.FormulaPrint.{AreNamed}
use Rattle.lio_clauses.specs.Principals.{principals}
use Rattle.lio_clauses.proofs.TokenLemmas.{after-Some}
use Rattle.lio_clauses.proofs.GrammarLemmas.{name_at-sound, name_tokens-some, clause_at-sound, clause_tokens-some, repeated-end, repeated-next, item-fewer}
use Rattle.lio_clauses.proofs.MaskLemmas.{narrow-masks, pow_shift, or_nothing, or_together}
use Rattle.lio_clauses.proofs.KnownLemmas.{reading-named}

-- what a reading with other values says of the reading
pub value_of : {A B : Type 0} (f : A → B) (r : Reading A) (value : B) (rest : Tokens) → Ok (record { value = value; rest = rest }) ≡ with_value f r
    → (a : A) × (r ≡ Ok (record { value = a; rest = rest })) × (value ≡ f a)
value_of f (Ok r) value rest e =
    let same : record { value = value; rest = rest } ≡ record { value = f r.value; rest = r.rest } = cc in
    (r.value, ap (λ (x : Read _). Ok (record { value = r.value; rest = x.rest })) (sym same), ap (λ (x : Read _). x.value) same)
value_of f (Err fault) value rest e = cc

pub fault_of : {A B : Type 0} (f : A → B) (r : Reading A) (fault : TextFault) → Err fault ≡ with_value f r → r ≡ Err fault
fault_of f (Ok r) fault e = cc
fault_of f (Err other) fault e = cc

same_with : {A B : Type 0} (f : A → A) (g : A → B) (h : A → B) (r : Reading A) → ((x : A) → h x ≡ g (f x)) → with_value h r ≡ with_value g (r >>= λ x. Ok (record { value = f x.value; rest = x.rest }))
same_with f g h (Ok r) e = ap (λ v. Ok (record { value = v; rest = r.rest })) (e r.value)
same_with f g h (Err fault) e = refl

-- the names behind signs, and the clauses

abbrev pub more_names : Tokens → Reading (List ℕ)
more_names ts = repeated (count_of ts) Or name_at ts

abbrev pub more_clauses : Tokens → Reading (List (List ℕ))
more_clauses ts = repeated (count_of ts) And clause_at ts

-- the masks of a clause's first name, of one more, and of the last

pub names-first : (n : ℕ) (ts rest : Tokens) → Ok (record { value = n; rest = rest }) ≡ name_at ts → n < 64
    → with_value (λ ns. bit_or (1 * 2 ^ n % 18446744073709551616) (mask_of ns)) (more_names rest) ≡ with_value mask_of (listed Or name_at ts)
names-first n ts rest e small =
    same_with (λ ns. n ∷ ns) mask_of (λ ns. bit_or (1 * 2 ^ n % 18446744073709551616) (mask_of ns)) (more_names rest) (λ ns. ap (λ m. bit_or m (mask_of ns)) (pow_shift n small))
    ∙ ap (λ r. with_value mask_of (r >>= λ x. more_names x.rest >>= λ xs. Ok (record { value = x.value ∷ xs.value; rest = xs.rest }))) e

pub names-next : (clause n : ℕ) (ts more rest : Tokens) → after Or ts ≡ Some more → Ok (record { value = n; rest = rest }) ≡ name_at more → n < 64
    → with_value (λ ns. bit_or (bit_or clause (1 * 2 ^ n % 18446744073709551616)) (mask_of ns)) (more_names rest) ≡ with_value (λ ns. bit_or clause (mask_of ns)) (more_names ts)
names-next clause n ts more rest f e small =
    same_with (λ ns. n ∷ ns) (λ ns. bit_or clause (mask_of ns)) (λ ns. bit_or (bit_or clause (1 * 2 ^ n % 18446744073709551616)) (mask_of ns)) (more_names rest)
    (λ ns. ap (λ m. bit_or (bit_or clause m) (mask_of ns)) (pow_shift n small) ∙ or_together clause (2 ^ n) (mask_of ns))
    ∙ ap (λ r. with_value (λ ns. bit_or clause (mask_of ns)) (r >>= λ x. more_names x.rest >>= λ xs. Ok (record { value = x.value ∷ xs.value; rest = xs.rest }))) e
    ∙ ap (with_value (λ ns. bit_or clause (mask_of ns))) (sym (repeated-next Or name_at name_tokens (λ n. n) name_at-sound name_tokens-some ts more f))

pub names-last : (clause : ℕ) (ts : Tokens) → after Or ts ≡ None → Ok (record { value = clause; rest = ts }) ≡ with_value (λ ns. bit_or clause (mask_of ns)) (more_names ts)
names-last clause ts e =
    ap (λ m. Ok (record { value = m; rest = ts })) (sym (or_nothing clause))
    ∙ ap (with_value (λ ns. bit_or clause (mask_of ns))) (sym (repeated-end Or name_at name_tokens (λ n. n) (count_of ts) ts e))

pub names-fault_first : (ts : Tokens) (fault : TextFault) → Err fault ≡ name_at ts → Err fault ≡ with_value mask_of (listed Or name_at ts)
names-fault_first ts fault e = ap (λ r. with_value mask_of (r >>= λ x. more_names x.rest >>= λ xs. Ok (record { value = x.value ∷ xs.value; rest = xs.rest }))) e

pub names-fault_next : (clause : ℕ) (ts more : Tokens) (fault : TextFault) → after Or ts ≡ Some more → Err fault ≡ name_at more → Err fault ≡ with_value (λ ns. bit_or clause (mask_of ns)) (more_names ts)
names-fault_next clause ts more fault f e =
    ap (λ r. with_value (λ ns. bit_or clause (mask_of ns)) (r >>= λ x. more_names x.rest >>= λ xs. Ok (record { value = x.value ∷ xs.value; rest = xs.rest }))) e
    ∙ ap (with_value (λ ns. bit_or clause (mask_of ns))) (sym (repeated-next Or name_at name_tokens (λ n. n) name_at-sound name_tokens-some ts more f))

pub name-fewer : (n : ℕ) (ts more rest : Tokens) → after Or ts ≡ Some more → Ok (record { value = n; rest = rest }) ≡ name_at more → count_of rest < count_of ts
name-fewer n ts more rest f e =
    let less = item-fewer Or name_at name_tokens (λ n. n) name_at-sound name_tokens-some more (record { value = n; rest = rest }) (sym e) in
    let one = ap count_of (after-Some Or ts more f) in
    omega (arith, less, one)

-- a clause of one name, and one in parentheses

pub clause-one : (n : ℕ) (ts rest : Tokens) → after Open ts ≡ None → Ok (record { value = n; rest = rest }) ≡ name_at ts → n < 64
    → Ok (record { value = 1 * 2 ^ n % 18446744073709551616; rest = rest }) ≡ with_value mask_of (clause_at ts)
unfolding clause_at
clause-one n ts rest none e small =
    ap (λ m. Ok (record { value = m; rest = rest })) (pow_shift n small ∙ sym (or_nothing (2 ^ n)))
    ∙ ap (λ r. with_value mask_of (r >>= λ n. Ok (record { value = n.value ∷ []; rest = n.rest }))) e
    ∙ ap (λ o. with_value mask_of (if_next o names_at (one_at ts))) (sym none)

pub clause-one_fault : (ts : Tokens) (fault : TextFault) → after Open ts ≡ None → Err fault ≡ name_at ts → Err fault ≡ with_value mask_of (clause_at ts)
unfolding clause_at
clause-one_fault ts fault none e =
    ap (λ r. with_value mask_of (r >>= λ n. Ok (record { value = n.value ∷ []; rest = n.rest }))) e
    ∙ ap (λ o. with_value mask_of (if_next o names_at (one_at ts))) (sym none)

module _ (ts inside : Tokens) (opens : after Open ts ≡ Some inside) where
  inside_clause : with_value mask_of (names_at inside) ≡ with_value mask_of (clause_at ts)
  unfolding clause_at
  inside_clause = ap (λ o. with_value mask_of (if_next o names_at (one_at ts))) (sym opens)

  pub clause-fault_names : (fault : TextFault) → Err fault ≡ with_value mask_of (listed Or name_at inside) → Err fault ≡ with_value mask_of (clause_at ts)
  clause-fault_names fault e =
      sym (ap (λ r. with_value mask_of (r >>= λ ns. expected Close ns.rest >>= λ rest. Ok (record { value = ns.value; rest = rest }))) (fault_of mask_of (listed Or name_at inside) fault e)) ∙ inside_clause

  module _ (clause : ℕ) (end : Tokens) (names : Ok (record { value = clause; rest = end }) ≡ with_value mask_of (listed Or name_at inside)) where
    pub clause-fault_close : (fault : TextFault) → expected Close end ≡ Err fault → Err fault ≡ with_value mask_of (clause_at ts)
    clause-fault_close fault e =
        let p = value_of mask_of (listed Or name_at inside) clause end names in
        sym (ap (λ r. with_value mask_of (r >>= λ ns. expected Close ns.rest >>= λ rest. Ok (record { value = ns.value; rest = rest }))) p.1
        ∙ ap (λ r. with_value mask_of (r >>= λ rest. Ok (record { value = p.0; rest = rest }))) e) ∙ inside_clause

    pub clause-several : (rest : Tokens) → expected Close end ≡ Ok rest → Ok (record { value = clause; rest = rest }) ≡ with_value mask_of (clause_at ts)
    clause-several rest e =
        let p = value_of mask_of (listed Or name_at inside) clause end names in
        ap (λ m. Ok (record { value = m; rest = rest })) p.2
        ∙ sym (ap (λ r. with_value mask_of (r >>= λ ns. expected Close ns.rest >>= λ rest. Ok (record { value = ns.value; rest = rest }))) p.1
        ∙ ap (λ r. with_value mask_of (r >>= λ rest. Ok (record { value = p.0; rest = rest }))) e) ∙ inside_clause

-- some clauses were read, and others are left
pub record ReadsOn (all : Reading (List (List ℕ))) (ts : Tokens) (clauses : Clauses) : Type 0 where
  pub done : List (List ℕ)
  pub joined : all ≡ with_value (λ cs. done ++ cs) (more_clauses ts)
  pub masks : AreMasksOf clauses done

-- what a clause's mask is added to
pub record Adds (old new : Clauses) (clause : ℕ) : Type 0 where
  pub complete : IsTrue new.complete → IsTrue old.complete
  pub masks : IsTrue new.complete → new.masks.items ≡ old.masks.items ++ clause ∷ []

pub ReadsOn-first : (old new : Clauses) (m : ℕ) (ts rest : Tokens) → Ok (record { value = m; rest = rest }) ≡ with_value mask_of (clause_at ts) → old.masks.items ≡ [] → Adds old new m
    → ReadsOn (listed And clause_at ts) rest new
ReadsOn-first old new m ts rest e empty adds =
    let p = value_of mask_of (clause_at ts) m rest e in
    record {
      done = p.0 ∷ [];
      joined = ap (λ r. r >>= λ x. more_clauses x.rest >>= λ xs. Ok (record { value = x.value ∷ xs.value; rest = xs.rest })) p.1 ∙ behind p.0 (more_clauses rest);
      masks = λ t. adds.masks t ∙ ap (λ ms. ms ++ m ∷ []) empty ∙ ap (λ m. m ∷ []) p.2;
    }
  where
    behind : (c : List ℕ) (r : Reading (List (List ℕ))) → (r >>= λ xs. Ok (record { value = c ∷ xs.value; rest = xs.rest })) ≡ with_value (λ cs. (c ∷ []) ++ cs) r
    behind c (Ok r) = refl
    behind c (Err fault) = refl

pub ReadsOn-next : (all : Reading (List (List ℕ))) (old new : Clauses) (m : ℕ) (ts more rest : Tokens) → ReadsOn all ts old → after And ts ≡ Some more
    → Ok (record { value = m; rest = rest }) ≡ with_value mask_of (clause_at more) → Adds old new m → ReadsOn all rest new
ReadsOn-next all old new m ts more rest on f e adds =
    let p = value_of mask_of (clause_at more) m rest e in
    record {
      done = on.done ++ p.0 ∷ [];
      joined =
          on.joined ∙ ap (with_value (λ cs. on.done ++ cs)) (repeated-next And clause_at clause_tokens clause_value clause_at-sound clause_tokens-some ts more f)
          ∙ ap (λ r. with_value (λ cs. on.done ++ cs) (r >>= λ x. more_clauses x.rest >>= λ xs. Ok (record { value = x.value ∷ xs.value; rest = xs.rest }))) p.1
          ∙ behind on.done p.0 (more_clauses rest);
      masks = λ t. adds.masks t ∙ ap (λ ms. ms ++ m ∷ []) (on.masks (adds.complete t)) ∙ ap (λ m. map mask_of on.done ++ m ∷ []) p.2 ∙ sym (map-append mask_of on.done (p.0 ∷ []));
    }
  where
    behind : (done : List (List ℕ)) (c : List ℕ) (r : Reading (List (List ℕ))) → with_value (λ cs. done ++ cs) (r >>= λ xs. Ok (record { value = c ∷ xs.value; rest = xs.rest })) ≡ with_value (λ cs. (done ++ c ∷ []) ++ cs) r
    behind done c (Ok r) = ap (λ cs. Ok (record { value = cs; rest = r.rest })) (sym (append_assoc done (c ∷ []) r.value))
    behind done c (Err fault) = refl

pub ReadsOn-last : (all : Reading (List (List ℕ))) (clauses : Clauses) (ts : Tokens) → ReadsOn all ts clauses → after And ts ≡ None → Gives all clauses ts
ReadsOn-last all clauses ts on e = record {
  value = on.done;
  read =
      on.joined ∙ ap (with_value (λ cs. on.done ++ cs)) (repeated-end And clause_at clause_tokens clause_value (count_of ts) ts e)
      ∙ ap (λ cs. Ok (record { value = cs; rest = ts })) (append-nil on.done);
  masks = on.masks;
}

pub clauses-fault_first : (ts : Tokens) (fault : TextFault) → Err fault ≡ with_value mask_of (clause_at ts) → listed And clause_at ts ≡ Err fault
clauses-fault_first ts fault e = ap (λ r. r >>= λ x. more_clauses x.rest >>= λ xs. Ok (record { value = x.value ∷ xs.value; rest = xs.rest })) (fault_of mask_of (clause_at ts) fault e)

pub ReadsOn-fault : (all : Reading (List (List ℕ))) (clauses : Clauses) (ts more : Tokens) (fault : TextFault) → ReadsOn all ts clauses → after And ts ≡ Some more
    → Err fault ≡ with_value mask_of (clause_at more) → all ≡ Err fault
ReadsOn-fault all clauses ts more fault on f e =
    on.joined ∙ ap (with_value (λ cs. on.done ++ cs)) (repeated-next And clause_at clause_tokens clause_value clause_at-sound clause_tokens-some ts more f ∙ clauses-fault_first more fault e)

pub clause-fewer : (m : ℕ) (ts more rest : Tokens) → after And ts ≡ Some more → Ok (record { value = m; rest = rest }) ≡ with_value mask_of (clause_at more) → count_of rest < count_of ts
clause-fewer m ts more rest f e =
    let p = value_of mask_of (clause_at more) m rest e in
    let less = item-fewer And clause_at clause_tokens clause_value clause_at-sound clause_tokens-some more (record { value = p.0; rest = rest }) p.1 in
    let one = ap count_of (after-Some And ts more f) in
    omega (arith, less, one)

-- a formula

module _ (ts : Tokens) where
  pub formula-truth : (clauses : Clauses) (rest : Tokens) → after Truth ts ≡ Some rest → clauses.masks.items ≡ [] → Gives (formula_at ts) clauses rest
  unfolding formula_at
  formula-truth clauses rest e empty = record {
    value = [];
    read = ap (λ o. if_next o (λ rest. Ok (record { value = []; rest = rest })) (if_next (after Falsity ts) (λ rest. Ok (record { value = [] ∷ []; rest = rest })) (listed And clause_at ts))) e;
    masks = λ t. empty;
  }

  module _ (not_truth : after Truth ts ≡ None) where
    by_falsity : (o : Option Tokens) → after Falsity ts ≡ o → formula_at ts ≡ if_next o (λ rest. Ok (record { value = [] ∷ []; rest = rest })) (listed And clause_at ts)
    unfolding formula_at
    by_falsity o e =
        ap (λ o. if_next o (λ rest. Ok (record { value = []; rest = rest })) (if_next (after Falsity ts) (λ rest. Ok (record { value = [] ∷ []; rest = rest })) (listed And clause_at ts))) not_truth
        ∙ ap (λ o. if_next o (λ rest. Ok (record { value = [] ∷ []; rest = rest })) (listed And clause_at ts)) e

    pub formula-falsity : (old new : Clauses) (rest : Tokens) → after Falsity ts ≡ Some rest → old.masks.items ≡ [] → Adds old new 0 → Gives (formula_at ts) new rest
    formula-falsity old new rest e empty adds = record {
      value = [] ∷ [];
      read = by_falsity (Some rest) e;
      masks = λ t. adds.masks t ∙ ap (λ ms. ms ++ 0 ∷ []) empty;
    }

    module _ (not_falsity : after Falsity ts ≡ None) where
      pub formula-conjunction : formula_at ts ≡ listed And clause_at ts
      formula-conjunction = by_falsity None not_falsity

-- a whole text

pub reading-fault : (names : List (List ℕ)) (text : List ℕ) (fault : TextFault) → written names text ≡ Err fault → reading names text ≡ Err fault
unfolding reading
reading-fault names text fault e = ap (λ r. r >>= narrow) e

pub reading_two-fault : (names : List (List ℕ)) (text : List ℕ) (fault : TextFault) → written_two names text ≡ Err fault → reading_two names text ≡ Err fault
unfolding reading_two
reading_two-fault names text fault e = ap (λ r. r >>= λ both. narrow both.0 >>= λ A. narrow both.1 >>= λ B. Ok (A, B)) e

-- the masks that were read have the canonical form of the clauses
narrow-read : (clauses : Clauses) (A : List (List ℕ)) → AreMasksOf clauses A → IsTrue clauses.complete
    → narrow (map principals clauses.masks.items) ≡ narrow A
narrow-read clauses A masks t =
    ap (λ ms. narrow (map principals ms)) (masks t) ∙ narrow-masks A (subst (All (λ mask. mask < 2 ^ 64)) (masks t) clauses.fits)

module _ (names : List (List ℕ)) (text : List ℕ) (clauses : Clauses) (has : HasMasks names text clauses) where
  by_masks : IsTrue clauses.complete → narrow (map principals clauses.masks.items) ≡ reading names text
  unfolding reading
  by_masks t = narrow-read clauses has.value has.masks t ∙ sym (ap (λ r. r >>= narrow) has.read)

  pub reading-masks : (r : Result (List (List ℕ)) TextFault)
      → IfOk r (λ A. IsTrue clauses.complete × (narrow (map principals clauses.masks.items) ≡ Ok A))
      → IfErr r (λ fault. (fault ≡ NoMemory) ⊎ (IsTrue clauses.complete × (narrow (map principals clauses.masks.items) ≡ Err fault)))
      → IfOk r (λ A. reading names text ≡ Ok A) × IfOk r (AreNamed names) × IfErr r (λ fault. (fault ≡ NoMemory) ⊎ (reading names text ≡ Err fault))
  reading-masks (Ok A) h k = let e = sym (by_masks h.0) ∙ h.1 in (e, reading-named names text A e, tt)
  reading-masks (Err fault) h (inl want) = (tt, tt, inl want)
  reading-masks (Err fault) h (inr k) = (tt, tt, inr (sym (by_masks k.0) ∙ k.1))

  pub written-Ok : (P : TextFault → Type 0) → IfErr (written names text) P
  written-Ok P = rw has.read tt

-- the same of two
module _ (names : List (List ℕ)) (text : List ℕ) (first second : Clauses) (have : HaveMasks names text first second) where
  together : Result (List (List ℕ)) TextFault → Result (List (List ℕ)) TextFault → Result (List (List ℕ) × List (List ℕ)) TextFault
  together a b = a >>= λ A. b >>= λ B. Ok (A, B)

  by_both : reading_two names text ≡ together (narrow have.value) (narrow have.other)
  unfolding reading_two together
  by_both = ap (λ r. r >>= λ both. narrow both.0 >>= λ A. narrow both.1 >>= λ B. Ok (A, B)) have.read

  first_masks : IsTrue first.complete → narrow (map principals first.masks.items) ≡ narrow have.value
  first_masks t = narrow-read first have.value have.masks t

  second_masks : IsTrue second.complete → narrow (map principals second.masks.items) ≡ narrow have.other
  second_masks t = narrow-read second have.other have.others t

  pub two-first_fault : (fault : TextFault) → (fault ≡ NoMemory) ⊎ (IsTrue first.complete × (narrow (map principals first.masks.items) ≡ Err fault))
      → (fault ≡ NoMemory) ⊎ (reading_two names text ≡ Err fault)
  unfolding together
  two-first_fault fault (inl want) = inl want
  two-first_fault fault (inr k) = inr (by_both ∙ ap (λ a. together a (narrow have.other)) (sym (first_masks k.0) ∙ k.1))

  module _ (A : List (List ℕ)) (one : IsTrue first.complete × (narrow (map principals first.masks.items) ≡ Ok A)) where
    pub two-second_fault : (fault : TextFault) → (fault ≡ NoMemory) ⊎ (IsTrue second.complete × (narrow (map principals second.masks.items) ≡ Err fault))
        → (fault ≡ NoMemory) ⊎ (reading_two names text ≡ Err fault)
    unfolding together
    two-second_fault fault (inl want) = inl want
    two-second_fault fault (inr k) =
        inr (by_both ∙ ap (λ a. together a (narrow have.other)) (sym (first_masks one.0) ∙ one.1) ∙ ap (together (Ok A)) (sym (second_masks k.0) ∙ k.1))

    pub two-Ok : (B : List (List ℕ)) → IsTrue second.complete × (narrow (map principals second.masks.items) ≡ Ok B) → reading_two names text ≡ Ok (A, B)
    unfolding together
    two-Ok B k = by_both ∙ ap (λ a. together a (narrow have.other)) (sym (first_masks one.0) ∙ one.1) ∙ ap (together (Ok A)) (sym (second_masks k.0) ∙ k.1)

  pub written_two-Ok : (P : TextFault → Type 0) → IfErr (written_two names text) P
  written_two-Ok P = rw have.read tt

-- a text with a fault, or something left over

module _ (names : List (List ℕ)) (text : List ℕ) (ts : Tokens) (begins : ts ≡ tokens_of names text) where
  by_formula : (r : Reading (List (List ℕ))) → formula_at ts ≡ r → written names text ≡ (r >>= whole)
  unfolding written
  by_formula r e = ap (λ ts. formula_at ts >>= whole) (sym begins) ∙ ap (λ r. r >>= whole) e

  pub written-fault : (fault : TextFault) → formula_at ts ≡ Err fault → written names text ≡ Err fault
  written-fault fault e = by_formula (Err fault) e

  module _ (clauses : Clauses) (rest : Tokens) (gives : Gives (formula_at ts) clauses rest) where
    pub written-left : (fault : TextFault) → ended rest ≡ Err fault → written names text ≡ Err fault
    written-left fault e = by_formula _ gives.read ∙ ap (λ r. r >>= λ end. Ok gives.value) e

    pub written-all : ended rest ≡ Ok rest → HasMasks names text clauses
    written-all e = record { value = gives.value; read = by_formula _ gives.read ∙ ap (λ r. r >>= λ end. Ok gives.value) e; masks = gives.masks }

  by_two : (r : Reading (List (List ℕ) × List (List ℕ))) → two_at ts ≡ r → written_two names text ≡ (r >>= whole)
  unfolding written_two
  by_two r e = ap (λ ts. two_at ts >>= whole) (sym begins) ∙ ap (λ r. r >>= whole) e

  abbrev two_from : Reading (List (List ℕ)) → Reading (List (List ℕ) × List (List ℕ))
  two_from r = r >>= λ first. expected Over first.rest >>= λ over. formula_at over >>= λ second. Ok (record { value = (first.value, second.value); rest = second.rest })

  abbrev two_over : List (List ℕ) → Result Tokens TextFault → Reading (List (List ℕ) × List (List ℕ))
  two_over A r = r >>= λ over. formula_at over >>= λ second. Ok (record { value = (A, second.value); rest = second.rest })

  abbrev two_second : List (List ℕ) → Reading (List (List ℕ)) → Reading (List (List ℕ) × List (List ℕ))
  two_second A r = r >>= λ second. Ok (record { value = (A, second.value); rest = second.rest })

  pub two-fault_first : (fault : TextFault) → formula_at ts ≡ Err fault → written_two names text ≡ Err fault
  unfolding two_at
  two-fault_first fault e = by_two (Err fault) (ap two_from e)

  module _ (clauses : Clauses) (rest : Tokens) (gives : Gives (formula_at ts) clauses rest) where
    pub two-fault_over : (fault : TextFault) → expected Over rest ≡ Err fault → written_two names text ≡ Err fault
    unfolding two_at
    two-fault_over fault e = by_two (Err fault) (ap two_from gives.read ∙ ap (two_over gives.value) e)

    module _ (over : Tokens) (sign : expected Over rest ≡ Ok over) where
      pub two-fault_second : (fault : TextFault) → formula_at over ≡ Err fault → written_two names text ≡ Err fault
      unfolding two_at
      two-fault_second fault e = by_two (Err fault) (ap two_from gives.read ∙ ap (two_over gives.value) sign ∙ ap (two_second gives.value) e)

      module _ (others : Clauses) (end : Tokens) (more : Gives (formula_at over) others end) where
        both_read : two_at ts ≡ Ok (record { value = (gives.value, more.value); rest = end })
        unfolding two_at
        both_read = ap two_from gives.read ∙ ap (two_over gives.value) sign ∙ ap (two_second gives.value) more.read

        pub two-left : (fault : TextFault) → ended end ≡ Err fault → written_two names text ≡ Err fault
        two-left fault e = by_two _ both_read ∙ ap (λ r. r >>= λ end. Ok (gives.value, more.value)) e

        pub two-all : ended end ≡ Ok end → HaveMasks names text clauses others
        two-all e = record {
          value = gives.value;
          other = more.value;
          read = by_two _ both_read ∙ ap (λ r. r >>= λ end. Ok (gives.value, more.value)) e;
          masks = gives.masks;
          others = more.masks;
        }
