-- What is read is derived, and what is derived is read.
use Rattle.std.proofs.Common.{◌≡◌, ◌≢◌, ℕ, zero, suc, ◌<◌, ◌≤◌, List, [], ◌∷◌, ◌++◌, map, length, length-append, Option, Some, None, Result, Ok, Err, refl, sym, ap, ◌∙◌, arith, append_assoc}
use Rattle.std.proofs.lemmas.List.{append-nil}
use Rattle.lio_clauses.specs.declared.text.token.Token.{Token}
use Rattle.lio_clauses.specs.declared.text.token.Token.TheVariants as token
use Rattle.lio_clauses.specs.declared.faults.TextFault.{TextFault}
use Rattle.lio_clauses.specs.Token.{Tokens, At, End, place_of, count_of, symbols, after, tokens_of}
use Rattle.lio_clauses.specs.FormulaText.{Read, Reading, ◌>>=◌, if_next, misplaced, expected, ended, name_at, repeated, listed, names_at, one_at, clause_at, formula_at, two_at, whole, written, written_two}
use Rattle.lio_clauses.specs.Grammar.{ClauseTree, Name, Names, FormulaTree, Truth, Falsity, Clauses, name_tokens, repetition, clause_tokens, clause_value, formula_tokens, formula_value, ReadIsDerived, DerivedIsRead, ReadTwoAreDerived, DerivedTwoAreRead}
use Rattle.lio_clauses.proofs.TokenLemmas.{symbols-cons, after-At, after-Some, after-symbols, after-other, count_of-symbols}

-- the parts of two steps that succeed
pub bind-Ok : {A B : Type 0} (r : Result A TextFault) (next : A → Result B TextFault) (y : B) → (r >>= next) ≡ Ok y → (x : A) × (r ≡ Ok x) × (next x ≡ Ok y)
bind-Ok (Ok x) next y e = (x, refl, e)
bind-Ok (Err fault) next y e = cc

-- what a production reads is one of its sentences, and stands before what is left
abbrev pub Sound : {A S : Type 0} → (Tokens → Reading A) → (S → List Token) → (S → A) → Type 0
Sound {A} {S} item tokens value = (ts : Tokens) (r : Read A) → item ts ≡ Ok r → (s : S) × (r.value ≡ value s) × (symbols ts ≡ tokens s ++ symbols r.rest)

-- and each of its sentences is read, before tokens that may stand behind it
pub record Reads {A : Type 0} (r : Reading A) (value : A) (rest : List Token) : Type 0 where
  pub more : Tokens
  pub read : r ≡ Ok (record { value = value; rest = more })
  pub behind : symbols more ≡ rest

abbrev pub Complete : {A S : Type 0} → (Tokens → Reading A) → (S → List Token) → (S → A) → (List Token → Type 0) → Type 0
Complete {A} {S} item tokens value May = (s : S) (ts : Tokens) (rest : List Token) → May rest → symbols ts ≡ tokens s ++ rest → Reads (item ts) (value s) rest

-- a token is not the first
abbrev pub Differs : Token → List Token → Type 0
Differs token rest = (more : List Token) → rest ≢ token ∷ more

-- a sign that has to be next

pub expected-sound : (token : Token) (ts rest : Tokens) → expected token ts ≡ Ok rest → symbols ts ≡ token ∷ symbols rest
expected-sound token ts rest e = by (after token ts) refl e
  where
    by : (o : Option Tokens) → after token ts ≡ o → if_next o (λ rest. Ok rest) (misplaced ts) ≡ Ok rest → symbols ts ≡ token ∷ symbols rest
    by None f e = cc
    by (Some more) f e = let same : more ≡ rest = cc in after-symbols token ts more f ∙ ap (λ ts. token ∷ symbols ts) same

pub expected-complete : (token : Token) (ts : Tokens) (rest : List Token) → symbols ts ≡ token ∷ rest → (more : Tokens) × (expected token ts ≡ Ok more) × (symbols more ≡ rest)
expected-complete token ts rest e =
    let p = symbols-cons ts token rest e in
    (p.0, ap (λ o. if_next o (λ rest. Ok rest) (misplaced ts)) (ap (after token) p.1 ∙ after-At token (place_of ts) p.0), p.2)

ended-sound : (ts end : Tokens) → ended ts ≡ Ok end → symbols ts ≡ []
ended-sound (End place) end e = refl
ended-sound (At place token rest) end e = cc

ended-complete : (ts : Tokens) → symbols ts ≡ [] → ended ts ≡ Ok ts
ended-complete (End place) e = refl
ended-complete (At place token rest) e = cc

-- a name

pub name_at-sound : Sound name_at name_tokens (λ n. n)
name_at-sound (End place) r e = cc
name_at-sound (At place token.Truth rest) r e = cc
name_at-sound (At place token.Falsity rest) r e = cc
name_at-sound (At place token.Open rest) r e = cc
name_at-sound (At place token.Close rest) r e = cc
name_at-sound (At place token.And rest) r e = cc
name_at-sound (At place token.Or rest) r e = cc
name_at-sound (At place token.Over rest) r e = cc
name_at-sound (At place (token.Principal n) rest) r e =
    let same : r ≡ record { value = n; rest = rest } = cc in
    (n, ap (λ (r : Read ℕ). r.value) same, ap (λ (r : Read ℕ). token.Principal n ∷ symbols r.rest) (sym same))
name_at-sound (At place token.Stranger rest) r e = cc
name_at-sound (At place token.Stray rest) r e = cc

name_at-complete : Complete name_at name_tokens (λ n. n) (λ rest. Unit {0})
name_at-complete n ts rest may e =
    let p = symbols-cons ts (token.Principal n) rest e in
    record { more = p.0; read = ap name_at p.1; behind = p.2 }

-- item { sign item }

module _ {A S : Type 0} (sign : Token) (item : Tokens → Reading A) (tokens : S → List Token) (value : S → A) where
  -- an item, and those behind signs after it
  abbrev pub list_tokens : S × List S → List Token
  list_tokens s = tokens s.0 ++ repetition sign tokens s.1

  abbrev pub list_value : S × List S → List A
  list_value s = value s.0 ∷ map value s.1

  -- what is read behind a sign
  abbrev pub item_and : (Tokens → Reading (List A)) → Tokens → Reading (List A)
  item_and others more = item more >>= λ x. others x.rest >>= λ xs. Ok (record { value = x.value ∷ xs.value; rest = xs.rest })

  repeated-more : (most : ℕ) (ts more : Tokens) → after sign ts ≡ Some more → repeated (suc most) sign item ts ≡ item_and (repeated most sign item) more
  unfolding repeated
  repeated-more most ts more e = ap (λ o. if_next o (item_and (repeated most sign item)) (Ok (record { value = []; rest = ts }))) e

  pub repeated-end : (most : ℕ) (ts : Tokens) → after sign ts ≡ None → repeated most sign item ts ≡ Ok (record { value = []; rest = ts })
  unfolding repeated
  repeated-end zero ts e = refl
  repeated-end (suc most) ts e = ap (λ o. if_next o (item_and (repeated most sign item)) (Ok (record { value = []; rest = ts }))) e

  module _ (sound : Sound item tokens value) where
    and-sound : (others : Tokens → Reading (List A)) → Sound others (repetition sign tokens) (map value) → (more : Tokens) (r : Read (List A)) → item_and others more ≡ Ok r
        → (s : S × List S) × (r.value ≡ list_value s) × (symbols more ≡ list_tokens s ++ symbols r.rest)
    and-sound others rest more r e =
        let p = bind-Ok (item more) (λ x. others x.rest >>= λ xs. Ok (record { value = x.value ∷ xs.value; rest = xs.rest })) r e in
        let x : Read A = p.0 in
        let q = bind-Ok (others x.rest) (λ xs. Ok (record { value = x.value ∷ xs.value; rest = xs.rest })) r p.2 in
        let xs : Read (List A) = q.0 in
        let same : r ≡ record { value = x.value ∷ xs.value; rest = xs.rest } = let last = q.2 in cc in
        let a = sound more x p.1 in
        let b = rest x.rest xs q.1 in (
          (a.0, b.0),
          ap (λ (r : Read (List A)). r.value) same ∙ ap (λ v. v ∷ xs.value) a.1 ∙ ap (λ vs. value a.0 ∷ vs) b.1,
          a.2 ∙ ap (λ ts. tokens a.0 ++ ts) b.2 ∙ sym (append_assoc (tokens a.0) (repetition sign tokens b.0) (symbols xs.rest))
              ∙ ap (λ (r : Read (List A)). list_tokens (a.0, b.0) ++ symbols r.rest) (sym same),
        )

    repeated-sound : (most : ℕ) → Sound (repeated most sign item) (repetition sign tokens) (map value)
    unfolding repeated
    repeated-sound zero ts r e =
        let same : r ≡ record { value = []; rest = ts } = cc in
        ([], ap (λ (r : Read (List A)). r.value) same, ap (λ (r : Read (List A)). symbols r.rest) (sym same))
    repeated-sound (suc most) ts r e = by (after sign ts) refl (repeated-sound most) e
      where
        by : (o : Option Tokens) → after sign ts ≡ o → Sound (repeated most sign item) (repetition sign tokens) (map value) → if_next o (item_and (repeated most sign item)) (Ok (record { value = []; rest = ts })) ≡ Ok r
            → (s : List S) × (r.value ≡ map value s) × (symbols ts ≡ repetition sign tokens s ++ symbols r.rest)
        by None f again e =
            let same : r ≡ record { value = []; rest = ts } = cc in
            ([], ap (λ (r : Read (List A)). r.value) same, ap (λ (r : Read (List A)). symbols r.rest) (sym same))
        by (Some more) f again e =
            let p = and-sound (repeated most sign item) again more r e in
            (p.0.0 ∷ p.0.1, p.1, after-symbols sign ts more f ∙ ap (λ ts. sign ∷ ts) p.2)

    pub listed-sound : Sound (listed sign item) list_tokens list_value
    listed-sound ts r e = and-sound (λ ts. repeated (count_of ts) sign item ts) (λ ts. repeated-sound (count_of ts) ts) ts r e

    -- an item makes the tokens fewer
    module _ (some : (s : S) → 0 < length (tokens s)) where
      pub item-fewer : (ts : Tokens) (r : Read A) → item ts ≡ Ok r → count_of r.rest < count_of ts
      item-fewer ts r e =
          let p = sound ts r e in
          let all = ap length p.2 in
          omega (arith, all, some p.0, length-append (tokens p.0) (symbols r.rest), count_of-symbols ts, count_of-symbols r.rest)

      abbrev behind : Read A → Read (List A) → Reading (List A)
      behind x xs = Ok (record { value = x.value ∷ xs.value; rest = xs.rest })

      same_and : (f g : Tokens → Reading (List A)) (more : Tokens) → ((x : Read A) → item more ≡ Ok x → f x.rest ≡ g x.rest) → item_and f more ≡ item_and g more
      same_and f g more same = by (item more) refl
        where
          by : (r : Reading A) → item more ≡ r → (r >>= λ x. f x.rest >>= behind x) ≡ (r >>= λ x. g x.rest >>= behind x)
          by (Ok x) e = ap (λ (r : Reading (List A)). r >>= behind x) (same x e)
          by (Err fault) e = refl

      none_left : (ts : Tokens) → count_of ts ≤ 0 → after sign ts ≡ None
      none_left (End place) h = refl
      none_left (At place token rest) h = absurd (omega arith)

      -- as often as there are tokens is often enough
      pub repeated-enough : (m n : ℕ) (ts : Tokens) → count_of ts ≤ m → count_of ts ≤ n → repeated m sign item ts ≡ repeated n sign item ts
      repeated-enough zero n ts h k = repeated-end zero ts (none_left ts h) ∙ sym (repeated-end n ts (none_left ts h))
      repeated-enough (suc m) zero ts h k = repeated-end (suc m) ts (none_left ts k) ∙ sym (repeated-end zero ts (none_left ts k))
      repeated-enough (suc m) (suc n) ts h k = by (after sign ts) refl (repeated-enough m n)
        where
          by : (o : Option Tokens) → after sign ts ≡ o → ((rest : Tokens) → count_of rest ≤ m → count_of rest ≤ n → repeated m sign item rest ≡ repeated n sign item rest) → repeated (suc m) sign item ts ≡ repeated (suc n) sign item ts
          by None e again = repeated-end (suc m) ts e ∙ sym (repeated-end (suc n) ts e)
          by (Some more) e again =
              let one = ap count_of (after-Some sign ts more e) in
              repeated-more m ts more e
              ∙ same_and (repeated m sign item) (repeated n sign item) more (λ x f. let less = item-fewer more x f in again x.rest (omega (arith, one, less)) (omega (arith, one, less)))
              ∙ sym (repeated-more n ts more e)

      -- what a loop reads behind a sign
      pub repeated-next : (ts more : Tokens) → after sign ts ≡ Some more → repeated (count_of ts) sign item ts ≡ listed sign item more
      repeated-next ts more e =
          ap (λ n. repeated n sign item ts) (ap count_of (after-Some sign ts more e))
          ∙ repeated-more (count_of more) ts more e
          ∙ same_and (repeated (count_of more) sign item) (λ ts. repeated (count_of ts) sign item ts) more
          (λ x f. let less = item-fewer more x f in repeated-enough (count_of more) (count_of x.rest) x.rest (omega arith) (omega arith))

  module _ (May : List Token → Type 0) (complete : Complete item tokens value May) (before_sign : (rest : List Token) → May (sign ∷ rest)) where
    repeated-complete : (most : ℕ) (ss : List S) (ts : Tokens) (rest : List Token) → length ss ≤ most → May rest → Differs sign rest → symbols ts ≡ repetition sign tokens ss ++ rest
        → Reads (repeated most sign item ts) (map value ss) rest
    repeated-complete most [] ts rest few may other e =
        record { more = ts; read = repeated-end most ts (after-other sign ts (λ more f. other more (sym e ∙ f))); behind = e }
    repeated-complete zero (s ∷ ss) ts rest few may other e = absurd (omega arith)
    repeated-complete (suc most) (s ∷ ss) ts rest few may other e =
        let p = symbols-cons ts sign ((tokens s ++ repetition sign tokens ss) ++ rest) e in
        let a = complete s p.0 (repetition sign tokens ss ++ rest) (may_follow ss) (p.2 ∙ append_assoc (tokens s) (repetition sign tokens ss) rest) in
        let b = repeated-complete most ss a.more rest (omega arith) may other a.behind in
        record {
          more = b.more;
          read =
              repeated-more most ts p.0 (ap (after sign) p.1 ∙ after-At sign (place_of ts) p.0)
              ∙ ap (λ r. r >>= λ x. repeated most sign item x.rest >>= λ xs. Ok (record { value = x.value ∷ xs.value; rest = xs.rest })) a.read
              ∙ ap (λ r. r >>= λ xs. Ok (record { value = value s ∷ xs.value; rest = xs.rest })) b.read;
          behind = b.behind;
        }
      where
        may_follow : (ss : List S) → May (repetition sign tokens ss ++ rest)
        may_follow [] = may
        may_follow (t ∷ ts) = before_sign ((tokens t ++ repetition sign tokens ts) ++ rest)

    pub listed-complete : Complete (listed sign item) list_tokens list_value (λ rest. May rest × Differs sign rest)
    listed-complete s ts rest may e =
        let a = complete s.0 ts (repetition sign tokens s.1 ++ rest) (may_follow s.1) (e ∙ append_assoc (tokens s.0) (repetition sign tokens s.1) rest) in
        let b = repeated-complete (count_of a.more) s.1 a.more rest (enough s.1 a.more a.behind) may.0 may.1 a.behind in
        record {
          more = b.more;
          read =
              ap (λ r. r >>= λ x. repeated (count_of x.rest) sign item x.rest >>= λ xs. Ok (record { value = x.value ∷ xs.value; rest = xs.rest })) a.read
              ∙ ap (λ r. r >>= λ xs. Ok (record { value = value s.0 ∷ xs.value; rest = xs.rest })) b.read;
          behind = b.behind;
        }
      where
        may_follow : (ss : List S) → May (repetition sign tokens ss ++ rest)
        may_follow [] = may.0
        may_follow (t ∷ ts) = before_sign ((tokens t ++ repetition sign tokens ts) ++ rest)

        long : (ss : List S) → length ss ≤ length (repetition sign tokens ss ++ rest)
        long [] = omega arith
        long (s ∷ ss) =
            omega (arith, long ss, length-append (sign ∷ (tokens s ++ repetition sign tokens ss)) rest, length-append (tokens s) (repetition sign tokens ss), length-append (repetition sign tokens ss) rest)

        enough : (ss : List S) (more : Tokens) → symbols more ≡ repetition sign tokens ss ++ rest → length ss ≤ count_of more
        enough ss more e = let same = ap length e in omega (arith, long ss, same, count_of-symbols more)

-- the names of a clause

abbrev pub names_tokens : ℕ × List ℕ → List Token
names_tokens = list_tokens token.Or name_at name_tokens (λ n. n)

map_same : (ns : List ℕ) → map (λ (n : ℕ). n) ns ≡ ns
map_same [] = refl
map_same (n ∷ ns) = ap (λ ns. n ∷ ns) (map_same ns)

names_at-sound : (ts : Tokens) (r : Read (List ℕ)) → names_at ts ≡ Ok r → (s : ℕ × List ℕ) × (r.value ≡ s.0 ∷ s.1) × (symbols ts ≡ (name_tokens s.0 ++ repetition token.Or name_tokens s.1 ++ token.Close ∷ []) ++ symbols r.rest)
names_at-sound ts r e =
    let p = bind-Ok (listed token.Or name_at ts) (λ ns. expected token.Close ns.rest >>= λ rest. Ok (record { value = ns.value; rest = rest })) r e in
    let ns : Read (List ℕ) = p.0 in
    let q = bind-Ok (expected token.Close ns.rest) (λ rest. Ok (record { value = ns.value; rest = rest })) r p.2 in
    let same : r ≡ record { value = ns.value; rest = q.0 } = let last = q.2 in cc in
    let a = listed-sound token.Or name_at name_tokens (λ n. n) name_at-sound ts ns p.1 in (
      a.0,
      ap (λ (r : Read (List ℕ)). r.value) same ∙ a.1 ∙ ap (λ ns. a.0.0 ∷ ns) (map_same a.0.1),
      a.2 ∙ ap (λ ts. names_tokens a.0 ++ ts) (expected-sound token.Close ns.rest q.0 q.1) ∙ sym (append_assoc (names_tokens a.0) (token.Close ∷ []) (symbols q.0))
          ∙ ap (λ (r : Read (List ℕ)). (names_tokens a.0 ++ token.Close ∷ []) ++ symbols r.rest) (sym same),
    )

names_at-complete : (n : ℕ) (ns : List ℕ) (ts : Tokens) (rest : List Token) → symbols ts ≡ (name_tokens n ++ repetition token.Or name_tokens ns ++ token.Close ∷ []) ++ rest → Reads (names_at ts) (n ∷ ns) rest
names_at-complete n ns ts rest e =
    let a = listed-complete token.Or name_at name_tokens (λ n. n) (λ rest. Unit {0}) name_at-complete (λ rest. tt) (n, ns) ts (token.Close ∷ rest) (tt, λ more f. cc) (e ∙ append_assoc (names_tokens (n, ns)) (token.Close ∷ []) rest) in
    let b = expected-complete token.Close a.more rest a.behind in
    record {
      more = b.0;
      read =
          ap (λ r. r >>= λ ns. expected token.Close ns.rest >>= λ rest. Ok (record { value = ns.value; rest = rest })) a.read
          ∙ ap (λ r. r >>= λ rest. Ok (record { value = n ∷ map (λ n. n) ns; rest = rest })) b.1
          ∙ ap (λ ns. Ok (record { value = n ∷ ns; rest = b.0 })) (map_same ns);
      behind = b.2;
    }

-- a clause

pub clause_at-sound : Sound clause_at clause_tokens clause_value
unfolding clause_at
clause_at-sound ts r e = by (after token.Open ts) refl e
  where
    by : (o : Option Tokens) → after token.Open ts ≡ o → if_next o names_at (one_at ts) ≡ Ok r → (c : ClauseTree) × (r.value ≡ clause_value c) × (symbols ts ≡ clause_tokens c ++ symbols r.rest)
    by None f e =
        let p = bind-Ok (name_at ts) (λ n. Ok (record { value = n.value ∷ []; rest = n.rest })) r e in
        let n : Read ℕ = p.0 in
        let same : r ≡ record { value = n.value ∷ []; rest = n.rest } = let last = p.2 in cc in
        let a = name_at-sound ts n p.1 in
        (Name a.0, ap (λ (r : Read (List ℕ)). r.value) same ∙ ap (λ n. n ∷ []) a.1, a.2 ∙ ap (λ (r : Read (List ℕ)). name_tokens a.0 ++ symbols r.rest) (sym same))
    by (Some inside) f e =
        let a = names_at-sound inside r e in
        (Names a.0.0 a.0.1, a.1, after-symbols token.Open ts inside f ∙ ap (λ ts. token.Open ∷ ts) a.2)

pub clause_tokens-some : (c : ClauseTree) → 0 < length (clause_tokens c)
clause_tokens-some (Name n) = omega arith
clause_tokens-some (Names n ns) = omega arith

pub name_tokens-some : (n : ℕ) → 0 < length (name_tokens n)
name_tokens-some n = omega arith

clause_at-complete : Complete clause_at clause_tokens clause_value (λ rest. Unit {0})
unfolding clause_at
clause_at-complete (Name n) ts rest may e =
    let p = symbols-cons ts (token.Principal n) rest e in
    record { more = p.0; read = ap clause_at p.1; behind = p.2 }
clause_at-complete (Names n ns) ts rest may e =
    let p = symbols-cons ts token.Open ((name_tokens n ++ repetition token.Or name_tokens ns ++ token.Close ∷ []) ++ rest) e in
    let a = names_at-complete n ns p.0 rest p.2 in
    record { more = a.more; read = ap clause_at p.1 ∙ a.read; behind = a.behind }

-- a formula

conjunction-tree : ClauseTree × List ClauseTree → FormulaTree
conjunction-tree s = Clauses s.0 s.1

pub formula_at-sound : Sound formula_at formula_tokens formula_value
unfolding formula_at
formula_at-sound ts r e = by (after token.Truth ts) (after token.Falsity ts) refl refl e
  where
    by : (t f : Option Tokens) → after token.Truth ts ≡ t → after token.Falsity ts ≡ f
        → if_next t (λ rest. Ok (record { value = []; rest = rest })) (if_next f (λ rest. Ok (record { value = [] ∷ []; rest = rest })) (listed token.And clause_at ts)) ≡ Ok r
        → (c : FormulaTree) × (r.value ≡ formula_value c) × (symbols ts ≡ formula_tokens c ++ symbols r.rest)
    by (Some rest) f g h e =
        let same : r ≡ record { value = []; rest = rest } = cc in
        (Truth, ap (λ (r : Read (List (List ℕ))). r.value) same, after-symbols token.Truth ts rest g ∙ ap (λ (r : Read (List (List ℕ))). token.Truth ∷ symbols r.rest) (sym same))
    by None (Some rest) g h e =
        let same : r ≡ record { value = [] ∷ []; rest = rest } = cc in
        (Falsity, ap (λ (r : Read (List (List ℕ))). r.value) same, after-symbols token.Falsity ts rest h ∙ ap (λ (r : Read (List (List ℕ))). token.Falsity ∷ symbols r.rest) (sym same))
    by None None g h e =
        let a = listed-sound token.And clause_at clause_tokens clause_value clause_at-sound ts r e in
        (Clauses a.0.0 a.0.1, a.1, a.2)

formula_at-complete : Complete formula_at formula_tokens formula_value (Differs token.And)
unfolding formula_at
formula_at-complete Truth ts rest may e =
    let p = symbols-cons ts token.Truth rest e in
    record { more = p.0; read = ap formula_at p.1; behind = p.2 }
formula_at-complete Falsity ts rest may e =
    let p = symbols-cons ts token.Falsity rest e in
    record { more = p.0; read = ap formula_at p.1; behind = p.2 }
formula_at-complete (Clauses c cs) ts rest may e =
    let a = listed-complete token.And clause_at clause_tokens clause_value (λ rest. Unit {0}) clause_at-complete (λ rest. tt) (c, cs) ts rest (tt, may) e in
    let t = after-other token.Truth ts (λ more f. begins_other c cs rest more e f) in
    let f = after-other token.Falsity ts (λ more f. begins_other_2 c cs rest more e f) in
    record {
      more = a.more;
      read =
          ap (λ o. if_next o (λ rest. Ok (record { value = []; rest = rest })) (if_next (after token.Falsity ts) (λ rest. Ok (record { value = [] ∷ []; rest = rest })) (listed token.And clause_at ts))) t
          ∙ ap (λ o. if_next o (λ rest. Ok (record { value = [] ∷ []; rest = rest })) (listed token.And clause_at ts)) f ∙ a.read;
      behind = a.behind;
    }
  where
    begins_other : (c : ClauseTree) (cs : List ClauseTree) (rest more : List Token) → symbols ts ≡ formula_tokens (Clauses c cs) ++ rest → symbols ts ≡ token.Truth ∷ more → ⊥
    begins_other (Name n) cs rest more e f = cc
    begins_other (Names n ns) cs rest more e f = cc

    begins_other_2 : (c : ClauseTree) (cs : List ClauseTree) (rest more : List Token) → symbols ts ≡ formula_tokens (Clauses c cs) ++ rest → symbols ts ≡ token.Falsity ∷ more → ⊥
    begins_other_2 (Name n) cs rest more e f = cc
    begins_other_2 (Names n ns) cs rest more e f = cc

-- two formulas

pub two_at-sound : (ts : Tokens) (r : Read (List (List ℕ) × List (List ℕ))) → two_at ts ≡ Ok r
    → (f : FormulaTree) × (g : FormulaTree) × (r.value ≡ (formula_value f, formula_value g)) × (symbols ts ≡ (formula_tokens f ++ token.Over ∷ formula_tokens g) ++ symbols r.rest)
unfolding two_at
two_at-sound ts r e =
    let p = bind-Ok (formula_at ts) (λ first. expected token.Over first.rest >>= λ over. formula_at over >>= λ second. Ok (record { value = (first.value, second.value); rest = second.rest })) r e in
    let q = bind-Ok (expected token.Over p.0.rest) (λ over. formula_at over >>= λ second. Ok (record { value = (p.0.value, second.value); rest = second.rest })) r p.2 in
    let u = bind-Ok (formula_at q.0) (λ second. Ok (record { value = (p.0.value, second.value); rest = second.rest })) r q.2 in
    let same : r ≡ record { value = (p.0.value, u.0.value); rest = u.0.rest } = let last = u.2 in cc in
    let a = formula_at-sound ts p.0 p.1 in
    let b = formula_at-sound q.0 u.0 u.1 in (
      a.0,
      b.0,
      ap (λ (r : Read (List (List ℕ) × List (List ℕ))). r.value) same ∙ ap (λ A. (A, u.0.value)) a.1 ∙ ap (λ B. (formula_value a.0, B)) b.1,
      a.2 ∙ ap (λ ts. formula_tokens a.0 ++ ts) (expected-sound token.Over p.0.rest q.0 q.1 ∙ ap (λ ts. token.Over ∷ ts) b.2)
          ∙ sym (append_assoc (formula_tokens a.0) (token.Over ∷ formula_tokens b.0) (symbols u.0.rest))
          ∙ ap (λ (r : Read (List (List ℕ) × List (List ℕ))). (formula_tokens a.0 ++ token.Over ∷ formula_tokens b.0) ++ symbols r.rest) (sym same),
    )

two_at-complete : (f g : FormulaTree) (ts : Tokens) → symbols ts ≡ formula_tokens f ++ token.Over ∷ formula_tokens g → Reads (two_at ts) (formula_value f, formula_value g) []
unfolding two_at
two_at-complete f g ts e =
    let a = formula_at-complete f ts (token.Over ∷ formula_tokens g) (λ more h. cc) e in
    let b = expected-complete token.Over a.more (formula_tokens g) a.behind in
    let c = formula_at-complete g b.0 [] (λ more h. cc) (b.2 ∙ sym (append-nil (formula_tokens g))) in
    record {
      more = c.more;
      read =
          ap (λ r. r >>= λ first. expected token.Over first.rest >>= λ over. formula_at over >>= λ second. Ok (record { value = (first.value, second.value); rest = second.rest })) a.read
          ∙ ap (λ r. r >>= λ over. formula_at over >>= λ second. Ok (record { value = (formula_value f, second.value); rest = second.rest })) b.1
          ∙ ap (λ r. r >>= λ second. Ok (record { value = (formula_value f, second.value); rest = second.rest })) c.read;
      behind = c.behind;
    }

-- a whole text

whole-sound : {A : Type 0} (r : Reading A) (value : A) → (r >>= whole) ≡ Ok value → (x : Read A) × (r ≡ Ok x) × (value ≡ x.value) × (symbols x.rest ≡ [])
whole-sound r value e =
    let p = bind-Ok r whole value e in
    let q = bind-Ok (ended p.0.rest) (λ end. Ok p.0.value) value p.2 in
    let same = q.2 in
    (p.0, p.1, cc, ended-sound p.0.rest q.0 q.1)

whole-complete : {A : Type 0} (r : Reading A) (value : A) → Reads r value [] → (r >>= whole) ≡ Ok value
whole-complete r value h = ap (λ r. r >>= whole) h.read ∙ ap (λ r. r >>= λ end. Ok value) (ended-complete h.more h.behind)

pub read_is_derived : ReadIsDerived
unfolding written
read_is_derived names text A e =
    let w = whole-sound (formula_at (tokens_of names text)) A e in
    let a = formula_at-sound (tokens_of names text) w.0 w.1 in
    record { formula = a.0; written = a.2 ∙ ap (λ ts. formula_tokens a.0 ++ ts) w.3 ∙ append-nil (formula_tokens a.0); means = w.2 ∙ a.1 }

pub derived_is_read : DerivedIsRead
unfolding written
derived_is_read names text A d =
    let a = formula_at-complete d.formula (tokens_of names text) [] (λ more h. cc) (d.written ∙ sym (append-nil (formula_tokens d.formula))) in
    whole-complete (formula_at (tokens_of names text)) (formula_value d.formula) a ∙ ap Ok (sym d.means)

pub read_two_are_derived : ReadTwoAreDerived
unfolding written_two
read_two_are_derived names text both e =
    let w = whole-sound (two_at (tokens_of names text)) both e in
    let a = two_at-sound (tokens_of names text) w.0 w.1 in
    record {
      first = a.0;
      second = a.1;
      written = a.3 ∙ ap (λ ts. (formula_tokens a.0 ++ token.Over ∷ formula_tokens a.1) ++ ts) w.3 ∙ append-nil (formula_tokens a.0 ++ token.Over ∷ formula_tokens a.1);
      means = w.2 ∙ a.2;
    }

pub derived_two_are_read : DerivedTwoAreRead
unfolding written_two
derived_two_are_read names text both d =
    whole-complete (two_at (tokens_of names text)) (formula_value d.first, formula_value d.second) (two_at-complete d.first d.second (tokens_of names text) d.written) ∙ ap Ok (sym d.means)
