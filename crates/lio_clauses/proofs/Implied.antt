-- Satisfaction sees only the principals that a formula names; implication is by contained clauses; the test of
-- implication and implication over all sets agree.
use Rattle.std.proofs.Common.{◌≡◌, ℕ, ◌<◌, ◌≤◌, Bool, true, false, cond, not, ◌&&◌, ◌||◌, ◌⊎◌, inl, inr, List, [], ◌∷◌, ◌++◌, refl, sym, ◌∙◌, subst, arith}
use Rattle.std.specs.Prelude.{nat_lt, ◌==◌}
use Rattle.std.specs.List.{list_all, list_any, filter, fold}
use Rattle.std.proofs.lemmas.Bool.{both_ways, and_parts, and_from, or_cases, or_left, or_right, not-true, not_from_false, cases_Bool, cases_order, ltb-true, lt-ltb, eqb-true, eqb-false, ltb-false}
use Rattle.lio_clauses.specs.Satisfaction.{sat, set_of}
use Rattle.lio_clauses.specs.Implication.{Implies, ImplyTogether, implies, named, with_number, sublists}
use Rattle.lio_clauses.specs.Canonical.{in_order}
use Rattle.lio_clauses.proofs.Members.{In, In-append_left, In-append_right, In-append_cases, In-filter, In-filter_parts, all_at, all_by, all_fails, any_by, any_some, any_none, same_tests}
use Rattle.lio_clauses.proofs.Orders.{in_order-head, in_order-tail, in_order-cons}
use Rattle.lio_clauses.proofs.Subsets.{set_of-In, In-set_of, within, within-at}
use Rattle.lio_clauses.proofs.Sublists.{sublists-filter}

-- the principals that a formula names

-- one more number is a member, and nothing else is new
pub with_number-cases : (k : ℕ) (ms : List ℕ) (n : ℕ) → In k (with_number ms n) → (k ≡ n) ⊎ In k ms
with_number-cases k [] n (inl e) = inl e
with_number-cases k [] n (inr h) = absurd h
with_number-cases k (m ∷ ms) n h =
    let Here : Bool → Bool → Type 0 = λ a b. In k (cond a (n ∷ m ∷ ms) (cond b (m ∷ ms) (m ∷ with_number ms n))) in
    let step : (a b : Bool) → Here a b → (k ≡ n) ⊎ In k (m ∷ ms) = λ a b. elim a as (λ v. Here v b → (k ≡ n) ⊎ In k (m ∷ ms)) [
      | true ↦ λ q. q
      | false ↦ elim b as (λ w. Here false w → (k ≡ n) ⊎ In k (m ∷ ms)) [
        | true ↦ λ q. inr q
        | false ↦ λ q. elim q [
          | inl e ↦ inr (inl e)
          | inr r ↦ elim (with_number-cases k ms n r) [ inl e ↦ inl e | inr z ↦ inr (inr z) ]
        ]
      ]
    ]
    in
    step (nat_lt n m) (n == m) h

pub with_number-new : (ms : List ℕ) (n : ℕ) → In n (with_number ms n)
with_number-new [] n = inl refl
with_number-new (m ∷ ms) n =
    elim (nat_lt n m) as (λ a. In n (cond a (n ∷ m ∷ ms) (cond (n == m) (m ∷ ms) (m ∷ with_number ms n)))) [
      | true ↦ inl refl
      | false ↦
          elim (cases_Bool (n == m)) [
            | inl t ↦ let P : Bool → Type 0 = λ b. In n (cond b (m ∷ ms) (m ∷ with_number ms n)) in subst P (sym t) (inl (eqb-true n m t))
            | inr f ↦ let P : Bool → Type 0 = λ b. In n (cond b (m ∷ ms) (m ∷ with_number ms n)) in subst P (sym f) (inr (with_number-new ms n))
          ]
    ]

pub with_number-old : (k : ℕ) (ms : List ℕ) (n : ℕ) → In k ms → In k (with_number ms n)
with_number-old k [] n h = absurd h
with_number-old k (m ∷ ms) n h =
    elim (nat_lt n m) as (λ a. In k (cond a (n ∷ m ∷ ms) (cond (n == m) (m ∷ ms) (m ∷ with_number ms n)))) [
      | true ↦ inr h
      | false ↦
          elim (n == m) as (λ b. In k (cond b (m ∷ ms) (m ∷ with_number ms n))) [
            | true ↦ h
            | false ↦ elim h [ inl e ↦ inl e | inr q ↦ inr (with_number-old k ms n q) ]
          ]
    ]

pub with_number-rising : (ms : List ℕ) (n : ℕ) → in_order nat_lt ms ≡ true → in_order nat_lt (with_number ms n) ≡ true
with_number-rising [] n h = refl
with_number-rising (m ∷ ms) n h =
    elim (cases_Bool (nat_lt n m)) [
      | inl t ↦
          let P : Bool → Type 0 = λ a. in_order nat_lt (cond a (n ∷ m ∷ ms) (cond (n == m) (m ∷ ms) (m ∷ with_number ms n))) ≡ true in
          let less : n < m = ltb-true n m t in
          subst P (sym t)
          (in_order-cons nat_lt n (m ∷ ms)
          (λ y q. elim q [
            | inl e ↦ lt-ltb n y (omega arith)
            | inr r ↦ let more : m < y = ltb-true m y (in_order-head nat_lt m ms h y r) in lt-ltb n y (omega arith)
          ])
          h)
      | inr f ↦
          let P : Bool → Type 0 = λ a. in_order nat_lt (cond a (n ∷ m ∷ ms) (cond (n == m) (m ∷ ms) (m ∷ with_number ms n))) ≡ true in
          subst P (sym f)
          (elim (cases_Bool (n == m)) [
            | inl t ↦ let Q : Bool → Type 0 = λ b. in_order nat_lt (cond b (m ∷ ms) (m ∷ with_number ms n)) ≡ true in subst Q (sym t) h
            | inr g ↦
                let Q : Bool → Type 0 = λ b. in_order nat_lt (cond b (m ∷ ms) (m ∷ with_number ms n)) ≡ true in
                subst Q (sym g)
                (in_order-cons nat_lt m (with_number ms n)
                (λ y q. elim (with_number-cases y ms n q) [
                  | inl e ↦
                      let above : m ≤ n = ltb-false n m f in
                      let other : n ≡ m → ⊥ = eqb-false n m g in
                      lt-ltb m y (strict m n y above other e)
                  | inr r ↦ in_order-head nat_lt m ms h y r
                ])
                (with_number-rising ms n (in_order-tail nat_lt m ms h)))
          ])
    ]
  where
    strict : (m n y : ℕ) → m ≤ n → (n ≡ m → ⊥) → y ≡ n → m < y
    strict m n y a o e = elim (cases_order m n) [ inl q ↦ absurd (o (sym q)) | inr r ↦ elim r [ inl l ↦ omega arith | inr l ↦ absurd (omega arith) ] ]

fold-cases : (k : ℕ) (ms c : List ℕ) → In k (fold with_number ms c) → In k ms ⊎ In k c
fold-cases k ms [] h = inl h
fold-cases k ms (x ∷ c) h =
    elim (fold-cases k (with_number ms x) c h) [
      | inl a ↦ elim (with_number-cases k ms x a) [ inl e ↦ inr (inl e) | inr q ↦ inl q ]
      | inr b ↦ inr (inr b)
    ]

fold-old : (k : ℕ) (ms c : List ℕ) → In k ms → In k (fold with_number ms c)
fold-old k ms [] h = h
fold-old k ms (x ∷ c) h = fold-old k (with_number ms x) c (with_number-old k ms x h)

fold-new : (k : ℕ) (ms c : List ℕ) → In k c → In k (fold with_number ms c)
fold-new k ms [] h = absurd h
fold-new k ms (x ∷ c) (inl e) =
    let P : ℕ → Type 0 = λ v. In v (fold with_number ms (x ∷ c)) in
    subst P (sym e) (fold-old x (with_number ms x) c (with_number-new ms x))
fold-new k ms (x ∷ c) (inr h) = fold-new k (with_number ms x) c h

fold-rising : (ms c : List ℕ) → in_order nat_lt ms ≡ true → in_order nat_lt (fold with_number ms c) ≡ true
fold-rising ms [] h = h
fold-rising ms (x ∷ c) h = fold-rising (with_number ms x) c (with_number-rising ms x h)

pub named-rising : (A : List (List ℕ)) → in_order nat_lt (named A) ≡ true
named-rising [] = refl
named-rising (c ∷ A) = fold-rising (named A) c (named-rising A)

pub named-In : (A : List (List ℕ)) (c : List ℕ) (n : ℕ) → In c A → In n c → In n (named A)
named-In [] c n h m = absurd h
named-In (d ∷ A) c n (inl e) m = let P : List ℕ → Type 0 = λ v. In n v in fold-new n (named A) d (subst P e m)
named-In (d ∷ A) c n (inr h) m = fold-old n (named A) d (named-In A c n h m)

pub named-parts : (A : List (List ℕ)) (n : ℕ) → In n (named A) → (c : List ℕ) × (In c A × In n c)
named-parts [] n h = absurd h
named-parts (d ∷ A) n h =
    elim (fold-cases n (named A) d h) [
      | inl a ↦ let r = named-parts A n a in (r.0, (inr r.1.0, r.1.1))
      | inr b ↦ (d, (inl refl, b))
    ]

pub named-append_left : (A B : List (List ℕ)) (n : ℕ) → In n (named A) → In n (named (A ++ B))
named-append_left A B n h = let r = named-parts A n h in named-In (A ++ B) r.0 n (In-append_left r.0 A B r.1.0) r.1.1

pub named-append_right : (A B : List (List ℕ)) (n : ℕ) → In n (named B) → In n (named (A ++ B))
named-append_right A B n h = let r = named-parts B n h in named-In (A ++ B) r.0 n (In-append_right r.0 A B r.1.0) r.1.1

-- satisfaction

-- a set with more of the principals that a formula names satisfies it still
pub sat-grows : (A : List (List ℕ)) (P Q : ℕ → Bool) → ((n : ℕ) → In n (named A) → P n ≡ true → Q n ≡ true) → sat P A ≡ true → sat Q A ≡ true
sat-grows A P Q f h =
    all_by (λ c. list_any Q c) A (λ c m.
    let r = any_some P c (all_at (λ d. list_any P d) A h c m) in
    any_by Q c r.0 r.1.0 (f r.0 (named-In A c r.0 m r.1.0) r.1.1))

pub sat-one : (P : ℕ → Bool) (c : List ℕ) → list_any P c ≡ true → sat P (c ∷ []) ≡ true
sat-one P c h = and_from (list_any P c) true h refl

pub sat-one_parts : (P : ℕ → Bool) (c : List ℕ) → sat P (c ∷ []) ≡ true → list_any P c ≡ true
sat-one_parts P c h = (and_parts (list_any P c) true h).0

pub sat-append : (P : ℕ → Bool) (A B : List (List ℕ)) → sat P (A ++ B) ≡ (sat P A && sat P B)
sat-append P A B =
    same_tests (sat P (A ++ B)) (sat P A && sat P B)
    (λ h. and_from (sat P A) (sat P B)
    (all_by (λ c. list_any P c) A (λ c m. all_at (λ d. list_any P d) (A ++ B) h c (In-append_left c A B m)))
    (all_by (λ c. list_any P c) B (λ c m. all_at (λ d. list_any P d) (A ++ B) h c (In-append_right c A B m))))
    (λ h. let r = and_parts (sat P A) (sat P B) h in
    all_by (λ c. list_any P c) (A ++ B) (λ c m.
    elim (In-append_cases c A B m) [
      | inl a ↦ all_at (λ d. list_any P d) A r.0 c a
      | inr b ↦ all_at (λ d. list_any P d) B r.1 c b
    ]))

-- implication

-- a formula implies a clause exactly where it has a clause that is contained in it: for the sets, the clause's complement
pub Implies-clause : (A : List (List ℕ)) (d : List ℕ) → Implies A (d ∷ []) → (c : List ℕ) × (In c A × (within c d ≡ true))
Implies-clause A d h =
    elim (cases_Bool (list_any (λ c. within c d) A)) [
      | inl t ↦ any_some (λ c. within c d) A t
      | inr f ↦
          let outside : ℕ → Bool = λ n. not (set_of d n) in
          let holds : sat outside A ≡ true =
          all_by (λ c. list_any outside c) A (λ c m.
          let r = all_fails (set_of d) c (any_none (λ e. within e d) A f c m) in
          any_by outside c r.0 r.1.0 (not_from_false (set_of d r.0) r.1.1))
          in
          let q = any_some outside d (sat-one_parts outside d (h outside holds)) in
          absurd (both_ways (set_of d q.0) (not-true (set_of d q.0) q.1.1) (set_of-In q.0 d q.1.0))
    ]

pub clause-Implies : (A : List (List ℕ)) (c d : List ℕ) → In c A → within c d ≡ true → Implies A (d ∷ [])
clause-Implies A c d m h P s =
    let r = any_some P c (all_at (λ e. list_any P e) A s c m) in
    sat-one P d (any_by P d r.0 (within-at c d h r.0 r.1.0) r.1.1)

pub Implies-at : (A B : List (List ℕ)) → Implies A B → (d : List ℕ) → In d B → Implies A (d ∷ [])
Implies-at A B h d m P s = sat-one P d (all_at (λ e. list_any P e) B (h P s) d m)

pub Implies-by : (A B : List (List ℕ)) → ((d : List ℕ) → In d B → Implies A (d ∷ [])) → Implies A B
Implies-by A B h P s = all_by (λ e. list_any P e) B (λ d m. sat-one_parts P d (h d m P s))

-- whether each clause of B contains one of A
abbrev pub contains_clauses : List (List ℕ) → List (List ℕ) → Bool
contains_clauses A B = list_all (λ d. list_any (λ c. within c d) A) B

pub Implies-contains : (A B : List (List ℕ)) → Implies A B → contains_clauses A B ≡ true
Implies-contains A B h =
    all_by (λ d. list_any (λ c. within c d) A) B (λ d m.
    let r = Implies-clause A d (Implies-at A B h d m) in any_by (λ c. within c d) A r.0 r.1.0 r.1.1)

pub contains-Implies : (A B : List (List ℕ)) → contains_clauses A B ≡ true → Implies A B
contains-Implies A B h =
    Implies-by A B (λ d m.
    let r = any_some (λ c. within c d) A (all_at (λ e. list_any (λ c. within c e) A) B h d m) in
    clause-Implies A r.0 d r.1.0 r.1.1)

-- the test and the fact

pub implies-Implies : (A B : List (List ℕ)) → implies A B ≡ true → Implies A B
unfolding implies
implies-Implies A B h P s =
    let names : List ℕ = named (A ++ B) in
    let q : List ℕ = filter P names in
    let there : sat (set_of q) A ≡ true = sat-grows A P (set_of q) (λ n m t. set_of-In n q (In-filter P n names (named-append_left A B n m) t)) s in
    let test : (not (sat (set_of q) A) || sat (set_of q) B) ≡ true = all_at (λ e. not (sat (set_of e) A) || sat (set_of e) B) (sublists names) h q (sublists-filter P names) in
    elim (or_cases (not (sat (set_of q) A)) (sat (set_of q) B) test) [
      | inl t ↦ absurd (both_ways (sat (set_of q) A) (not-true (sat (set_of q) A) t) there)
      | inr t ↦ sat-grows B (set_of q) P (λ n m u. (In-filter_parts P n names (In-set_of n q u)).1) t
    ]

pub Implies-implies : (A B : List (List ℕ)) → Implies A B → implies A B ≡ true
unfolding implies
Implies-implies A B h =
    all_by (λ e. not (sat (set_of e) A) || sat (set_of e) B) (sublists (named (A ++ B))) (λ e m.
    elim (cases_Bool (sat (set_of e) A)) [
      | inl t ↦ or_right (not (sat (set_of e) A)) (sat (set_of e) B) (h (set_of e) t)
      | inr f ↦ or_left (not (sat (set_of e) A)) (sat (set_of e) B) (not_from_false (sat (set_of e) A) f)
    ])

-- two formulas together imply what the list of the clauses of both implies
pub together-Implies : (A B C : List (List ℕ)) → ImplyTogether A B C → Implies (A ++ B) C
together-Implies A B C h who s = let r = and_parts (sat who A) (sat who B) (sym (sat-append who A B) ∙ s) in h who r.0 r.1

pub Implies-together : (A B C : List (List ℕ)) → Implies (A ++ B) C → ImplyTogether A B C
Implies-together A B C h who a b = h who (sat-append who A B ∙ and_from (sat who A) (sat who B) a b)

pub implies-contains : (A B : List (List ℕ)) → implies A B ≡ contains_clauses A B
implies-contains A B =
    same_tests (implies A B) (contains_clauses A B)
    (λ h. Implies-contains A B (implies-Implies A B h))
    (λ h. Implies-implies A B (contains-Implies A B h))
