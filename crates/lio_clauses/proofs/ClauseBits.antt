-- Clauses as 64 bits: their principals, which of two is contained in the other, and which stands first.
use Rattle.std.proofs.Common.{◌≡◌, ℕ, suc, zero, ◌+◌, ◌*◌, ◌/◌, ◌%◌, ◌^◌, ◌<◌, ◌≤◌, min, max, Bool, true, false, not, ◌&&◌, ◌||◌, ◌⊎◌, inl, inr, List, [], ◌∷◌, ◌++◌, map, refl, sym, ◌∙◌, ap, subst, arith}
use Rattle.std.specs.Prelude.{nat_lt, ◌==◌, bit_and, bit_or, bit_xor}
use Rattle.std.specs.Int.{bit_at, w64, trailing_zeros}
use Rattle.std.specs.List.{list_all, list_any}
use Rattle.std.proofs.lemmas.Bool.{both_ways, and_from, or_cases, or_left, or_right, cases_Bool, eqb-true, eq-eqb, ne_eqb, lt-ltb, ltb-true, false_from_ne_true, cases_order, cases_eq, not_from_false, not-true}
use Rattle.std.proofs.lemmas.List.{map-append}
use Rattle.std.proofs.lemmas.List.Folds.{list_any-append}
use Rattle.std.proofs.Math.Pow.{pow-lt}
use Rattle.std.proofs.lemmas.Nat.{and_comm, and_le_r, or_lt, xor_lt}
use Rattle.std.proofs.lemmas.Nat.Bits.{bit_at_and, bit_at_or, bit_at_xor, bit_at-zero, bit_at-pow_same, bit_at-pow_other, same_from_bits_below, bit_at-trailing_zeros, shr_and_one}
use Rattle.lio_clauses.specs.Principals.{numbers_below, principals}
use Rattle.lio_clauses.specs.Satisfaction.{sat, set_of}
use Rattle.lio_clauses.specs.Canonical.{in_order, is_before, is_clause}
use Rattle.lio_clauses.specs.Bits.{IsFormula, unions, covers}
use Rattle.lio_clauses.proofs.Members.{In, In-append_left, In-append_right, In-append_cases, In-filter, In-filter_parts, In-map, In-map_cases, all_at, all_by, all_fails, any_by, any_some, any_none, same_tests, list_all-map, list_any-map, map-injective, In-All}
use Rattle.lio_clauses.proofs.Orders.{in_order-filter, in_order-append, in_order-head, in_order-tail, is_before-less, is_before-same, is_before-asym}
use Rattle.lio_clauses.proofs.Subsets.{set_of-In, In-set_of, within, within-at, within-by, same_rising}
use Rattle.lio_clauses.proofs.Minimal.{clause-from}
use Rattle.lio_clauses.specs.Implication.{implies}
use Rattle.lio_clauses.proofs.Implied.{implies-contains}
use Rattle.lio_clauses.proofs.Forms.{all_clauses, IsCanonical-none, IsCanonical-one}

numbers_below-small : (k n : ℕ) → In n (numbers_below k) → n < k
unfolding numbers_below
numbers_below-small zero n h = absurd h
numbers_below-small (suc k) n h =
    elim (In-append_cases n (numbers_below k) (k ∷ []) h) [
      | inl a ↦ let l : n < k = numbers_below-small k n a in omega arith
      | inr b ↦ elim b [ inl e ↦ omega arith | inr z ↦ absurd z ]
    ]

numbers_below-all : (k n : ℕ) → n < k → In n (numbers_below k)
unfolding numbers_below
numbers_below-all zero n h = absurd (omega arith)
numbers_below-all (suc k) n h =
    elim (cases_order n k) [
      | inl e ↦ In-append_right n (numbers_below k) (k ∷ []) (inl e)
      | inr r ↦ elim r [
        | inl l ↦ In-append_left n (numbers_below k) (k ∷ []) (numbers_below-all k n l)
        | inr l ↦ absurd (omega arith)
      ]
    ]

numbers_below-rising : (k : ℕ) → in_order nat_lt (numbers_below k) ≡ true
unfolding numbers_below
numbers_below-rising zero = refl
numbers_below-rising (suc k) =
    in_order-append nat_lt (numbers_below k) (k ∷ []) (numbers_below-rising k) refl
    (λ x y m n. elim n [ inl e ↦ let l : x < k = numbers_below-small k x m in lt-ltb x y (omega arith) | inr z ↦ absurd z ])

-- principal n is in a clause exactly where n is below 64 and bit n is set

pub principals-parts : (m n : ℕ) → In n (principals m) → (n < 64) × (bit_at m n ≡ 1)
unfolding principals
principals-parts m n h =
    let r = In-filter_parts (λ k. bit_at m k == 1) n (numbers_below 64) h in
    (numbers_below-small 64 n r.0, eqb-true (bit_at m n) 1 r.1)

pub principals-In : (m n : ℕ) → n < 64 → bit_at m n ≡ 1 → In n (principals m)
unfolding principals
principals-In m n l b = In-filter (λ k. bit_at m k == 1) n (numbers_below 64) (numbers_below-all 64 n l) (eq-eqb (bit_at m n) 1 b)

pub principals-rising : (m : ℕ) → in_order nat_lt (principals m) ≡ true
unfolding principals
principals-rising m = in_order-filter nat_lt (λ k. bit_at m k == 1) (numbers_below 64) (numbers_below-rising 64)

pub principals-clause : (m : ℕ) → is_clause (principals m) ≡ true
principals-clause m = clause-from (principals m) (λ n q. lt-ltb n 64 (principals-parts m n q).0) (principals-rising m)

pub principals-clauses : (ms : List ℕ) → all_clauses (map principals ms) ≡ true
principals-clauses [] = refl
principals-clauses (m ∷ ms) = and_from (is_clause (principals m)) (all_clauses (map principals ms)) (principals-clause m) (principals-clauses ms)

-- a bit is 0 or 1
bit_below : (m n : ℕ) → bit_at m n < 2
bit_below m n = omega arith

-- a clause of 64 bits is contained in another exactly where their common bits are its own

pub within-from_and : (a b : ℕ) → bit_and a b ≡ a → within (principals a) (principals b) ≡ true
within-from_and a b e =
    within-by (principals a) (principals b) (λ n m.
    let r = principals-parts a n m in
    let same : bit_at a n ≡ min (bit_at a n) (bit_at b n) = ap (λ v. bit_at v n) (sym e) ∙ bit_at_and a b n in
    principals-In b n r.0 (one (bit_at a n) (bit_at b n) same r.1 (bit_below b n)))
  where
    one : (x y : ℕ) → x ≡ min x y → x ≡ 1 → y < 2 → y ≡ 1
    one x y e f l = omega arith

pub and-from_within : (a b : ℕ) → a < 2 ^ 64 → b < 2 ^ 64 → within (principals a) (principals b) ≡ true → bit_and a b ≡ a
and-from_within a b la lb h =
    same_from_bits_below 64 (bit_and a b) a (and_below a b la) la (λ i l.
    bit_at_and a b i ∙ least (bit_at a i) (bit_at b i) (bit_below a i) (λ e. (principals-parts b i (within-at (principals a) (principals b) h i (principals-In a i l e))).1))
  where
    and_below : (a b : ℕ) → a < 2 ^ 64 → bit_and a b < 2 ^ 64
    and_below a b l = let k : bit_and b a ≤ a = and_le_r b a in rw (and_comm a b) (omega arith)

    least : (x y : ℕ) → x < 2 → (x ≡ 1 → y ≡ 1) → min x y ≡ x
    least x y l f = elim (cases_eq x 1) [ inl e ↦ let g : y ≡ 1 = f e in omega arith | inr n ↦ let z : x ≡ 0 = omega arith in omega arith ]

pub within-and : (a b : ℕ) → a < 2 ^ 64 → b < 2 ^ 64 → (bit_and a b == a) ≡ within (principals a) (principals b)
within-and a b la lb =
    same_tests (bit_and a b == a) (within (principals a) (principals b))
    (λ t. within-from_and a b (eqb-true (bit_and a b) a t))
    (λ t. eq-eqb (bit_and a b) a (and-from_within a b la lb t))

-- a clause of 64 bits is what its principals say
pub principals-same : (a b : ℕ) → a < 2 ^ 64 → b < 2 ^ 64 → principals a ≡ principals b → a ≡ b
principals-same a b la lb e =
    let P : List ℕ → Type 0 = λ v. within (principals a) v ≡ true in
    let Q : List ℕ → Type 0 = λ v. within v (principals a) ≡ true in
    let itself : within (principals a) (principals a) ≡ true = within-by (principals a) (principals a) (λ n m. m) in
    sym (and-from_within a b la lb (subst P e itself)) ∙ and_comm a b ∙ and-from_within b a lb la (subst Q e itself)

-- the principals of particular clauses

pub principals-zero : principals 0 ≡ []
principals-zero =
    same_rising (principals 0) [] (principals-rising 0) refl
    (within-by (principals 0) [] (λ n m. let e : bit_at 0 n ≡ 1 = (principals-parts 0 n m).1 in let z : bit_at 0 n ≡ 0 = bit_at-zero n in absurd (omega (arith, e, z))))
    refl

pub principals-pow : (n : ℕ) → n < 64 → principals (2 ^ n) ≡ n ∷ []
principals-pow n l =
    same_rising (principals (2 ^ n)) (n ∷ []) (principals-rising (2 ^ n)) refl
    (within-by (principals (2 ^ n)) (n ∷ []) (λ k m.
    elim (cases_eq k n) [
      | inl e ↦ inl e
      | inr d ↦ let e : bit_at (2 ^ n) k ≡ 1 = (principals-parts (2 ^ n) k m).1 in let z : bit_at (2 ^ n) k ≡ 0 = bit_at-pow_other n k d in absurd (omega (arith, e, z))
    ]))
    (within-by (n ∷ []) (principals (2 ^ n)) (λ k m. elim m [
      | inl e ↦ let P : ℕ → Type 0 = λ v. In v (principals (2 ^ n)) in subst P (sym e) (principals-In (2 ^ n) n l (bit_at-pow_same n))
      | inr z ↦ absurd z
    ]))

principals-or_left : (a b n : ℕ) → In n (principals a) → In n (principals (bit_or a b))
principals-or_left a b n m =
    let r = principals-parts a n m in
    principals-In (bit_or a b) n r.0 (bit_at_or a b n ∙ one (bit_at a n) (bit_at b n) r.1 (bit_below b n))
  where
    one : (x y : ℕ) → x ≡ 1 → y < 2 → max x y ≡ 1
    one x y e l = omega arith

principals-or_right : (a b n : ℕ) → In n (principals b) → In n (principals (bit_or a b))
principals-or_right a b n m =
    let r = principals-parts b n m in
    principals-In (bit_or a b) n r.0 (bit_at_or a b n ∙ one (bit_at a n) (bit_at b n) r.1 (bit_below a n))
  where
    one : (x y : ℕ) → y ≡ 1 → x < 2 → max x y ≡ 1
    one x y e l = omega arith

principals-or_cases : (a b n : ℕ) → In n (principals (bit_or a b)) → In n (principals a) ⊎ In n (principals b)
principals-or_cases a b n m =
    let r = principals-parts (bit_or a b) n m in
    let e : max (bit_at a n) (bit_at b n) ≡ 1 = sym (bit_at_or a b n) ∙ r.1 in
    elim (cases_eq (bit_at a n) 1) [
      | inl t ↦ inl (principals-In a n r.0 t)
      | inr f ↦ inr (principals-In b n r.0 (other (bit_at a n) (bit_at b n) e f (bit_below a n)))
    ]
  where
    other : (x y : ℕ) → max x y ≡ 1 → (x ≡ 1 → ⊥) → x < 2 → y ≡ 1
    other x y e f l = omega arith

-- a set given as 64 bits has a member in a clause exactly where they have a common bit
pub meets-and : (c who : ℕ) → c < 2 ^ 64 → who < 2 ^ 64 → not (bit_and c who == 0) ≡ list_any (set_of (principals who)) (principals c)
meets-and c who lc lw =
    same_tests (not (bit_and c who == 0)) (list_any (set_of (principals who)) (principals c))
    (λ t.
    elim (cases_Bool (list_any (set_of (principals who)) (principals c))) [
      | inl s ↦ s
      | inr f ↦
          let none : bit_and c who ≡ 0 =
          same_from_bits_below 64 (bit_and c who) 0 (below c who lc) (omega arith) (λ i l.
          bit_at_and c who i ∙ zero_of (bit_at c i) (bit_at who i) (bit_below c i) (bit_below who i) (λ e w.
          both_ways (set_of (principals who) i)
          (any_none (set_of (principals who)) (principals c) f i (principals-In c i l e))
          (set_of-In i (principals who) (principals-In who i l w)))
          ∙ sym (bit_at-zero i))
          in
          absurd (both_ways (bit_and c who == 0) (not-true (bit_and c who == 0) t) (eq-eqb (bit_and c who) 0 none))
    ])
    (λ s.
    let r = any_some (set_of (principals who)) (principals c) s in
    let a = principals-parts c r.0 r.1.0 in
    let b = principals-parts who r.0 (In-set_of r.0 (principals who) r.1.1) in
    not_from_false (bit_and c who == 0) (false_from_ne_true (bit_and c who == 0) (λ t.
    let e : bit_at (bit_and c who) r.0 ≡ 0 = ap (λ v. bit_at v r.0) (eqb-true (bit_and c who) 0 t) ∙ bit_at-zero r.0 in
    let f : bit_at (bit_and c who) r.0 ≡ min (bit_at c r.0) (bit_at who r.0) = bit_at_and c who r.0 in
    clash (bit_at (bit_and c who) r.0) (bit_at c r.0) (bit_at who r.0) e f a.1 b.1)))
  where
    below : (a b : ℕ) → a < 2 ^ 64 → bit_and a b < 2 ^ 64
    below a b l = let k : bit_and b a ≤ a = and_le_r b a in rw (and_comm a b) (omega arith)

    zero_of : (x y : ℕ) → x < 2 → y < 2 → (x ≡ 1 → y ≡ 1 → ⊥) → min x y ≡ 0
    zero_of x y l k f =
        elim (cases_eq x 1) [
          | inl e ↦ elim (cases_eq y 1) [ inl g ↦ absurd (f e g) | inr g ↦ omega arith ]
          | inr e ↦ omega arith
        ]

    clash : (z x y : ℕ) → z ≡ 0 → z ≡ min x y → x ≡ 1 → y ≡ 1 → ⊥
    clash z x y e f g h = omega arith

-- which of two clauses stands first

-- where two rising lists first differ, the one that has the number there stands first, unless the other is contained in it
pub is_before-differ : (c d : List ℕ) (k : ℕ) → in_order nat_lt c ≡ true → in_order nat_lt d ≡ true → In k c → (In k d → ⊥)
    → ((n : ℕ) → n < k → In n c → In n d) → ((n : ℕ) → n < k → In n d → In n c) → (within d c ≡ true → ⊥) → is_before c d ≡ true
is_before-differ [] d k p q m o f g w = absurd m
is_before-differ (x ∷ c) [] k p q m o f g w = absurd (w refl)
is_before-differ (x ∷ c) (y ∷ d) k p q m o f g w =
    elim (cases_order x y) [
      | inl e ↦
          let P : ℕ → Type 0 = λ v. is_before (v ∷ c) (y ∷ d) ≡ true in
          subst P (sym e) (is_before-same y c d ∙
          is_before-differ c d k (in_order-tail nat_lt x c p) (in_order-tail nat_lt y d q)
          (elim m [ inl s ↦ absurd (o (inl (s ∙ e))) | inr r ↦ r ])
          (λ r. o (inr r))
          (λ n l r. elim (f n l (inr r)) [
            | inl s ↦ let a : x < n = ltb-true x n (in_order-head nat_lt x c p n r) in absurd (omega arith)
            | inr t ↦ t
          ])
          (λ n l r. elim (g n l (inr r)) [
            | inl s ↦ let a : y < n = ltb-true y n (in_order-head nat_lt y d q n r) in absurd (omega arith)
            | inr t ↦ t
          ])
          (λ v. w (within-by (y ∷ d) (x ∷ c) (λ n r. elim r [ inl s ↦ inl (s ∙ sym e) | inr t ↦ inr (within-at d c v n t) ]))))
      | inr r ↦
          elim r [
            | inl l ↦ is_before-less x y c d l
            | inr l ↦
                let above : x ≤ k = elim m [ inl s ↦ omega arith | inr t ↦ let a : x < k = ltb-true x k (in_order-head nat_lt x c p k t) in omega arith ] in
                let there : In y (x ∷ c) = g y (omega arith) (inl refl) in
                elim there [
                  | inl s ↦ absurd (omega arith)
                  | inr t ↦ let a : x < y = ltb-true x y (in_order-head nat_lt x c p y t) in absurd (omega arith)
                ]
          ]
    ]

-- of two clauses that do not contain each other the one with the lowest bit in which they differ stands first
pub is_before-lowest : (a b : ℕ) → a < 2 ^ 64 → b < 2 ^ 64 → (k : ℕ) → k < 64 → bit_at a k ≡ 1 → bit_at b k ≡ 0
    → ((i : ℕ) → i < k → bit_at a i ≡ bit_at b i) → (bit_and b a ≡ b → ⊥) → is_before (principals a) (principals b) ≡ true
is_before-lowest a b la lb k l x y same apart =
    is_before-differ (principals a) (principals b) k (principals-rising a) (principals-rising b)
    (principals-In a k l x)
    (λ m. let e : bit_at b k ≡ 1 = (principals-parts b k m).1 in clash (bit_at b k) e y)
    (λ n s m. let r = principals-parts a n m in principals-In b n r.0 (sym (same n s) ∙ r.1))
    (λ n s m. let r = principals-parts b n m in principals-In a n r.0 (same n s ∙ r.1))
    (λ w. apart (and-from_within b a lb la w))
  where
    clash : (x : ℕ) → x ≡ 1 → x ≡ 0 → ⊥
    clash x e f = omega arith

-- the lowest bit in which two clauses differ is the lowest of their exclusive or
pub is_before-xor : (a b : ℕ) → a < 2 ^ 64 → b < 2 ^ 64 → (bit_xor a b ≡ 0 → ⊥) → (bit_and a b ≡ a → ⊥) → (bit_and b a ≡ b → ⊥)
    → (trailing_zeros w64 (bit_xor a b) < 64) × ((bit_and (a / 2 ^ trailing_zeros w64 (bit_xor a b)) 1 == 1) ≡ is_before (principals a) (principals b))
is_before-xor a b la lb nonzero apart_a apart_b =
    let x : ℕ = bit_xor a b in
    let t : ℕ = trailing_zeros w64 x in
    let r = bit_at-trailing_zeros w64 x (positive x nonzero) (xor_lt 64 a b la lb) in
    let here : (bit_at a t + bit_at b t) % 2 ≡ 1 = sym (bit_at_xor a b t) ∙ r.1 in
    let low : (i : ℕ) → i < t → bit_at a i ≡ bit_at b i = λ i l. even (bit_at a i) (bit_at b i) (sym (bit_at_xor a b i) ∙ r.2 i l) (bit_below a i) (bit_below b i) in (
      r.0,
      elim (cases_eq (bit_at a t) 1) [
        | inl e ↦
            let z : bit_at b t ≡ 0 = other (bit_at a t) (bit_at b t) here e (bit_below b t) in
            let first : is_before (principals a) (principals b) ≡ true = is_before-lowest a b la lb t r.0 e z low apart_b in
            eq-eqb (bit_and (a / 2 ^ t) 1) 1 (shr_and_one a t ∙ e) ∙ sym first
        | inr f ↦
            let z : bit_at a t ≡ 0 = none (bit_at a t) f (bit_below a t) in
            let e : bit_at b t ≡ 1 = one (bit_at a t) (bit_at b t) here z (bit_below b t) in
            let first : is_before (principals b) (principals a) ≡ true = is_before-lowest b a lb la t r.0 e z (λ i l. sym (low i l)) apart_a in
            let second : is_before (principals a) (principals b) ≡ false =
            false_from_ne_true (is_before (principals a) (principals b)) (λ s. is_before-asym (principals a) (principals b) s first)
            in
            ne_eqb (bit_and (a / 2 ^ t) 1) 1 (λ q. f (sym (shr_and_one a t) ∙ q)) ∙ sym second
      ],
    )
  where
    positive : (n : ℕ) → (n ≡ 0 → ⊥) → 0 < n
    positive n f = elim (cases_order n 0) [ inl e ↦ absurd (f e) | inr o ↦ elim o [ inl l ↦ absurd (omega arith) | inr l ↦ l ] ]

    even : (p q : ℕ) → (p + q) % 2 ≡ 0 → p < 2 → q < 2 → p ≡ q
    even p q e l k = omega arith

    other : (p q : ℕ) → (p + q) % 2 ≡ 1 → p ≡ 1 → q < 2 → q ≡ 0
    other p q e f l = omega arith

    none : (p : ℕ) → (p ≡ 1 → ⊥) → p < 2 → p ≡ 0
    none p f l = omega arith

    one : (p q : ℕ) → (p + q) % 2 ≡ 1 → p ≡ 0 → q < 2 → q ≡ 1
    one p q e f l = omega arith

-- the unions of a clause of each side

pub unions-In : (left right : List ℕ) (a b : ℕ) → In a left → In b right → In (bit_or a b) (unions left right)
unions-In [] right a b h k = absurd h
unions-In (x ∷ left) right a b (inl e) k =
    In-append_left (bit_or a b) (map (bit_or x) right) (unions left right)
    (let P : ℕ → Type 0 = λ v. In (bit_or v b) (map (bit_or x) right) in subst P (sym e) (In-map (bit_or x) b right k))
unions-In (x ∷ left) right a b (inr h) k = In-append_right (bit_or a b) (map (bit_or x) right) (unions left right) (unions-In left right a b h k)

pub unions-parts : (left right : List ℕ) (u : ℕ) → In u (unions left right) → (a : ℕ) × ((b : ℕ) × (In a left × (In b right × (u ≡ bit_or a b))))
unions-parts [] right u h = absurd h
unions-parts (x ∷ left) right u h =
    elim (In-append_cases u (map (bit_or x) right) (unions left right) h) [
      | inl p ↦ let r = In-map_cases (bit_or x) u right p in (x, (r.0, (inl refl, (r.1.0, r.1.1))))
      | inr q ↦ let r = unions-parts left right u q in (r.0, (r.1.0, (inr r.1.1.0, (r.1.1.1.0, r.1.1.1.1))))
    ]

pub unions-below : (left right : List ℕ) → ((a : ℕ) → In a left → a < 2 ^ 64) → ((b : ℕ) → In b right → b < 2 ^ 64) → (u : ℕ) → In u (unions left right) → u < 2 ^ 64
unions-below left right f g u h =
    let r = unions-parts left right u h in
    let P : ℕ → Type 0 = λ v. v < 2 ^ 64 in
    subst P (sym r.1.1.1.1) (or_lt 64 r.0 r.1.0 (f r.0 r.1.1.0) (g r.1.0 r.1.1.1.0))

-- exactly the sets satisfy them that satisfy at least one side
pub sat-unions : (left right : List ℕ) (P : ℕ → Bool) → sat P (map principals (unions left right)) ≡ (sat P (map principals left) || sat P (map principals right))
sat-unions left right P =
    same_tests (sat P (map principals (unions left right))) (sat P (map principals left) || sat P (map principals right))
    (λ h.
    elim (cases_Bool (sat P (map principals left))) [
      | inl t ↦ or_left (sat P (map principals left)) (sat P (map principals right)) t
      | inr f ↦
          or_right (sat P (map principals left)) (sat P (map principals right))
          (elim (cases_Bool (sat P (map principals right))) [
            | inl t ↦ t
            | inr g ↦
                let c = all_fails (λ v. list_any P v) (map principals left) f in
                let d = all_fails (λ v. list_any P v) (map principals right) g in
                let a = In-map_cases principals c.0 left c.1.0 in
                let b = In-map_cases principals d.0 right d.1.0 in
                let u : ℕ = bit_or a.0 b.0 in
                let q = any_some P (principals u) (all_at (λ v. list_any P v) (map principals (unions left right)) h (principals u) (In-map principals u (unions left right) (unions-In left right a.0 b.0 a.1.0 b.1.0))) in
                let R : List ℕ → Type 0 = λ v. list_any P v ≡ false in
                elim (principals-or_cases a.0 b.0 q.0 q.1.0) [
                  | inl m ↦ absurd (both_ways (P q.0) (any_none P (principals a.0) (subst R a.1.1 c.1.1) q.0 m) q.1.1)
                  | inr m ↦ absurd (both_ways (P q.0) (any_none P (principals b.0) (subst R b.1.1 d.1.1) q.0 m) q.1.1)
                ]
          ])
    ])
    (λ h. all_by (λ v. list_any P v) (map principals (unions left right)) (λ c m.
    let r = In-map_cases principals c (unions left right) m in
    let s = unions-parts left right r.0 r.1.0 in
    let Q : List ℕ → Type 0 = λ v. list_any P v ≡ true in
    let R : ℕ → Type 0 = λ v. list_any P (principals v) ≡ true in
    subst Q (sym r.1.1) (subst R (sym s.1.1.1.1)
    (elim (or_cases (sat P (map principals left)) (sat P (map principals right)) h) [
      | inl t ↦
          let q = any_some P (principals s.0) (all_at (λ v. list_any P v) (map principals left) t (principals s.0) (In-map principals s.0 left s.1.1.0)) in
          any_by P (principals (bit_or s.0 s.1.0)) q.0 (principals-or_left s.0 s.1.0 q.0 q.1.0) q.1.1
      | inr t ↦
          let q = any_some P (principals s.1.0) (all_at (λ v. list_any P v) (map principals right) t (principals s.1.0) (In-map principals s.1.0 right s.1.1.1.0)) in
          any_by P (principals (bit_or s.0 s.1.0)) q.0 (principals-or_right s.0 s.1.0 q.0 q.1.0) q.1.1
    ]))))

-- questions about clauses of 64 bits as questions about their principals

-- to contain a kept clause as 64 bits is to contain the list of its principals
pub covers-within : (ks : List ℕ) (d : ℕ) → ((k : ℕ) → In k ks → k < 2 ^ 64) → d < 2 ^ 64 → covers ks d ≡ list_any (λ c. within c (principals d)) (map principals ks)
covers-within ks d f l = list_any-map principals (λ k. bit_and k d == k) (λ c. within c (principals d)) ks (λ k m. within-and k d (f k m) l)

pub covers-implies : (ks ds : List ℕ) → ((k : ℕ) → In k ks → k < 2 ^ 64) → ((d : ℕ) → In d ds → d < 2 ^ 64)
    → list_all (λ d. covers ks d) ds ≡ implies (map principals ks) (map principals ds)
covers-implies ks ds f g =
    list_all-map principals (λ d. covers ks d) (λ e. list_any (λ c. within c e) (map principals ks)) ds (λ d m. covers-within ks d f (g d m))
    ∙ sym (implies-contains (map principals ks) (map principals ds))

-- two formulas together imply a third exactly where each of its clauses contains one of theirs
pub covers-both : (ls rs ds : List ℕ) → ((l : ℕ) → In l ls → l < 2 ^ 64) → ((r : ℕ) → In r rs → r < 2 ^ 64) → ((d : ℕ) → In d ds → d < 2 ^ 64)
    → list_all (λ d. covers ls d || covers rs d) ds ≡ implies (map principals ls ++ map principals rs) (map principals ds)
covers-both ls rs ds f g h =
    each ds
    ∙ covers-implies (ls ++ rs) ds (λ k m. elim (In-append_cases k ls rs m) [ inl a ↦ f k a | inr b ↦ g k b ]) h
    ∙ ap (λ v. implies v (map principals ds)) (map-append principals ls rs)
  where
    each : (ds : List ℕ) → list_all (λ d. covers ls d || covers rs d) ds ≡ list_all (λ d. covers (ls ++ rs) d) ds
    each [] = refl
    each (d ∷ ds) =
        ap (λ b. b && list_all (λ d. covers ls d || covers rs d) ds) (sym (list_any-append (λ k. bit_and k d == k) ls rs))
        ∙ ap (λ b. covers (ls ++ rs) d && b) (each ds)

pub meets-sat : (cs : List ℕ) (who : ℕ) → ((c : ℕ) → In c cs → c < 2 ^ 64) → who < 2 ^ 64
    → list_all (λ c. not (bit_and c who == 0)) cs ≡ sat (set_of (principals who)) (map principals cs)
meets-sat cs who f l =
    list_all-map principals (λ c. not (bit_and c who == 0)) (λ e. list_any (set_of (principals who)) e) cs (λ c m. meets-and c who (f c m) l)

pub principals-equal : (ms ns : List ℕ) → ((m : ℕ) → In m ms → m < 2 ^ 64) → ((n : ℕ) → In n ns → n < 2 ^ 64) → map principals ms ≡ map principals ns → ms ≡ ns
principals-equal ms ns f g e = map-injective principals ms ns (λ a b m n. principals-same a b (f a m) (g b n)) e

-- formulas of no clause and of one

pub IsFormula-none : IsFormula []
IsFormula-none = record { fits = λ k d l. absurd (omega arith); canonical = IsCanonical-none; few = omega arith }

pub IsFormula-one : (m : ℕ) → m < 2 ^ 64 → IsFormula (m ∷ [])
IsFormula-one m l = record {
  fits = In-All (λ v. v < 2 ^ 64) (m ∷ []) (λ k h. elim h [ inl e ↦ let P : ℕ → Type 0 = λ v. v < 2 ^ 64 in subst P (sym e) l | inr z ↦ absurd z ]);
  canonical = IsCanonical-one (principals m) (principals-clause m);
  few = omega arith;
}

-- `1 << n`
pub one_shifted : (n : ℕ) → n < 64 → (1 * 2 ^ n % 2 ^ 64 ≡ 2 ^ n) × (2 ^ n < 2 ^ 64)
one_shifted n l =
    let fits : 2 ^ n < 2 ^ 64 = pow-lt l in
    (omega (arith, fits), fits)
