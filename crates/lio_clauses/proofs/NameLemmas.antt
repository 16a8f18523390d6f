-- On the names of principals: the number of a name is its place.
use Rattle.std.proofs.Common.{◌≡◌, ◌≢◌, ℕ, zero, suc, ◌+◌, ◌<◌, ◌≤◌, ◌⊎◌, inl, inr, Bool, true, false, cond, not, if◌then◌else◌, ◌||◌, List, [], ◌∷◌, ◌++◌, length, get_or, map, position, Option, Some, None, slice_get, Contains, AllPairs, Vec, refl, sym, ap, subst, ◌∙◌, arith, length-append, ne_eqb, add-one, add_comm, ◌==◌, true≢false, nat_lt, nat_le, ◌&&◌, bytes_eq}
use Rattle.std.specs.Global.{Global}
use Rattle.std.proofs.lemmas.Bool.{and_parts}
use Rattle.std.specs.List.{list_any, prefix_len, position_or_len}
use Rattle.std.proofs.lemmas.List.{length-map, map-append}
use Rattle.std.proofs.lemmas.List.Elements.{All-push, Contains-get_or}
use Rattle.std.proofs.lemmas.List.Quantifiers.{position-Some, all_pairs_push}
use Rattle.std.proofs.lemmas.Option.{slice_get-get_or, slice_get_within, get_or_from_slice_get}
use Rattle.std.proofs.lemmas.Slice.Eq.{bytes_eq-Decides}
use Rattle.lio_clauses.specs.Names.{AreNames, bytes_of, name_fault, number_of, bad_place, may_stand, is_name_byte, is_letter}

prefix_len-map : {X Y : Type 0} (p : Y → Bool) (f : X → Y) (xs : List X) → prefix_len p (map f xs) ≡ prefix_len (λ x. p (f x)) xs
prefix_len-map p f [] = refl
prefix_len-map p f (x ∷ xs) = ap (λ n. cond (p (f x)) (1 + n) 0) (prefix_len-map p f xs)

position-map : {X Y : Type 0} (p : Y → Bool) (f : X → Y) (xs : List X) → position p (map f xs) ≡ position (λ x. p (f x)) xs
position-map p f xs =
    ap (λ n. cond (nat_lt n (length (map f xs))) (Some n) None) (prefix_len-map (λ y. not (p y)) f xs)
    ∙ ap (λ n. cond (nat_lt (position_or_len (λ x. p (f x)) xs) n) (Some (position_or_len (λ x. p (f x)) xs)) None) (length-map xs f)

-- the place at which a set of vectors has the name is its number
pub number_of-bytes_of : (names : List (Vec ℕ Global)) (name : List ℕ) → number_of (bytes_of names) name ≡ position (λ v. bytes_eq name v.items) names
number_of-bytes_of names name = position-map (bytes_eq name) (λ v. v.items) names

all_fail : {X : Type 0} (p : X → Bool) (xs : List X) → length xs ≤ position_or_len p xs → (k : ℕ) (d : X) → k < length xs → p (get_or xs k d) ≡ false
all_fail p [] h k d l = absurd (omega arith)
all_fail {X = X} p (x ∷ xs) h k d l = by (p x) refl (λ h. all_fail p xs h) k l
  where
    by : (b : Bool) → p x ≡ b → (length xs ≤ position_or_len p xs → (k : ℕ) (d : X) → k < length xs → p (get_or xs k d) ≡ false) → (k : ℕ) → k < length (x ∷ xs) → p (get_or (x ∷ xs) k d) ≡ false
    by true e rest k l =
        let none : length (x ∷ xs) ≤ 0 = subst (λ c. length (x ∷ xs) ≤ cond (not c) (1 + position_or_len p xs) 0) e h in
        absurd (omega arith)
    by false e rest zero l = e
    by false e rest (suc k) l =
        let more : length (x ∷ xs) ≤ 1 + position_or_len p xs = subst (λ c. length (x ∷ xs) ≤ cond (not c) (1 + position_or_len p xs) 0) e h in
        rest (omega arith) k d (omega arith)

position-None : {X : Type 0} (p : X → Bool) (xs : List X) → position p xs ≡ None → (k : ℕ) (d : X) → k < length xs → p (get_or xs k d) ≡ false
position-None p xs h = all_fail p xs (by (nat_lt (position_or_len p xs) (length xs)) refl)
  where
    by : (b : Bool) → nat_lt (position_or_len p xs) (length xs) ≡ b → length xs ≤ position_or_len p xs
    by true e = let some : Some (position_or_len p xs) ≡ None = sym (ap (λ c. cond c (Some (position_or_len p xs)) None) e) ∙ h in absurd (cc)
    by false e = grind arith

-- a name without a number is none of the names
pub others-None : (names : List (List ℕ)) (name : List ℕ) → number_of names name ≡ None → (k : ℕ) (d : List ℕ) → k < length names → get_or names k d ≢ name
others-None names name h k d l same =
    true≢false (sym ((bytes_eq-Decides name (get_or names k d)).1 (sym same)) ∙ position-None (bytes_eq name) names h k d l)

-- and the number of a name is its place
pub place_of-Some : (names : List (List ℕ)) (name : List ℕ) (n : ℕ) → number_of names name ≡ Some n → slice_get names n ≡ Some name
place_of-Some names name n h =
    let at = position-Some (bytes_eq name) names n [] h in
    slice_get-get_or names n [] at.0 ∙ ap Some (sym ((bytes_eq-Decides name (get_or names n [])).0 at.1))

pub None-absent : (names : List (List ℕ)) (name : List ℕ) → number_of names name ≡ None → Contains names name → ⊥
None-absent names name h in' = others-None names name h in'.0 name in'.1 in'.2

pub absent-None : (names : List (List ℕ)) (name : List ℕ) → (Contains names name → ⊥) → number_of names name ≡ None
absent-None names name h = by (number_of names name) refl
  where
    by : (o : Option ℕ) → number_of names name ≡ o → o ≡ None
    by None e = refl
    by (Some n) e =
        let at = position-Some (bytes_eq name) names n name e in
        absurd (h (n, at.0, sym ((bytes_eq-Decides name (get_or names n name)).0 at.1)))

-- a name that keeps the rules and has no number may be added
pub AreNames-push : (names : List (List ℕ)) (name : List ℕ) → AreNames names → name_fault name ≡ None → number_of names name ≡ None → length names < 64 → AreNames (names ++ name ∷ [])
AreNames-push names name old fine new room = record {
  each = All-push (λ n. name_fault n ≡ None) names name old.each fine;
  distinct = all_pairs_push (λ a b. a ≢ b) names name old.distinct (others-None names name new);
  count = omega (arith, length-append names (name ∷ []));
}

pub bytes_of-push : (names : List (Vec ℕ Global)) (v : Vec ℕ Global) → bytes_of (names ++ v ∷ []) ≡ bytes_of names ++ v.items ∷ []
bytes_of-push names v = map-append (λ v. v.items) names (v ∷ [])

-- so a set of vectors does not hold a name without a number
pub list_any-absent : (names : List (Vec ℕ Global)) (name : List ℕ) → number_of (bytes_of names) name ≡ None → list_any (λ v. bytes_eq name v.items) names ≡ false
list_any-absent names name h = none names (λ k d l. position-None (λ v. bytes_eq name v.items) names (sym (number_of-bytes_of names name) ∙ h) k d l)
  where
    none : (vs : List (Vec ℕ Global)) → ((k : ℕ) (d : Vec ℕ Global) → k < length vs → bytes_eq name (get_or vs k d).items ≡ false) → list_any (λ v. bytes_eq name v.items) vs ≡ false
    none [] f = refl
    none (v ∷ vs) f = ap (λ b. b || list_any (λ v. bytes_eq name v.items) vs) (f 0 v (omega arith)) ∙ none vs (λ k d l. f (suc k) d (omega arith))

-- and a vector with such a name goes last
pub bytes_of-insert : (old new : List (Vec ℕ Global)) (v : Vec ℕ Global) (names : List (List ℕ)) (name : List ℕ)
    → new ≡ (if list_any (λ y. bytes_eq v.items y.items) old then old else old ++ v ∷ []) → v.items ≡ name → bytes_of old ≡ names
    → number_of names name ≡ None → bytes_of new ≡ names ++ name ∷ []
bytes_of-insert old new v names name put same before h =
    let absent : list_any (λ y. bytes_eq v.items y.items) old ≡ false =
    list_any-absent old v.items (ap (λ ns. number_of ns v.items) before ∙ ap (number_of names) same ∙ h) in
    ap bytes_of (put ∙ ap (λ b. if b then old else old ++ v ∷ []) absent) ∙ bytes_of-push old v ∙ ap (λ ns. ns ++ v.items ∷ []) before ∙ ap (λ n. names ++ n ∷ []) same

-- each name's number is its place
pub number_of-own : (names : List (List ℕ)) (n : ℕ) → AllPairs (λ a b. a ≢ b) names → n < length names → number_of names (get_or names n []) ≡ Some n
number_of-own names n distinct within = by (number_of names (get_or names n [])) refl
  where
    order : (m n : ℕ) → (m ≡ n) ⊎ ((m < n) ⊎ (n < m))
    order m n = grind arith

    by : (o : Option ℕ) → number_of names (get_or names n []) ≡ o → o ≡ Some n
    by None e = absurd (None-absent names (get_or names n []) e (Contains-get_or names n [] within))
    by (Some m) e =
        let at = place_of-Some names (get_or names n []) m e in
        let there : m < length names = slice_get_within names m (get_or names n []) at in
        let same : get_or names m [] ≡ get_or names n [] = get_or_from_slice_get names m (get_or names n []) [] at in
        let one : m ≡ n = elim (order m n) [ inl e ↦ e | inr (inl below) ↦ absurd (distinct m n [] below within same) | inr (inr above) ↦ absurd (distinct n m [] above there (sym same)) ] in
        ap Some one

-- what a name consists of
pub name_bytes : (place : ℕ) (bs rest : List ℕ) → 0 < place → bad_place place bs ≡ None → prefix_len is_name_byte rest ≡ 0 → prefix_len is_name_byte (bs ++ rest) ≡ length bs
name_bytes place [] rest some fine end = end
name_bytes place (b ∷ bs) rest some fine end = by (may_stand place b) refl (name_bytes (place + 1) bs rest (omega arith))
  where
    by : (c : Bool) → may_stand place b ≡ c → (bad_place (place + 1) bs ≡ None → prefix_len is_name_byte rest ≡ 0 → prefix_len is_name_byte (bs ++ rest) ≡ length bs)
        → prefix_len is_name_byte (b ∷ bs ++ rest) ≡ length (b ∷ bs)
    by true e more =
        let parts = and_parts (nat_lt place 32) (if place == 0 then is_letter b else is_name_byte b) e in
        let may : is_name_byte b ≡ true = sym (ap (λ c. if c then is_letter b else is_name_byte b) (ne_eqb place 0 (omega arith))) ∙ parts.1 in
        let rest_fine : bad_place (place + 1) bs ≡ None = sym (ap (λ c. if c then bad_place (place + 1) bs else Some place) e) ∙ fine in
        ap (λ c. cond c (1 + prefix_len is_name_byte (bs ++ rest)) 0) may ∙ ap (λ n. 1 + n) (more rest_fine end) ∙ add_comm 1 (length bs) ∙ add-one (length bs)
    by false e more = let wrong : Some place ≡ None = sym (ap (λ c. if c then bad_place (place + 1) bs else Some place) e) ∙ fine in cc

not_none : (n : ℕ) → Some n ≡ None → ⊥
not_none n e = cc

pub name_begins : (names : List (List ℕ)) (n : ℕ) → AreNames names → n < length names
    → (b : ℕ) × (bs : List ℕ) × (get_or names n [] ≡ b ∷ bs) × (is_letter b ≡ true) × ((rest : List ℕ) → prefix_len is_name_byte rest ≡ 0 → prefix_len is_name_byte ((b ∷ bs) ++ rest) ≡ length (b ∷ bs))
name_begins names n known within = by (get_or names n []) refl
  where
    fine : name_fault (get_or names n []) ≡ None
    fine = known.each n [] within

    letter : (b : ℕ) → is_letter b ≡ true → is_name_byte b ≡ true
    letter b e = ap (λ c. c || (nat_le 48 b && nat_le b 57) || b == 95) e

    whole : (b : ℕ) (bs : List ℕ) (c : Bool) → may_stand 0 b ≡ c → bad_place 0 (b ∷ bs) ≡ None
        → (is_letter b ≡ true) × ((rest : List ℕ) → prefix_len is_name_byte rest ≡ 0 → prefix_len is_name_byte ((b ∷ bs) ++ rest) ≡ length (b ∷ bs))
    whole b bs true e ok =
        let parts = and_parts (nat_lt 0 32) (is_letter b) e in
        let rest_fine : bad_place (0 + 1) bs ≡ None = sym (ap (λ c. if c then bad_place (0 + 1) bs else Some 0) e) ∙ ok in (
          parts.1,
          λ rest end. ap (λ c. cond c (1 + prefix_len is_name_byte (bs ++ rest)) 0) (letter b parts.1) ∙ ap (λ n. 1 + n) (name_bytes 1 bs rest (omega arith) rest_fine end) ∙ add_comm 1 (length bs) ∙ add-one (length bs),
        )
    whole b bs false e ok = absurd (not_none 0 (sym (ap (λ c. if c then bad_place (0 + 1) bs else Some 0) e) ∙ ok))

    by : (name : List ℕ) → get_or names n [] ≡ name
        → (b : ℕ) × (bs : List ℕ) × (get_or names n [] ≡ b ∷ bs) × (is_letter b ≡ true) × ((rest : List ℕ) → prefix_len is_name_byte rest ≡ 0 → prefix_len is_name_byte ((b ∷ bs) ++ rest) ≡ length (b ∷ bs))
    by [] e = absurd (not_none 0 (sym (ap name_fault e) ∙ fine))
    by (b ∷ bs) e = let w = whole b bs (may_stand 0 b) refl (sym (ap name_fault e) ∙ fine) in (b, bs, e, w.0, w.1)
