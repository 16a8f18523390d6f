-- Membership in a list by recursion, and what the list functions of std say of members.
use Rattle.std.proofs.Common.{◌≡◌, ℕ, suc, zero, ◌<◌, Bool, true, false, cond, ◌&&◌, ◌||◌, ◌⊎◌, inl, inr, List, [], ◌∷◌, ◌++◌, map, length, get_or, refl, sym, ◌∙◌, ap, subst, arith}
-- two facts about two tests that come to one answer
pub use Rattle.std.specs.Cmp.{both_ways as same_tests}
use Rattle.std.specs.List.{list_any, list_all, filter, Contains, All}
use Rattle.std.proofs.lemmas.List.Elements.{All-contains, Contains-get_or}
use Rattle.std.proofs.lemmas.Bool.{true≢false, and_parts, and_from, and_cases, or_cases, or_parts, or_left, or_right, cases_Bool}

-- x is an element of the list
abbrev pub In : {X : Type 0} → X → List X → Type 0
In x [] = ⊥
In x (y ∷ ys) = (x ≡ y) ⊎ In x ys

pub In-append_left : {X : Type 0} (x : X) (xs ys : List X) → In x xs → In x (xs ++ ys)
In-append_left x [] ys h = absurd h
In-append_left x (y ∷ xs) ys (inl e) = inl e
In-append_left x (y ∷ xs) ys (inr h) = inr (In-append_left x xs ys h)

pub In-append_right : {X : Type 0} (x : X) (xs ys : List X) → In x ys → In x (xs ++ ys)
In-append_right x [] ys h = h
In-append_right x (y ∷ xs) ys h = inr (In-append_right x xs ys h)

pub In-append_cases : {X : Type 0} (x : X) (xs ys : List X) → In x (xs ++ ys) → In x xs ⊎ In x ys
In-append_cases x [] ys h = inr h
In-append_cases x (y ∷ xs) ys (inl e) = inl (inl e)
In-append_cases x (y ∷ xs) ys (inr h) = elim (In-append_cases x xs ys h) [ inl k ↦ inl (inr k) | inr k ↦ inr k ]

pub In-map : {X Y : Type 0} (f : X → Y) (x : X) (xs : List X) → In x xs → In (f x) (map f xs)
In-map f x [] h = absurd h
In-map f x (y ∷ xs) (inl e) = inl (ap f e)
In-map f x (y ∷ xs) (inr h) = inr (In-map f x xs h)

pub In-map_cases : {X Y : Type 0} (f : X → Y) (y : Y) (xs : List X) → In y (map f xs) → (x : X) × (In x xs × (y ≡ f x))
In-map_cases f y [] h = absurd h
In-map_cases f y (x ∷ xs) (inl e) = (x, (inl refl, e))
In-map_cases f y (x ∷ xs) (inr h) = let r = In-map_cases f y xs h in (r.0, (inr r.1.0, r.1.1))

pub In-filter : {X : Type 0} (p : X → Bool) (x : X) (xs : List X) → In x xs → p x ≡ true → In x (filter p xs)
In-filter p x [] h t = absurd h
In-filter p x (y ∷ xs) (inl e) t =
    let P : Bool → Type 0 = λ b. In x (cond b (y ∷ filter p xs) (filter p xs)) in
    subst P (sym (ap p (sym e) ∙ t)) (inl e)
In-filter p x (y ∷ xs) (inr h) t =
    elim (p y) as (λ b. In x (cond b (y ∷ filter p xs) (filter p xs))) [
      | true ↦ inr (In-filter p x xs h t)
      | false ↦ In-filter p x xs h t
    ]

pub In-filter_parts : {X : Type 0} (p : X → Bool) (x : X) (xs : List X) → In x (filter p xs) → In x xs × (p x ≡ true)
In-filter_parts p x [] h = absurd h
In-filter_parts p x (y ∷ xs) h =
    elim (cases_Bool (p y)) [
      | inl t ↦
          let P : Bool → Type 0 = λ b. In x (cond b (y ∷ filter p xs) (filter p xs)) in
          let k : (x ≡ y) ⊎ In x (filter p xs) = subst P t h in
          elim k [
            | inl e ↦ (inl e, ap p e ∙ t)
            | inr m ↦ let r = In-filter_parts p x xs m in (inr r.0, r.1)
          ]
      | inr f ↦
          let P : Bool → Type 0 = λ b. In x (cond b (y ∷ filter p xs) (filter p xs)) in
          let r = In-filter_parts p x xs (subst P f h) in
          (inr r.0, r.1)
    ]

-- tests of all and of some elements

pub all_at : {X : Type 0} (p : X → Bool) (xs : List X) → list_all p xs ≡ true → (x : X) → In x xs → p x ≡ true
all_at p [] a x h = absurd h
all_at p (y ∷ xs) a x (inl e) = ap p e ∙ (and_parts (p y) (list_all p xs) a).0
all_at p (y ∷ xs) a x (inr h) = all_at p xs (and_parts (p y) (list_all p xs) a).1 x h

pub all_by : {X : Type 0} (p : X → Bool) (xs : List X) → ((x : X) → In x xs → p x ≡ true) → list_all p xs ≡ true
all_by p [] h = refl
all_by p (y ∷ xs) h = and_from (p y) (list_all p xs) (h y (inl refl)) (all_by p xs (λ x m. h x (inr m)))

pub all_fails : {X : Type 0} (p : X → Bool) (xs : List X) → list_all p xs ≡ false → (x : X) × (In x xs × (p x ≡ false))
all_fails p [] h = absurd (true≢false h)
all_fails p (y ∷ xs) h =
    elim (cases_Bool (p y)) [
      | inl t ↦
          elim (and_cases (p y) (list_all p xs) h) [
            | inl f ↦ (y, (inl refl, f))
            | inr f ↦ let r = all_fails p xs f in (r.0, (inr r.1.0, r.1.1))
          ]
      | inr f ↦ (y, (inl refl, f))
    ]

pub any_by : {X : Type 0} (p : X → Bool) (xs : List X) (x : X) → In x xs → p x ≡ true → list_any p xs ≡ true
any_by p [] x h t = absurd h
any_by p (y ∷ xs) x (inl e) t = or_left (p y) (list_any p xs) (ap p (sym e) ∙ t)
any_by p (y ∷ xs) x (inr h) t = or_right (p y) (list_any p xs) (any_by p xs x h t)

pub any_some : {X : Type 0} (p : X → Bool) (xs : List X) → list_any p xs ≡ true → (x : X) × (In x xs × (p x ≡ true))
any_some p [] h = absurd (true≢false (sym h))
any_some p (y ∷ xs) h =
    elim (or_cases (p y) (list_any p xs) h) [
      | inl t ↦ (y, (inl refl, t))
      | inr k ↦ let r = any_some p xs k in (r.0, (inr r.1.0, r.1.1))
    ]

pub any_none : {X : Type 0} (p : X → Bool) (xs : List X) → list_any p xs ≡ false → (x : X) → In x xs → p x ≡ false
any_none p [] a x h = absurd h
any_none p (y ∷ xs) a x (inl e) = ap p e ∙ (or_parts (p y) (list_any p xs) a).0
any_none p (y ∷ xs) a x (inr h) = any_none p xs (or_parts (p y) (list_any p xs) a).1 x h

-- `Contains` of std

pub Contains-from_In : {X : Type 0} (x : X) (xs : List X) → In x xs → Contains xs x
Contains-from_In x [] h = absurd h
Contains-from_In x (y ∷ xs) (inl e) = (0, omega arith, sym e)
Contains-from_In x (y ∷ xs) (inr h) =
    let r = Contains-from_In x xs h in
    (suc r.0, omega arith, r.2)

In-from_place : {X : Type 0} (x : X) (xs : List X) (k : ℕ) → k < length xs → get_or xs k x ≡ x → In x xs
In-from_place x [] k l e = absurd (omega arith)
In-from_place x (y ∷ xs) zero l e = inl (sym e)
In-from_place x (y ∷ xs) (suc k) l e = inr (In-from_place x xs k (omega arith) e)

pub In-from_Contains : {X : Type 0} (x : X) (xs : List X) → Contains xs x → In x xs
In-from_Contains x xs c = In-from_place x xs c.0 c.1 c.2

-- what holds at each place holds of each member
pub places-In : {X : Type 0} (P : X → Type 0) (d : X) (xs : List X) → ((k : ℕ) → k < length xs → P (get_or xs k d)) → (x : X) → In x xs → P x
places-In P d [] h x m = absurd m
places-In P d (y ∷ xs) h x (inl e) = subst P (sym e) (h 0 (omega arith))
places-In P d (y ∷ xs) h x (inr m) = places-In P d xs (λ k l. h (suc k) (omega arith)) x m

-- an element at a place is a member
pub In-place : {X : Type 0} (d : X) (xs : List X) (k : ℕ) → k < length xs → In (get_or xs k d) xs
In-place d xs k l = In-from_Contains (get_or xs k d) xs (Contains-get_or xs k d l)

-- `All` of std
pub All-In : {X : Type 0} (P : X → Type 0) (xs : List X) → All P xs → (x : X) → In x xs → P x
All-In P xs a x m = All-contains P xs x a (Contains-from_In x xs m)

pub In-All : {X : Type 0} (P : X → Type 0) (xs : List X) → ((x : X) → In x xs → P x) → All P xs
In-All P xs f k d l = f (get_or xs k d) (In-place d xs k l)

-- tests of the images of members

pub list_all-map : {X Y : Type 0} (f : X → Y) (p : X → Bool) (q : Y → Bool) (xs : List X) → ((x : X) → In x xs → p x ≡ q (f x)) → list_all p xs ≡ list_all q (map f xs)
list_all-map f p q [] h = refl
list_all-map f p q (x ∷ xs) h =
    let first : p x ≡ q (f x) = h x (inl refl) in
    let rest : list_all p xs ≡ list_all q (map f xs) = list_all-map f p q xs (λ y m. h y (inr m)) in
    ap (λ v. v && list_all p xs) first ∙ ap (λ v. q (f x) && v) rest

pub list_any-map : {X Y : Type 0} (f : X → Y) (p : X → Bool) (q : Y → Bool) (xs : List X) → ((x : X) → In x xs → p x ≡ q (f x)) → list_any p xs ≡ list_any q (map f xs)
list_any-map f p q [] h = refl
list_any-map f p q (x ∷ xs) h =
    let first : p x ≡ q (f x) = h x (inl refl) in
    let rest : list_any p xs ≡ list_any q (map f xs) = list_any-map f p q xs (λ y m. h y (inr m)) in
    ap (λ v. v || list_any p xs) first ∙ ap (λ v. q (f x) || v) rest

-- two lists with equal images of a function that tells their members apart are equal
pub map-injective : {X Y : Type 0} (f : X → Y) (xs ys : List X) → ((x y : X) → In x xs → In y ys → f x ≡ f y → x ≡ y) → map f xs ≡ map f ys → xs ≡ ys
map-injective f [] [] h e = refl
map-injective f [] (y ∷ ys) h e = cc
map-injective f (x ∷ xs) [] h e = cc
map-injective f (x ∷ xs) (y ∷ ys) h e =
    let first : f x ≡ f y = cc in
    let rest : map f xs ≡ map f ys = cc in
    let a : x ≡ y = h x y (inl refl) (inl refl) first in
    let b : xs ≡ ys = map-injective f xs ys (λ v w m n. h v w (inr m) (inr n)) rest in
    cc
