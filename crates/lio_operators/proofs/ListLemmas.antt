-- Lists that operators make: their measures, and what an observer sees of them.
use Rattle.std.proofs.Common.{◌≡◌, ◌∙◌, ℕ, zero, suc, ◌+◌, ◌-◌, ◌^◌, ◌<◌, ◌≤◌, ◌&&◌, Bool, true, false, List, [], ◌∷◌, ◌++◌, max, take, drop, map, get_or, length, refl, ap, sym, arith, append_assoc, append-nil, Option, Some, None, ℤ, Ok, Err, if◌then◌else◌}
use Rattle.std.specs.Prelude.{nat_lt, nat_le, min, pos, negsuc, slice_get}
use Rattle.std.specs.Option.{option_map}
use Rattle.std.proofs.lemmas.Bool.Decides.{nat_tests}
use Rattle.std.proofs.lemmas.List.{take_all, take_more}
use Rattle.lio_labels.specs.declared.label.Label.{Label}
use Rattle.lio_values.specs.declared.value.Plain.TheVariants.{Items}
use Rattle.lio_values.specs.declared.value.Value.{Value}
use Rattle.lio_values.specs.declared.value.Value.TheVariants.{Bare}
use Rattle.lio_values.specs.declared.fault.FaultKind.TheVariants.{TooLong}
use Rattle.lio_values.specs.Forest.{Forest, item_depth, deepest}
use Rattle.lio_values.specs.Measures.{item_size, items_size, item_seals, items_seals}
use Rattle.lio_values.specs.Erasure.{erase_forest, erase_value}
use Rattle.lio_values.specs.Views.{item_of, forest_of, values_of, forest_of-values_of, values_of-forest_of}
use Rattle.lio_values.proofs.ItemsLemmas.{erased-items, erased-deepest}
use Rattle.lio_values.proofs.ErasedMeasures.{erased-values, erased-size, erased-seals}
use Rattle.lio_operators.specs.Lists.{list, may_be_made, made_list, found, value_at}
use Rattle.lio_operators.specs.Laws.{hide_result}

-- ---- what one list and then another measures

deepest-append : (xs ys : List Value) → deepest (forest_of (xs ++ ys)) ≡ max (deepest (forest_of xs)) (deepest (forest_of ys))
deepest-append [] ys = omega arith
deepest-append (x ∷ xs) ys = omega (arith, deepest-append xs ys)

size-append : (xs ys : List Value) → items_size (forest_of (xs ++ ys)) ≡ items_size (forest_of xs) + items_size (forest_of ys)
size-append [] ys = omega arith
size-append (x ∷ xs) ys = omega (arith, size-append xs ys)

seals-append : (xs ys : List Value) → items_seals (forest_of (xs ++ ys)) ≡ items_seals (forest_of xs) + items_seals (forest_of ys)
seals-append [] ys = omega arith
seals-append (x ∷ xs) ys = omega (arith, seals-append xs ys)

-- a count that stops at the greatest number tells whether the sum is small
capped : (a b s t longest : ℕ) → s ≡ min (min a (2 ^ 64 - 1) + min b (2 ^ 64 - 1)) (2 ^ 64 - 1) → t ≡ a + b → longest < 2 ^ 32 → nat_le (s + 1) longest ≡ nat_le (t + 1) longest
capped a b s t longest sum is few = grind (arith, nat_tests)

capped-seals : (a b s t : ℕ) → s ≡ min (min a (2 ^ 64 - 1) + min b (2 ^ 64 - 1)) (2 ^ 64 - 1) → t ≡ a + b → nat_le s 4 ≡ nat_le t 4
capped-seals a b s t sum is = grind (arith, nat_tests)

module _ (longest deep size seals : ℕ) (few : longest < 2 ^ 32) where
  -- whether the one list and then the other may be made
  pub joined-made : (a b : Forest) → deep ≡ max (deepest a) (deepest b) → size ≡ min (min (items_size a) (2 ^ 64 - 1) + min (items_size b) (2 ^ 64 - 1)) (2 ^ 64 - 1)
      → seals ≡ min (min (items_seals a) (2 ^ 64 - 1) + min (items_seals b) (2 ^ 64 - 1)) (2 ^ 64 - 1)
      → (nat_lt deep 8 && (nat_le (size + 1) longest && nat_le seals 4)) ≡ may_be_made longest (forest_of (values_of a ++ values_of b))
  joined-made a b depths sizes counts =
      let first : forest_of (values_of a) ≡ a = forest_of-values_of a in
      let second : forest_of (values_of b) ≡ b = forest_of-values_of b in
      let whole : Forest = forest_of (values_of a ++ values_of b) in
      let depth : deepest whole ≡ max (deepest a) (deepest b) = deepest-append (values_of a) (values_of b) ∙ (λ i. max (deepest (first i)) (deepest (second i))) in
      let large : items_size whole ≡ items_size a + items_size b = size-append (values_of a) (values_of b) ∙ (λ i. items_size (first i) + items_size (second i)) in
      let count : items_seals whole ≡ items_seals a + items_seals b = seals-append (values_of a) (values_of b) ∙ (λ i. items_seals (first i) + items_seals (second i)) in
      let d : nat_lt deep 8 ≡ nat_lt (deepest whole) 8 = ap (λ n. nat_lt n 8) (depths ∙ sym depth) in
      let s : nat_le (size + 1) longest ≡ nat_le (items_size whole + 1) longest = capped (items_size a) (items_size b) size (items_size whole) longest sizes large few in
      let c : nat_le seals 4 ≡ nat_le (items_seals whole) 4 = capped-seals (items_seals a) (items_seals b) seals (items_seals whole) counts count in
      λ i. d i && (s i && c i)

  -- whether a list with a value last may be made
  pub pushed-made : (a : Forest) (value : Value) → deep ≡ max (deepest a) (item_depth (item_of value))
      → size ≡ min (min (items_size a) (2 ^ 64 - 1) + min (item_size (item_of value)) (2 ^ 64 - 1)) (2 ^ 64 - 1)
      → seals ≡ min (min (items_seals a) (2 ^ 64 - 1) + min (item_seals (item_of value)) (2 ^ 64 - 1)) (2 ^ 64 - 1)
      → (nat_lt deep 8 && (nat_le (size + 1) longest && nat_le seals 4)) ≡ may_be_made longest (forest_of (values_of a ++ value ∷ []))
  pushed-made a value depths sizes counts =
      let first : forest_of (values_of a) ≡ a = forest_of-values_of a in
      let whole : Forest = forest_of (values_of a ++ value ∷ []) in
      let depth : deepest whole ≡ max (deepest a) (item_depth (item_of value)) = omega (arith, deepest-append (values_of a) (value ∷ []), ap deepest first) in
      let large : items_size whole ≡ items_size a + item_size (item_of value) = omega (arith, size-append (values_of a) (value ∷ []), ap items_size first) in
      let count : items_seals whole ≡ items_seals a + item_seals (item_of value) = omega (arith, seals-append (values_of a) (value ∷ []), ap items_seals first) in
      let d : nat_lt deep 8 ≡ nat_lt (deepest whole) 8 = ap (λ n. nat_lt n 8) (depths ∙ sym depth) in
      let s : nat_le (size + 1) longest ≡ nat_le (items_size whole + 1) longest = capped (items_size a) (item_size (item_of value)) size (items_size whole) longest sizes large few in
      let c : nat_le seals 4 ≡ nat_le (items_seals whole) 4 = capped-seals (items_seals a) (item_seals (item_of value)) seals (items_seals whole) counts count in
      λ i. d i && (s i && c i)

-- a list that may not be made is refused, and one that may is made
refused : (longest : ℕ) (values : List Value) (test : Bool) → false ≡ test → test ≡ may_be_made longest (forest_of values) → made_list longest values ≡ Err TooLong
refused longest values test tested is = ap (λ (b : Bool). if b then list values else Err TooLong) (sym is ∙ sym tested)

told : (longest : ℕ) (values : List Value) (items : Forest) (test : Bool) → true ≡ test → test ≡ may_be_made longest (forest_of values) → items ≡ forest_of values
    → made_list longest values ≡ Ok (Bare (Items items))
told longest values items test tested is same =
    ap (λ (b : Bool). if b then list values else Err TooLong) (sym is ∙ sym tested) ∙ ap (λ (f : Forest). Ok (Bare (Items f))) (sym same)

module _ (longest : ℕ) (a : Forest) (value : Value) (d e deep s t size m n seals : ℕ) (few : longest < 2 ^ 32) (first : d ≡ deepest a) (second : e ≡ item_depth (item_of value))
    (depth : deep ≡ max d e) (large : s ≡ min (items_size a) (2 ^ 64 - 1)) (small : t ≡ min (item_size (item_of value)) (2 ^ 64 - 1)) (sizes : size ≡ min (s + t) (2 ^ 64 - 1))
    (many : m ≡ min (items_seals a) (2 ^ 64 - 1)) (more : n ≡ min (item_seals (item_of value)) (2 ^ 64 - 1)) (counts : seals ≡ min (m + n) (2 ^ 64 - 1)) where
  made-of-last : (nat_lt deep 8 && (nat_le (size + 1) longest && nat_le seals 4)) ≡ may_be_made longest (forest_of (values_of a ++ value ∷ []))
  made-of-last =
      pushed-made longest deep size seals few a value (depth ∙ (λ i. max (first i) (second i))) (sizes ∙ (λ i. min (large i + small i) (2 ^ 64 - 1)))
      (counts ∙ (λ i. min (many i + more i) (2 ^ 64 - 1)))

  pub pushed-refused : false ≡ (nat_lt deep 8 && (nat_le (size + 1) longest && nat_le seals 4)) → made_list longest (values_of a ++ value ∷ []) ≡ Err TooLong
  pushed-refused tested = refused longest (values_of a ++ value ∷ []) (nat_lt deep 8 && (nat_le (size + 1) longest && nat_le seals 4)) tested made-of-last

  pub pushed-told : (old new : Forest) → true ≡ (nat_lt deep 8 && (nat_le (size + 1) longest && nat_le seals 4)) → old ≡ a → new ≡ forest_of (values_of old ++ value ∷ [])
      → made_list longest (values_of a ++ value ∷ []) ≡ Ok (Bare (Items new))
  pushed-told old new tested same is =
      told longest (values_of a ++ value ∷ []) new (nat_lt deep 8 && (nat_le (size + 1) longest && nat_le seals 4)) tested made-of-last (is ∙ ap (λ (f : Forest). forest_of (values_of f ++ value ∷ [])) same)

module _ (longest : ℕ) (a b : Forest) (d e deep s t size m n seals : ℕ) (few : longest < 2 ^ 32) (first : d ≡ deepest a) (second : e ≡ deepest b)
    (depth : deep ≡ max d e) (large : s ≡ min (items_size a) (2 ^ 64 - 1)) (small : t ≡ min (items_size b) (2 ^ 64 - 1)) (sizes : size ≡ min (s + t) (2 ^ 64 - 1))
    (many : m ≡ min (items_seals a) (2 ^ 64 - 1)) (more : n ≡ min (items_seals b) (2 ^ 64 - 1)) (counts : seals ≡ min (m + n) (2 ^ 64 - 1)) where
  made-of-both : (nat_lt deep 8 && (nat_le (size + 1) longest && nat_le seals 4)) ≡ may_be_made longest (forest_of (values_of a ++ values_of b))
  made-of-both =
      joined-made longest deep size seals few a b (depth ∙ (λ i. max (first i) (second i))) (sizes ∙ (λ i. min (large i + small i) (2 ^ 64 - 1)))
      (counts ∙ (λ i. min (many i + more i) (2 ^ 64 - 1)))

  pub joined-refused : false ≡ (nat_lt deep 8 && (nat_le (size + 1) longest && nat_le seals 4)) → made_list longest (values_of a ++ values_of b) ≡ Err TooLong
  joined-refused tested = refused longest (values_of a ++ values_of b) (nat_lt deep 8 && (nat_le (size + 1) longest && nat_le seals 4)) tested made-of-both

  pub joined-told : (values : List Value) (count : ℕ) (new : Forest) → true ≡ (nat_lt deep 8 && (nat_le (size + 1) longest && nat_le seals 4))
      → new ≡ forest_of (values_of a ++ take count values) → length values ≤ count → values ≡ values_of b
      → made_list longest (values_of a ++ values_of b) ≡ Ok (Bare (Items new))
  joined-told values count new tested is all same =
      told longest (values_of a ++ values_of b) new (nat_lt deep 8 && (nat_le (size + 1) longest && nat_le seals 4)) tested made-of-both (is ∙ ap (λ (xs : List Value). forest_of (values_of a ++ xs)) (take_all count values all ∙ same))

-- a list with nothing behind it is itself
pub joined-none : (a : Forest) → a ≡ forest_of (values_of a ++ [])
joined-none a = sym (ap forest_of (append-nil (values_of a)) ∙ forest_of-values_of a)

-- a list with the values so far behind it, and a copy of the next one last, is that with one value more behind it
pub joined-more : (front values : List Value) (place : ℕ) (value copy : Value) (new old : Forest) → old ≡ forest_of (front ++ take place values)
    → new ≡ forest_of (values_of old ++ copy ∷ []) → copy ≡ value → value ≡ get_or values place value → place < length values
    → new ≡ forest_of (front ++ take (place + 1) values)
joined-more front values place value copy new old before made same is within =
    let so_far : values_of old ≡ front ++ take place values = ap values_of before ∙ values_of-forest_of (front ++ take place values) in
    let last : copy ≡ get_or values place value = same ∙ is in
    made
    ∙ ap forest_of
    ((λ i. so_far i ++ last i ∷ []) ∙ append_assoc front (take place values) (get_or values place value ∷ [])
    ∙ ap (λ xs. front ++ xs) (sym (take_more values place value within)))

-- ---- what an observer sees of a list that is made

map-append : {A B : Type 0} (f : A → B) (xs ys : List A) → map f (xs ++ ys) ≡ map f xs ++ map f ys
map-append f [] ys = refl
map-append f (x ∷ xs) ys = ap (λ rest. f x ∷ rest) (map-append f xs ys)

map-take : {A B : Type 0} (f : A → B) (n : ℕ) (xs : List A) → take n (map f xs) ≡ map f (take n xs)
map-take f zero xs = refl
map-take f (suc n) [] = refl
map-take f (suc n) (x ∷ xs) = ap (λ rest. f x ∷ rest) (map-take f n xs)

map-drop : {A B : Type 0} (f : A → B) (n : ℕ) (xs : List A) → drop n (map f xs) ≡ map f (drop n xs)
map-drop f zero xs = refl
map-drop f (suc n) [] = refl
map-drop f (suc n) (x ∷ xs) = map-drop f n xs

map-get : {A B : Type 0} (f : A → B) (xs : List A) (n : ℕ) → slice_get (map f xs) n ≡ option_map f (slice_get xs n)
map-get f [] n = refl
map-get f (x ∷ xs) zero = refl
map-get f (x ∷ xs) (suc n) = map-get f xs n

module _ (observer : Label) where
  -- a list of erased values is the list as it is seen
  pub list-hidden : (given values : List Value) → given ≡ map (erase_value observer) values → list given ≡ hide_result observer (list values)
  list-hidden given values same = ap (λ items. Ok (Bare (Items items))) (ap forest_of same ∙ erased-items observer values)

  pub made-hidden : (longest : ℕ) (given values : List Value) → given ≡ map (erase_value observer) values → made_list longest given ≡ hide_result observer (made_list longest values)
  made-hidden longest given values same =
      let seen : forest_of given ≡ erase_forest observer (forest_of values) = ap forest_of same ∙ erased-items observer values in
      let depth : deepest (forest_of given) ≡ deepest (forest_of values) = ap deepest seen ∙ erased-deepest observer (forest_of values) in
      let size : items_size (forest_of given) ≡ items_size (forest_of values) = ap items_size seen ∙ erased-size observer (forest_of values) in
      let seals : items_seals (forest_of given) ≡ items_seals (forest_of values) = ap items_seals seen ∙ erased-seals observer (forest_of values) in
      let test : may_be_made longest (forest_of given) ≡ may_be_made longest (forest_of values) =
      λ i. nat_lt (depth i) 8 && (nat_le (size i + 1) longest && nat_le (seals i) 4) in
      ap (λ b. if b then list given else Err TooLong) test ∙ by (may_be_made longest (forest_of values))
    where
      by : (b : Bool) → (if b then list given else Err TooLong) ≡ hide_result observer (if b then list values else Err TooLong)
      by true = list-hidden given values same
      by false = refl

  pub pushed-hidden : (longest : ℕ) (items : Forest) (value : Value)
      → made_list longest (values_of (erase_forest observer items) ++ erase_value observer value ∷ []) ≡ hide_result observer (made_list longest (values_of items ++ value ∷ []))
  pushed-hidden longest items value =
      made-hidden longest _ (values_of items ++ value ∷ [])
      (ap (λ values. values ++ erase_value observer value ∷ []) (erased-values observer items) ∙ sym (map-append (erase_value observer) (values_of items) (value ∷ [])))

  pub joined-hidden : (longest : ℕ) (a b : Forest)
      → made_list longest (values_of (erase_forest observer a) ++ values_of (erase_forest observer b)) ≡ hide_result observer (made_list longest (values_of a ++ values_of b))
  joined-hidden longest a b =
      made-hidden longest _ (values_of a ++ values_of b)
      ((λ i. erased-values observer a i ++ erased-values observer b i) ∙ sym (map-append (erase_value observer) (values_of a) (values_of b)))

  pub taken-hidden : (n : ℕ) (items : Forest) → list (take n (values_of (erase_forest observer items))) ≡ hide_result observer (list (take n (values_of items)))
  taken-hidden n items = list-hidden _ (take n (values_of items)) (ap (take n) (erased-values observer items) ∙ map-take (erase_value observer) n (values_of items))

  pub dropped-hidden : (n : ℕ) (items : Forest) → list (drop n (values_of (erase_forest observer items))) ≡ hide_result observer (list (drop n (values_of items)))
  dropped-hidden n items = list-hidden _ (drop n (values_of items)) (ap (drop n) (erased-values observer items) ∙ map-drop (erase_value observer) n (values_of items))

  pub found-hidden : (items : Forest) (at : ℤ) → found (value_at (values_of (erase_forest observer items)) at) ≡ hide_result observer (found (value_at (values_of items) at))
  found-hidden items (pos place) =
      ap found (ap (λ values. slice_get values place) (erased-values observer items) ∙ map-get (erase_value observer) (values_of items) place)
      ∙ by (slice_get (values_of items) place)
    where
      by : (o : Option Value) → found (option_map (erase_value observer) o) ≡ hide_result observer (found o)
      by (Some value) = refl
      by None = refl
  found-hidden items (negsuc number) = refl

pub ruleset lists = (joined-made, pushed-made)
