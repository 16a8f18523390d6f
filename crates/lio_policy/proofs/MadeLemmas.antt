-- On lists in which nothing fails, and what is made of their items.
use Rattle.std.proofs.Common.{◌≡◌, ◌≢◌, ◌∙◌, ℕ, suc, ◌+◌, ◌<◌, ◌≤◌, Bool, true, false, ◌||◌, nat_lt, if◌then◌else◌, List, [], ◌∷◌, ◌++◌, length, map, sum_by, All, Option, Some, None, option_map, option_and_then, is_none, is_some, refl, sym, ap, subst, arith, append_assoc, length-append}
use Rattle.std.specs.List.{filter_map, cons_option}
use Rattle.std.proofs.lemmas.List.{append-nil}
use Rattle.std.proofs.lemmas.List.Elements.{All-nil, All-cons, All-head, All-tail, All-push}
use Rattle.std.proofs.lemmas.List.Sums.{sum_by-cons}
use Rattle.std.proofs.lemmas.List.Quantifiers.{all_pairs_push}
use borrow.Author.Tests.{ltb-true}
use Rattle.lio_clauses.specs.Names.{AreNames, number_of, name_fault}
use Rattle.lio_clauses.specs.Refusal.{refusal, refusal_by_place}
use Rattle.lio_clauses.specs.declared.faults.NameFault.TheVariants.{TooMany}
use Rattle.lio_clauses.proofs.NameLemmas.{others-None, AreNames-push}
use Rattle.lio_policy_draft.specs.Converted.{first_failing, unmade}
use Rattle.lio_policy_draft.specs.Failing.{Failing, entries}
use Rattle.lio_policy.specs.Rules.{behind, principal_fails, key_fails, is_past}
use Rattle.lio_policy.specs.Policy.{AreKeys}

-- none of these fails
abbrev pub NoneFails : List Bool → Type 0
NoneFails [] = Unit {0}
NoneFails (b ∷ bs) = (b ≡ false) × NoneFails bs

pub none_fails : (k : ℕ) (bs : List Bool) → first_failing k bs ≡ None → NoneFails bs
none_fails k [] h = tt
none_fails k (true ∷ bs) h = absurd (cc)
none_fails k (false ∷ bs) h = (refl, none_fails (k + 1) bs h)

none_left : (xs ys : List Bool) → NoneFails (xs ++ ys) → NoneFails xs
none_left [] ys h = tt
none_left (x ∷ xs) ys h = (h.0, none_left xs ys h.1)

none_right : (xs ys : List Bool) → NoneFails (xs ++ ys) → NoneFails ys
none_right [] ys h = h
none_right (x ∷ xs) ys h = none_right xs ys h.1

-- nothing fails in any list of entries
pub record NothingFails (f : Failing) : Type 0 where
  pub document : f.document ≡ false
  pub principals : NoneFails f.principals
  pub channels : NoneFails f.channels
  pub inputs : NoneFails f.inputs
  pub tasks : NoneFails f.tasks

pub nothing_fails : (f : Failing) → first_failing 0 (entries f) ≡ None → NothingFails f
nothing_fails f h =
    let all : NoneFails (f.document ∷ (f.principals ++ (f.channels ++ (f.inputs ++ f.tasks)))) = none_fails 0 (entries f) h in
    let lists = none_right f.principals (f.channels ++ (f.inputs ++ f.tasks)) all.1 in
    let last = none_right f.channels (f.inputs ++ f.tasks) lists in record {
      document = all.0;
      principals = none_left f.principals (f.channels ++ (f.inputs ++ f.tasks)) all.1;
      channels = none_left f.channels (f.inputs ++ f.tasks) lists;
      inputs = none_left f.inputs f.tasks last;
      tasks = none_right f.inputs f.tasks last;
    }

-- what an option holds that comes of another
pub mapped : {A B : Type 0} (f : A → B) (o : Option A) (y : B) → option_map f o ≡ Some y → (x : A) × (o ≡ Some x) × (f x ≡ y)
mapped f None y h = absurd (cc)
mapped f (Some x) y h = (x, refl, cc)

pub chained : {A B : Type 0} (f : A → Option B) (o : Option A) (y : B) → option_and_then f o ≡ Some y → (x : A) × (o ≡ Some x) × (f x ≡ Some y)
chained f None y h = absurd (cc)
chained f (Some x) y h = (x, refl, h)

some_of : {A : Type 0} (o : Option A) → is_none o ≡ false → (x : A) × (o ≡ Some x)
some_of None h = absurd (cc)
some_of (Some x) h = (x, refl)

pub none_of_test : {A : Type 0} (o : Option A) → is_some o ≡ false → o ≡ None
none_of_test None h = refl
none_of_test (Some x) h = absurd (cc)

or_false : (a b : Bool) → (a || b) ≡ false → (a ≡ false) × (b ≡ false)
or_false true b h = absurd (cc)
or_false false b h = (refl, h)

pub neither : (a b : Bool) → (a || b) ≡ false → (a ≡ false) × (b ≡ false)
neither = or_false

-- ---- what is made of all items

-- a property of what is made, of a property of the items
pub made_all : {X Y : Type 0} (make : X → Option Y) (Q : X → Type 0) (P : Y → Type 0) → ((x : X) (y : Y) → Q x → make x ≡ Some y → P y) → (xs : List X) → All Q xs → All P (filter_map make xs)
made_all make Q P each [] h = All-nil P
made_all {Y = Y} make Q P each (x ∷ xs) h = by (make x) refl (made_all make Q P each xs (All-tail Q x xs h))
  where
    by : (o : Option Y) → make x ≡ o → All P (filter_map make xs) → All P (cons_option o (filter_map make xs))
    by None e rest = rest
    by (Some y) e rest = All-cons P y (filter_map make xs) (each x y (All-head Q x xs h) e) rest

-- what is read off each, where something is made of each item
pub made_map : {X Y Z : Type 0} (make : X → Option Y) (f : Y → Z) (g : X → Z) → ((x : X) (y : Y) → make x ≡ Some y → f y ≡ g x) → (xs : List X) → NoneFails (unmade make xs) → map f (filter_map make xs) ≡ map g xs
made_map make f g each [] h = refl
made_map make f g each (x ∷ xs) h =
    let it = some_of (make x) h.0 in
    ap (λ o. map f (cons_option o (filter_map make xs))) it.1 ∙ ap (λ z. z ∷ map f (filter_map make xs)) (each x it.0 it.1) ∙ ap (λ zs. g x ∷ zs) (made_map make f g each xs h.1)

pub made_length : {X Y : Type 0} (make : X → Option Y) (xs : List X) → NoneFails (unmade make xs) → length (filter_map make xs) ≡ length xs
made_length make [] h = refl
made_length make (x ∷ xs) h =
    let it = some_of (make x) h.0 in
    ap (λ o. length (cons_option o (filter_map make xs))) it.1 ∙ ap (λ n. suc n) (made_length make xs h.1)

pub made_sum : {X Y : Type 0} (make : X → Option Y) (f : Y → ℕ) (g : X → ℕ) → ((x : X) (y : Y) → make x ≡ Some y → f y ≡ g x) → (xs : List X) → NoneFails (unmade make xs) → sum_by f (filter_map make xs) ≡ sum_by g xs
made_sum make f g each [] h = refl
made_sum make f g each (x ∷ xs) h =
    let it = some_of (make x) h.0 in
    ap (λ o. sum_by f (cons_option o (filter_map make xs))) it.1 ∙ sum_by-cons f it.0 (filter_map make xs)
    ∙ ap (λ n. n + sum_by f (filter_map make xs)) (each x it.0 it.1) ∙ ap (λ n. g x + n) (made_sum make f g each xs h.1) ∙ sym (sum_by-cons g x xs)

-- a test that no item fails
pub none_map : {X : Type 0} (fails : X → Bool) (xs : List X) → NoneFails (map fails xs) → All (λ x. fails x ≡ false) xs
none_map fails [] h = All-nil (λ x. fails x ≡ false)
none_map fails (x ∷ xs) h = All-cons (λ x. fails x ≡ false) x xs h.0 (none_map fails xs h.1)

-- ---- items behind others

-- keys that are each behind those before them, behind keys
pub keys_behind : (bad : List ℕ → Bool) (before keys : List (List ℕ)) → NoneFails (behind (key_fails bad) before keys) → AreKeys (λ key. bad key ≡ false) before → AreKeys (λ key. bad key ≡ false) (before ++ keys)
keys_behind bad before [] none old = subst (AreKeys (λ key. bad key ≡ false)) (sym (append-nil before)) old
keys_behind bad before (key ∷ keys) none old =
    let fine = or_false (bad key) (is_some (number_of before key)) none.0 in
    let absent = none_of_test (number_of before key) fine.1 in
    let more : AreKeys (λ key. bad key ≡ false) (before ++ key ∷ []) = record {
      each = All-push (λ key. bad key ≡ false) before key old.each fine.0;
      distinct = all_pairs_push (λ key other. key ≢ other) before key old.distinct (others-None before key absent);
    } in
    subst (AreKeys (λ key. bad key ≡ false)) (append_assoc before (key ∷ []) keys) (keys_behind bad (before ++ key ∷ []) keys none.1 more)

pub no_keys : (IsKey : List ℕ → Type 0) → AreKeys IsKey []
no_keys IsKey = record { each = All-nil IsKey; distinct = λ i j d h k. absurd (omega arith) }

-- at most so many items
pub few_behind : {X : Type 0} (most : ℕ) (before xs : List X) → NoneFails (behind (is_past most) before xs) → length before ≤ most → length (before ++ xs) ≤ most
few_behind most before [] none few = subst (λ ys. length ys ≤ most) (sym (append-nil before)) few
few_behind most before (x ∷ xs) none few =
    let room : length before < most = grind (arith, none.0) in
    let more : length (before ++ x ∷ []) ≤ most = omega (arith, length-append before (x ∷ [])) in
    subst (λ ys. length ys ≤ most) (append_assoc before (x ∷ []) xs) (few_behind most (before ++ x ∷ []) xs none.1 more)

-- ---- principals

admitted : (names : List (List ℕ)) (number place : Option ℕ) → refusal_by_place names number place ≡ None → (place ≡ None) × (number ≡ None) × (length names < 64)
admitted names number (Some place) h = absurd (cc)
admitted names (Some number) None h = absurd (cc)
admitted names None None h = (refl, refl, by (nat_lt (length names) 64) refl)
  where
    by : (b : Bool) → nat_lt (length names) 64 ≡ b → length names < 64
    by true e = ltb-true (length names) 64 e
    by false e = let many : Some TooMany ≡ None = sym (ap (λ c. if c then None else Some TooMany) e) ∙ h in absurd (cc)

-- principals that are each behind those before them, behind names
pub names_behind : (before names : List (List ℕ)) → NoneFails (behind principal_fails before names) → AreNames before → AreNames (before ++ names)
names_behind before [] none old = subst AreNames (sym (append-nil before)) old
names_behind before (name ∷ names) none old =
    let new = admitted before (number_of before name) (name_fault name) (none_of_test (refusal before name) none.0) in
    subst AreNames (append_assoc before (name ∷ []) names) (names_behind (before ++ name ∷ []) names none.1 (AreNames-push before name old new.0 new.1 new.2))

pub no_names : AreNames []
no_names = record { each = All-nil (λ name. name_fault name ≡ None); distinct = λ i j d h k. absurd (omega arith); count = omega arith }
