-- Parts that are found, one behind another.
use Rattle.std.proofs.Common.{◌≡◌, ℕ, List, ◌++◌, drop, refl, ap, sym, ◌∙◌, append_assoc, codes}
use Rattle.std.proofs.Common.{subst, Option, Some, None, Result, Ok, Err}
use Rattle.std.specs.Prelude.{IfOk, MatchResult}
use Rattle.lio_events_reading.specs.Reading.{Ends, Finds, FindsBefore}
use Rattle.lio_events_reading.specs.Cut.{IsWord}

-- three parts and what stands behind them, from the left
pub regroup3 : (a b c rest : List ℕ) → ((a ++ b) ++ c) ++ rest ≡ a ++ (b ++ (c ++ rest))
regroup3 a b c rest = append_assoc (a ++ b) c rest ∙ append_assoc a b (c ++ rest)

-- two values, each behind a blank
pub finds_two : {A B : Type 0} (text : A → List ℕ) (over : A → Type 0) (text' : B → List ℕ) (over' : B → Type 0) (old one : List ℕ) (first : A) (mid two : List ℕ) (second : B) (left : List ℕ)
    → one ≡ drop 1 old → Finds text over one first mid → two ≡ drop 1 mid → Finds text' over' two second left
    → Finds {A = A × B} (λ both. codes " " ++ text both.0 ++ codes " " ++ text' both.1) (λ both. over both.0 × over' both.1) old (first, second) left
finds_two text over text' over' old one first mid two second left d finds d' finds' both rest o e is =
    let blank : List ℕ = codes " " in
    let here : one ≡ text both.0 ++ (blank ++ (text' both.1 ++ rest)) = d ∙ ap (λ bytes. drop 1 bytes) is ∙ regroup3 (text both.0) blank (text' both.1) rest in
    let a = finds both.0 (blank ++ (text' both.1 ++ rest)) o.0 refl here in
    let b = finds' both.1 rest o.1 e (d' ∙ ap (λ bytes. drop 1 bytes) a.1) in
    let same : (first, second) ≡ (both.0, both.1) = ap (λ x. (x, second)) a.0 ∙ ap (λ y. (both.0, y)) b.0 in
    (same, b.1)

-- a value whose text begins with a sign of its own, so that no blank is taken before it
pub finds_then : {A B : Type 0} (text : A → List ℕ) (over : A → Type 0) (text' : B → List ℕ) (over' : B → Type 0) (old : List ℕ) (first : A) (mid : List ℕ) (second : B) (left : List ℕ)
    → Finds text over old first mid → Finds text' over' mid second left
    → (one : A) (other : B) (rest : List ℕ) → over one → over' other → Ends (text' other ++ rest) → Ends rest → old ≡ (text one ++ text' other) ++ rest
    → (first ≡ one) × (second ≡ other) × (left ≡ rest)
finds_then text over text' over' old first mid second left finds finds' one other rest o p begins e is =
    let a = finds one (text' other ++ rest) o begins (is ∙ append_assoc (text one) (text' other) rest) in
    let b = finds' other rest p e a.1 in
    (a.0, b.0, b.1)

-- What begins with a word of its own: which words there are, how a word is known, and what stands behind it.
pub record Begins {A T : Type 0} (text behind : A → List ℕ) (tag : A → T) (spelled : T → List ℕ) (known : List ℕ → Option T) : Type 0 where
  pub is_word : (t : T) → IsWord (spelled t)
  pub is_known : (t : T) → known (spelled t) ≡ Some t
  pub split : (value : A) → text value ≡ spelled (tag value) ++ behind value
  pub ends : (value : A) (rest : List ℕ) → Ends rest → Ends (behind value ++ rest)

-- the word is the value's, and what is left stands behind it
pub begun : {A T : Type 0} {text behind : A → List ℕ} {tag : A → T} {spelled : T → List ℕ} {known : List ℕ → Option T} → Begins text behind tag spelled known
    → (old word mid : List ℕ) → Finds (λ word. word) IsWord old word mid → (value : A) (rest : List ℕ) → Ends rest → old ≡ text value ++ rest
    → (known word ≡ Some (tag value)) × (mid ≡ behind value ++ rest)
begun {text} {behind} {tag} {spelled} {known} b old word mid finds value rest e is =
    let here : old ≡ spelled (tag value) ++ (behind value ++ rest) = is ∙ ap (λ xs. xs ++ rest) (b.split value) ∙ append_assoc (spelled (tag value)) (behind value) rest in
    let cut = finds (spelled (tag value)) (behind value ++ rest) (b.is_word (tag value)) (b.ends value rest e) here in
    (ap known cut.0 ∙ b.is_known (tag value), cut.1)

-- the value is that which was found behind the word
pub finds_by_word : {A T : Type 0} {text behind : A → List ℕ} {tag : A → T} {spelled : T → List ℕ} {known : List ℕ → Option T} (over : A → Type 0) → Begins text behind tag spelled known
    → (old word mid : List ℕ) (t : T) (found : A) (left : List ℕ) → Finds (λ word. word) IsWord old word mid → known word ≡ Some t
    → Finds behind (λ value. over value × (tag value ≡ t)) mid found left → Finds text over old found left
finds_by_word {tag = tag} over b old word mid t found left finds is_t finds' value rest o e is =
    let cut = begun b old word mid finds value rest e is in
    let same : Some (tag value) ≡ Some t = sym cut.0 ∙ is_t in
    finds' value rest (o, (cc)) e cut.1

pub finds_no_word : {A T : Type 0} {text behind : A → List ℕ} {tag : A → T} {spelled : T → List ℕ} {known : List ℕ → Option T} (over : A → Type 0) → Begins text behind tag spelled known
    → (old word mid : List ℕ) (found : A) (left : List ℕ) → Finds (λ word. word) IsWord old word mid → known word ≡ None → Finds text over old found left
finds_no_word {tag = tag} over b old word mid found left finds is_none value rest o e is =
    let cut = begun b old word mid finds value rest e is in
    let same : Some (tag value) ≡ None = sym cut.0 ∙ is_none in
    absurd (cc)

-- the same where a sign stands behind the text
pub finds_before_by_word : {A T : Type 0} {text behind : A → List ℕ} {tag : A → T} {spelled : T → List ℕ} {known : List ℕ → Option T} (over : A → Type 0) → Begins text behind tag spelled known
    → (sign old word mid : List ℕ) (t : T) (found : A) (left : List ℕ) → ((rest : List ℕ) → Ends (sign ++ rest)) → Finds (λ word. word) IsWord old word mid → known word ≡ Some t
    → FindsBefore sign behind (λ value. over value × (tag value ≡ t)) mid found left → FindsBefore sign text over old found left
finds_before_by_word {tag = tag} over b sign old word mid t found left ends finds is_t finds' value rest o is =
    let cut = begun b old word mid finds value (sign ++ rest) (ends rest) is in
    let same : Some (tag value) ≡ Some t = sym cut.0 ∙ is_t in
    finds' value rest (o, (cc)) cut.1

pub finds_before_no_word : {A T : Type 0} {text behind : A → List ℕ} {tag : A → T} {spelled : T → List ℕ} {known : List ℕ → Option T} (over : A → Type 0) → Begins text behind tag spelled known
    → (sign old word mid : List ℕ) (found : A) (left : List ℕ) → ((rest : List ℕ) → Ends (sign ++ rest)) → Finds (λ word. word) IsWord old word mid → known word ≡ None → FindsBefore sign text over old found left
finds_before_no_word {tag = tag} over b sign old word mid found left ends finds is_none value rest o is =
    let cut = begun b old word mid finds value (sign ++ rest) (ends rest) is in
    let same : Some (tag value) ≡ None = sym cut.0 ∙ is_none in
    absurd (cc)

-- what holds of a value that was got beside one that was kept
pub got_beside : {T U E : Type 0} (P : U → Type 0) (got : Result U E) (kept k : T) (u : U)
    → MatchResult got (λ v. ◌≡◌ {A = Result (T × U) E} (Ok (k, u)) (Ok (kept, v))) (λ e. ◌≡◌ {A = Result (T × U) E} (Ok (k, u)) (Err e)) → IfOk got P → P u
got_beside {T = T} {U = U} {E = E} P (Ok v) kept k u h p =
    let e : ◌≡◌ {A = Result (T × U) E} (Ok (k, u)) (Ok (kept, v)) = h in
    let q : ◌≡◌ {A = T × U} (k, u) (kept, v) = cc in
    subst P (sym (ap (λ (w : T × U). w.1) q)) p
got_beside {T = T} {U = U} {E = E} P (Err e) kept k u h p =
    let same : ◌≡◌ {A = Result (T × U) E} (Ok (k, u)) (Err e) = h in absurd (cc)

pub both_beside : {T U E : Type 0} (P : T → Type 0) (Q : U → Type 0) (got : Result U E) (kept : T) (result : Result (T × U) E)
    → MatchResult got (λ v. ◌≡◌ {A = Result (T × U) E} result (Ok (kept, v))) (λ e. ◌≡◌ {A = Result (T × U) E} result (Err e)) → P kept → IfOk got Q → IfOk result (λ both. P both.0 × Q both.1)
both_beside {T = T} {U = U} {E = E} P Q (Ok v) kept result h p q = subst (λ (r : Result (T × U) E). IfOk r (λ both. P both.0 × Q both.1)) (sym h) (p, q)
both_beside {T = T} {U = U} {E = E} P Q (Err e) kept result h p q = subst (λ (r : Result (T × U) E). IfOk r (λ both. P both.0 × Q both.1)) (sym h) tt
