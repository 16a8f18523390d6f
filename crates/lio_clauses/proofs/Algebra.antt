-- The laws of implication, canonical form, conjunction and disjunction.
use Rattle.std.proofs.Common.{◌≡◌, ℕ, ◌<◌, Bool, ◌&&◌, ◌||◌, inl, inr, List, [], ◌∷◌, ◌++◌, length, IsTrue, All, refl, sym, ◌∙◌, ap}
use Rattle.std.proofs.Math.Bool.{and_comm, or_comm, and_assoc, or_assoc, and_self, or_self}
use Rattle.std.proofs.lemmas.Bool.{true≢false, and_parts, and_from, or_cases, or_left, or_right}
use Rattle.lio_clauses.specs.Satisfaction.{sat}
use Rattle.lio_clauses.specs.Implication.{named, implies}
use Rattle.lio_clauses.specs.Canonical.{IsCanonical, canonical_of, and, or}
use Rattle.lio_clauses.specs.FormulaPrint.{AreNamed}
use Rattle.lio_clauses.specs.Laws.{ImplicationIsTested, ImplicationIsReflexive, ImplicationIsTransitive, ImplicationIsAntisymmetric, ImplicationIsByClauses, FalsityIsLeast, TruthIsGreatest, CanonicalFormIsUnique, CanonicalFormIsCanonical, CanonicalFormMeansTheSame, CanonicalFormOfCanonical, ConjunctionIsCanonical, ConjunctionMeansBoth, DisjunctionIsCanonical, DisjunctionMeansEither, ConjunctionImpliesLeft, ConjunctionImpliesRight, ConjunctionIsGreatest, LeftImpliesDisjunction, RightImpliesDisjunction, DisjunctionIsLeast, ConjunctionIsCommutative, ConjunctionIsAssociative, ConjunctionIsIdempotent, DisjunctionIsCommutative, DisjunctionIsAssociative, DisjunctionIsIdempotent, ConjunctionIsNamed, DisjunctionIsNamed}
use Rattle.lio_clauses.proofs.Members.{In, In-append_cases, All-In, In-All, Contains-from_In, In-from_Contains, same_tests}
use Rattle.lio_clauses.proofs.Subsets.{set_of-In, In-set_of, within-at, within-by}
use Rattle.lio_clauses.proofs.Sublists.{sublists-members}
use Rattle.lio_clauses.proofs.Implied.{named-parts, implies-Implies, Implies-implies, Implies-clause, clause-Implies, Implies-at, Implies-by}
use Rattle.lio_clauses.proofs.Minimal.{canonical-unique, canonical_of-sublist}
use Rattle.lio_clauses.proofs.WithoutLemmas.{without_is_canonical, without_is_shorter, without_is_named, without_is_implied, without_is_made_up}
use Rattle.lio_clauses.proofs.Forms.{sat-canonical, sat-and, sat-or, IsCanonical-canonical, IsCanonical-and, IsCanonical-or, canonical-itself}

-- implication

pub implication_is_tested : ImplicationIsTested
implication_is_tested A B = (implies-Implies A B, Implies-implies A B)

pub implication_is_reflexive : ImplicationIsReflexive
implication_is_reflexive A = Implies-implies A A (λ who s. s)

pub implication_is_transitive : ImplicationIsTransitive
implication_is_transitive A B C h k = Implies-implies A C (λ who s. implies-Implies B C k who (implies-Implies A B h who s))

pub implication_is_antisymmetric : ImplicationIsAntisymmetric
implication_is_antisymmetric A B a b h k =
    canonical-unique A B a b (λ who. same_tests (sat who A) (sat who B) (implies-Implies A B h who) (implies-Implies B A k who))

pub implication_is_by_clauses : ImplicationIsByClauses
implication_is_by_clauses A B = (
  λ t d m.
      let r = Implies-clause A d (Implies-at A B (implies-Implies A B t) d (In-from_Contains d B m)) in
      (r.0, Contains-from_In r.0 A r.1.0, λ n q. set_of-In n d (within-at r.0 d r.1.1 n (In-set_of n r.0 q))),
  λ h. Implies-implies A B (Implies-by A B (λ d m.
      let r = h d (Contains-from_In d B m) in
      clause-Implies A r.0 d (In-from_Contains r.0 A r.1) (within-by r.0 d (λ n q. In-set_of n d (r.2 n (set_of-In n r.0 q)))))),
)

pub falsity_is_least : FalsityIsLeast
falsity_is_least A = Implies-implies ([] ∷ []) A (λ who s. absurd (true≢false (sym s)))

pub truth_is_greatest : TruthIsGreatest
truth_is_greatest A = Implies-implies A [] (λ who s. refl)

-- the canonical form

pub canonical_form_is_unique : CanonicalFormIsUnique
canonical_form_is_unique A B a b e = canonical-unique A B a b e

pub canonical_form_is_canonical : CanonicalFormIsCanonical
canonical_form_is_canonical A h = IsCanonical-canonical A h

pub canonical_form_means_the_same : CanonicalFormMeansTheSame
canonical_form_means_the_same who A = sat-canonical who A

pub canonical_form_of_canonical : CanonicalFormOfCanonical
canonical_form_of_canonical A a = canonical-itself A a

-- conjunction and disjunction

pub conjunction_is_canonical : ConjunctionIsCanonical
conjunction_is_canonical A B h k = IsCanonical-and A B h k

pub conjunction_means_both : ConjunctionMeansBoth
conjunction_means_both who A B = sat-and who A B

pub disjunction_is_canonical : DisjunctionIsCanonical
disjunction_is_canonical A B h k = IsCanonical-or A B h k

pub disjunction_means_either : DisjunctionMeansEither
disjunction_means_either who A B = sat-or who A B

pub conjunction_implies_left : ConjunctionImpliesLeft
conjunction_implies_left A B = Implies-implies (and A B) A (λ who s. (and_parts (sat who A) (sat who B) (sym (sat-and who A B) ∙ s)).0)

pub conjunction_implies_right : ConjunctionImpliesRight
conjunction_implies_right A B = Implies-implies (and A B) B (λ who s. (and_parts (sat who A) (sat who B) (sym (sat-and who A B) ∙ s)).1)

pub conjunction_is_greatest : ConjunctionIsGreatest
conjunction_is_greatest A B C h k =
    Implies-implies C (and A B) (λ who s. sat-and who A B ∙ and_from (sat who A) (sat who B) (implies-Implies C A h who s) (implies-Implies C B k who s))

pub left_implies_disjunction : LeftImpliesDisjunction
left_implies_disjunction A B = Implies-implies A (or A B) (λ who s. sat-or who A B ∙ or_left (sat who A) (sat who B) s)

pub right_implies_disjunction : RightImpliesDisjunction
right_implies_disjunction A B = Implies-implies B (or A B) (λ who s. sat-or who A B ∙ or_right (sat who A) (sat who B) s)

pub disjunction_is_least : DisjunctionIsLeast
disjunction_is_least A B C h k =
    Implies-implies (or A B) C (λ who s.
    elim (or_cases (sat who A) (sat who B) (sym (sat-or who A B) ∙ s)) [
      | inl t ↦ implies-Implies A C h who t
      | inr t ↦ implies-Implies B C k who t
    ])

pub conjunction_is_commutative : ConjunctionIsCommutative
conjunction_is_commutative A B h k =
    canonical-unique (and A B) (and B A) (IsCanonical-and A B h k) (IsCanonical-and B A k h)
    (λ who. sat-and who A B ∙ and_comm (sat who A) (sat who B) ∙ sym (sat-and who B A))

pub conjunction_is_associative : ConjunctionIsAssociative
conjunction_is_associative A B C h k l =
    let ab = IsCanonical-and A B h k in
    let bc = IsCanonical-and B C k l in
    canonical-unique (and (and A B) C) (and A (and B C)) (IsCanonical-and (and A B) C ab.clauses l) (IsCanonical-and A (and B C) h bc.clauses)
    (λ who. sat-and who (and A B) C ∙ ap (λ v. v && sat who C) (sat-and who A B)
    ∙ and_assoc (sat who A) (sat who B) (sat who C)
    ∙ ap (λ v. sat who A && v) (sym (sat-and who B C)) ∙ sym (sat-and who A (and B C)))

pub conjunction_is_idempotent : ConjunctionIsIdempotent
conjunction_is_idempotent A a = canonical-unique (and A A) A (IsCanonical-and A A a.clauses a.clauses) a (λ who. sat-and who A A ∙ and_self (sat who A))

pub disjunction_is_commutative : DisjunctionIsCommutative
disjunction_is_commutative A B h k =
    canonical-unique (or A B) (or B A) (IsCanonical-or A B h k) (IsCanonical-or B A k h)
    (λ who. sat-or who A B ∙ or_comm (sat who A) (sat who B) ∙ sym (sat-or who B A))

pub disjunction_is_associative : DisjunctionIsAssociative
disjunction_is_associative A B C h k l =
    let ab = IsCanonical-or A B h k in
    let bc = IsCanonical-or B C k l in
    canonical-unique (or (or A B) C) (or A (or B C)) (IsCanonical-or (or A B) C ab.clauses l) (IsCanonical-or A (or B C) h bc.clauses)
    (λ who. sat-or who (or A B) C ∙ ap (λ v. v || sat who C) (sat-or who A B)
    ∙ or_assoc (sat who A) (sat who B) (sat who C)
    ∙ ap (λ v. sat who A || v) (sym (sat-or who B C)) ∙ sym (sat-or who A (or B C)))

pub disjunction_is_idempotent : DisjunctionIsIdempotent
disjunction_is_idempotent A a = canonical-unique (or A A) A (IsCanonical-or A A a.clauses a.clauses) a (λ who. sat-or who A A ∙ or_self (sat who A))

-- of two canonical formulas of which one implies the other, that one is the conjunction, and the other the disjunction

pub conjunction_with_implied : (A B : List (List ℕ)) → IsCanonical A → IsCanonical B → IsTrue (implies A B) → A ≡ and A B
conjunction_with_implied A B a b h =
    canonical-unique A (and A B) a (IsCanonical-and A B a.clauses b.clauses) (λ who. same_tests (sat who A) (sat who (and A B))
    (λ s. implies-Implies A (and A B) (conjunction_is_greatest A B A (implication_is_reflexive A) h) who s)
    (λ s. implies-Implies (and A B) A (conjunction_implies_left A B) who s))

pub disjunction_with_implied : (A B : List (List ℕ)) → IsCanonical A → IsCanonical B → IsTrue (implies A B) → B ≡ or A B
disjunction_with_implied A B a b h =
    canonical-unique B (or A B) b (IsCanonical-or A B a.clauses b.clauses) (λ who. same_tests (sat who B) (sat who (or A B))
    (λ s. implies-Implies B (or A B) (right_implies_disjunction A B) who s)
    (λ s. implies-Implies (or A B) B (disjunction_is_least A B B h (implication_is_reflexive B)) who s))

-- the principals of what is made are principals of what it is made of

named-at : (names A : List (List ℕ)) → AreNamed names A → (c : List ℕ) → In c A → (n : ℕ) → In n c → n < length names
named-at names A h c m n i = All-In (λ n. n < length names) c (All-In (λ c. All (λ n. n < length names) c) A h c m) n i

named-both : (names A B : List (List ℕ)) (passes : (ℕ → Bool) → Bool) → AreNamed names A → AreNamed names B → AreNamed names (canonical_of (named (A ++ B)) passes)
named-both names A B passes h k =
    In-All (λ c. All (λ n. n < length names) c) (canonical_of (named (A ++ B)) passes) (λ c m. In-All (λ n. n < length names) c (λ n i.
    let p = named-parts (A ++ B) n (sublists-members c (named (A ++ B)) (canonical_of-sublist (named (A ++ B)) passes c m) n i) in
    elim (In-append_cases p.0 A B p.1.0) [
      | inl a ↦ named-at names A h p.0 a n p.1.1
      | inr b ↦ named-at names B k p.0 b n p.1.1
    ]))

pub conjunction_is_named : ConjunctionIsNamed
unfolding and
conjunction_is_named names A B h k = named-both names A B (λ who. sat who A && sat who B) h k

pub disjunction_is_named : DisjunctionIsNamed
unfolding or
disjunction_is_named names A B h k = named-both names A B (λ who. sat who A || sat who B) h k

-- all of them, for the functions whose contracts they are
pub ruleset laws = (
  implication_is_tested,
  implication_is_reflexive,
  implication_is_transitive,
  implication_is_antisymmetric,
  implication_is_by_clauses,
  falsity_is_least,
  truth_is_greatest,
  canonical_form_is_unique,
  canonical_form_is_canonical,
  canonical_form_means_the_same,
  canonical_form_of_canonical,
  conjunction_is_canonical,
  conjunction_means_both,
  disjunction_is_canonical,
  disjunction_means_either,
  conjunction_implies_left,
  conjunction_implies_right,
  conjunction_is_greatest,
  left_implies_disjunction,
  right_implies_disjunction,
  disjunction_is_least,
  conjunction_is_commutative,
  conjunction_is_associative,
  conjunction_is_idempotent,
  disjunction_is_commutative,
  disjunction_is_associative,
  disjunction_is_idempotent,
  conjunction_is_named,
  disjunction_is_named,
  without_is_canonical,
  without_is_shorter,
  without_is_named,
  without_is_implied,
  without_is_made_up,
)
