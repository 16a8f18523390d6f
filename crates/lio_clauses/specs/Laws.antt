-- The laws of implication, of the canonical form, and of conjunction and disjunction (Disjunction Category Labels, 2011).
use Rattle.std.specs.Prelude.{◌≡◌, ℕ, ◌≤◌, Bool, List, [], ◌∷◌, ◌&&◌, ◌||◌, ◌↔◌, length, IsTrue}
use Rattle.std.specs.List.{list_all, Contains}
use Rattle.lio_clauses.specs.Satisfaction.{sat, set_of}
use Rattle.lio_clauses.specs.Implication.{Implies, ImplyTogether, implies}
use Rattle.lio_clauses.specs.FormulaPrint.{AreNamed}
use Rattle.lio_clauses.specs.Without.{without}
use Rattle.lio_clauses.specs.Canonical.{is_clause, IsCanonical, canonical, and, or}

-- a list of clauses: each is a list of numbers below 64 in rising order
abbrev pub AreClauses : List (List ℕ) → Type 0
AreClauses A = IsTrue (list_all is_clause A)

-- the test of implication and implication over all sets of principals agree
abbrev pub ImplicationIsTested : Type 0
ImplicationIsTested = (A B : List (List ℕ)) → IsTrue (implies A B) ↔ Implies A B

-- a formula implies itself
abbrev pub ImplicationIsReflexive : Type 0
ImplicationIsReflexive = (A : List (List ℕ)) → IsTrue (implies A A)

-- what a formula implies implies in turn, it implies
abbrev pub ImplicationIsTransitive : Type 0
ImplicationIsTransitive = (A B C : List (List ℕ)) → IsTrue (implies A B) → IsTrue (implies B C) → IsTrue (implies A C)

-- canonical formulas that imply each other are equal
abbrev pub ImplicationIsAntisymmetric : Type 0
ImplicationIsAntisymmetric = (A B : List (List ℕ)) → IsCanonical A → IsCanonical B → IsTrue (implies A B) → IsTrue (implies B A) → A ≡ B

-- a formula implies another exactly where each clause of the other contains one of its own
abbrev pub ImplicationIsByClauses : Type 0
ImplicationIsByClauses = (A B : List (List ℕ)) → IsTrue (implies A B)
    ↔ ((d : List ℕ) → Contains B d → (c : List ℕ) × Contains A c × ((n : ℕ) → IsTrue (set_of c n) → IsTrue (set_of d n)))

-- False implies each formula, and each formula implies True
abbrev pub FalsityIsLeast : Type 0
FalsityIsLeast = (A : List (List ℕ)) → IsTrue (implies ([] ∷ []) A)

abbrev pub TruthIsGreatest : Type 0
TruthIsGreatest = (A : List (List ℕ)) → IsTrue (implies A [])

-- two canonical formulas that the same sets satisfy are equal
abbrev pub CanonicalFormIsUnique : Type 0
CanonicalFormIsUnique = (A B : List (List ℕ)) → IsCanonical A → IsCanonical B → ((who : ℕ → Bool) → sat who A ≡ sat who B) → A ≡ B

-- the canonical form is canonical, and the same sets satisfy it; a canonical formula is its own canonical form
abbrev pub CanonicalFormIsCanonical : Type 0
CanonicalFormIsCanonical = (A : List (List ℕ)) → AreClauses A → IsCanonical (canonical A)

abbrev pub CanonicalFormMeansTheSame : Type 0
CanonicalFormMeansTheSame = (who : ℕ → Bool) (A : List (List ℕ)) → sat who (canonical A) ≡ sat who A

abbrev pub CanonicalFormOfCanonical : Type 0
CanonicalFormOfCanonical = (A : List (List ℕ)) → IsCanonical A → canonical A ≡ A

-- the conjunction is canonical, and exactly the sets satisfy it that satisfy both
abbrev pub ConjunctionIsCanonical : Type 0
ConjunctionIsCanonical = (A B : List (List ℕ)) → AreClauses A → AreClauses B → IsCanonical (and A B)

abbrev pub ConjunctionMeansBoth : Type 0
ConjunctionMeansBoth = (who : ℕ → Bool) (A B : List (List ℕ)) → sat who (and A B) ≡ (sat who A && sat who B)

-- the disjunction is canonical, and exactly the sets satisfy it that satisfy at least one
abbrev pub DisjunctionIsCanonical : Type 0
DisjunctionIsCanonical = (A B : List (List ℕ)) → AreClauses A → AreClauses B → IsCanonical (or A B)

abbrev pub DisjunctionMeansEither : Type 0
DisjunctionMeansEither = (who : ℕ → Bool) (A B : List (List ℕ)) → sat who (or A B) ≡ (sat who A || sat who B)

-- the conjunction implies both formulas, and what implies both implies it
abbrev pub ConjunctionImpliesLeft : Type 0
ConjunctionImpliesLeft = (A B : List (List ℕ)) → IsTrue (implies (and A B) A)

abbrev pub ConjunctionImpliesRight : Type 0
ConjunctionImpliesRight = (A B : List (List ℕ)) → IsTrue (implies (and A B) B)

abbrev pub ConjunctionIsGreatest : Type 0
ConjunctionIsGreatest = (A B C : List (List ℕ)) → IsTrue (implies C A) → IsTrue (implies C B) → IsTrue (implies C (and A B))

-- both formulas imply the disjunction, and it implies what both imply
abbrev pub LeftImpliesDisjunction : Type 0
LeftImpliesDisjunction = (A B : List (List ℕ)) → IsTrue (implies A (or A B))

abbrev pub RightImpliesDisjunction : Type 0
RightImpliesDisjunction = (A B : List (List ℕ)) → IsTrue (implies B (or A B))

abbrev pub DisjunctionIsLeast : Type 0
DisjunctionIsLeast = (A B C : List (List ℕ)) → IsTrue (implies A C) → IsTrue (implies B C) → IsTrue (implies (or A B) C)

-- the order and the grouping of formulas make no difference to a conjunction or a disjunction, nor does a repeat
abbrev pub ConjunctionIsCommutative : Type 0
ConjunctionIsCommutative = (A B : List (List ℕ)) → AreClauses A → AreClauses B → and A B ≡ and B A

abbrev pub ConjunctionIsAssociative : Type 0
ConjunctionIsAssociative = (A B C : List (List ℕ)) → AreClauses A → AreClauses B → AreClauses C → and (and A B) C ≡ and A (and B C)

abbrev pub ConjunctionIsIdempotent : Type 0
ConjunctionIsIdempotent = (A : List (List ℕ)) → IsCanonical A → and A A ≡ A

abbrev pub DisjunctionIsCommutative : Type 0
DisjunctionIsCommutative = (A B : List (List ℕ)) → AreClauses A → AreClauses B → or A B ≡ or B A

abbrev pub DisjunctionIsAssociative : Type 0
DisjunctionIsAssociative = (A B C : List (List ℕ)) → AreClauses A → AreClauses B → AreClauses C → or (or A B) C ≡ or A (or B C)

abbrev pub DisjunctionIsIdempotent : Type 0
DisjunctionIsIdempotent = (A : List (List ℕ)) → IsCanonical A → or A A ≡ A

-- the conjunction and the disjunction name no principal that neither formula names: where the principals of both have names, so have theirs
abbrev pub ConjunctionIsNamed : Type 0
ConjunctionIsNamed = (names A B : List (List ℕ)) → AreNamed names A → AreNamed names B → AreNamed names (and A B)

abbrev pub DisjunctionIsNamed : Type 0
DisjunctionIsNamed = (names A B : List (List ℕ)) → AreNamed names A → AreNamed names B → AreNamed names (or A B)

-- a formula without the clauses that a power implies is canonical where the formula is, has no more clauses, and names no principal that the formula doesn't name
abbrev pub WithoutIsCanonical : Type 0
WithoutIsCanonical = (A P : List (List ℕ)) → IsCanonical A → IsCanonical (without A P)

abbrev pub WithoutIsShorter : Type 0
WithoutIsShorter = (A P : List (List ℕ)) → length (without A P) ≤ length A

abbrev pub WithoutIsNamed : Type 0
WithoutIsNamed = (names A P : List (List ℕ)) → AreNamed names A → AreNamed names (without A P)

-- the formula implies it, and the power makes up for what it lacks
abbrev pub WithoutIsImplied : Type 0
WithoutIsImplied = (A P : List (List ℕ)) → IsTrue (implies A (without A P))

abbrev pub WithoutIsMadeUp : Type 0
WithoutIsMadeUp = (A P : List (List ℕ)) → ImplyTogether P (without A P) A
