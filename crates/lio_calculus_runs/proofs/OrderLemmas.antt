-- A round keeps the order: each task once, and nothing else.
use Rattle.std.proofs.Common.{◌≡◌, ◌∙◌, refl, sym, ap, subst, ℕ, zero, suc, ◌+◌, ◌<◌, ◌==◌, ◌⊎◌, inl, inr, Bool, true, false, if◌then◌else◌, List, [], ◌∷◌, ◌++◌, length, All, Option, Some, None, is_some, true≢false, append_assoc, append-nil, arith}
use Rattle.std.specs.Prelude.{slice_index_or}
use Rattle.std.specs.List.{Contains, IsDistinct, AllByRecursion}
use Rattle.std.proofs.lemmas.Bool.Decides.{nat_tests}
use Rattle.std.proofs.lemmas.List.Elements.{All-nil, All-cons, All-head, All-tail}
use Rattle.lio_values.specs.declared.act.Act.{Act}
use Rattle.lio_values.specs.declared.act.Act.TheVariants as act
use Rattle.lio_calculus.specs.Step.{Cell, Configuration, blank, cell_at, Turn, step}
use Rattle.lio_calculus.specs.Sound.{IsSound}
use Rattle.lio_calculus_runs.specs.Round.{born_at, born_in, round, order_after}
use Rattle.lio_calculus_runs.specs.Rounds.{tasks_from, tasks, stepped}
use Rattle.lio_calculus_runs.specs.RoundLaws.{IsOrderOf, TasksAreAnOrder, RoundKeepsTheOrder}
use Rattle.lio_calculus_runs.proofs.BirthLemmas.{Among, HasAll, turn-has_all}
use Rattle.lio_calculus_runs.proofs.NewLemmas.{IsNew, turn-born, turn-stays}
use Rattle.lio_calculus_runs.proofs.RoundLemmas.{round-each}
use Rattle.lio_calculus_runs.proofs.EndLemmas.{turned, stepped-step, stepped-sound, tasks-all}

-- no number twice
abbrev pub Apart : List ℕ → Type 0
Apart [] = Unit {0}
Apart (k ∷ ks) = (Among k ks → ⊥) × Apart ks

-- an order, by recursion
pub record Listing (c : Configuration) (order : List ℕ) : Type 0 where
  pub all : HasAll order c
  pub only : (k : ℕ) → Among k order → is_some (cell_at c k).task ≡ true
  pub once : Apart order

among-either : (k : ℕ) (xs ys : List ℕ) → Among k (xs ++ ys) → Among k xs ⊎ Among k ys
among-either k [] ys a = inr a
among-either k (x ∷ xs) ys (inl e) = inl (inl e)
among-either k (x ∷ xs) ys (inr a) = further (among-either k xs ys a)
  where
    further : Among k xs ⊎ Among k ys → Among k (x ∷ xs) ⊎ Among k ys
    further (inl b) = inl (inr b)
    further (inr b) = inr b

apart-append : (xs ys : List ℕ) → Apart xs → Apart ys → ((k : ℕ) → Among k xs → Among k ys → ⊥) → Apart (xs ++ ys)
apart-append [] ys one two between = two
apart-append (x ∷ xs) ys one two between = (neither, apart-append xs ys one.1 two (λ k a b. between k (inr a) b))
  where
    either : Among x xs ⊎ Among x ys → ⊥
    either (inl a) = one.0 a
    either (inr b) = between x (inl refl) b

    neither : Among x (xs ++ ys) → ⊥
    neither a = either (among-either x xs ys a)

born-apart : (asked : Act) (target : Option ℕ) → Apart (born_at asked target)
born-apart (act.Fork birth) (Some n) = (λ a. a, tt)
born-apart (act.Spawn birth) (Some n) = (λ a. a, tt)
born-apart (act.Fork birth) None = tt
born-apart (act.Spawn birth) None = tt
born-apart asked target = tt

-- one turn
pub turn-listing : (c : Configuration) (k : ℕ) (turn : Turn) (order : List ℕ) → IsSound c → step 0 c k ≡ Some turn → Listing c order → Listing turn.next (order ++ born_in turn.entry)
turn-listing c k turn order sound steps listing =
    let born : List ℕ = born_in turn.entry in
    let new : (n : ℕ) → Among n born → IsNew c turn.next n = turn-born 0 c k turn sound steps in
    record {
      all = turn-has_all order 0 c k turn steps listing.all;
      only = λ n a. has new n (among-either n order born a);
      once = apart-append order born listing.once (born-apart turn.entry.act turn.entry.target) (λ n a b. let i = new n b in true≢false (sym (listing.only n a) ∙ ap is_some i.absent));
    }
  where
    has : ((n : ℕ) → Among n (born_in turn.entry) → IsNew c turn.next n) → (n : ℕ) → Among n order ⊎ Among n (born_in turn.entry) → is_some (cell_at turn.next n).task ≡ true
    has new n (inl a) = turn-stays 0 c k turn steps n (listing.only n a)
    has new n (inr b) = (new n b).there

-- one round
round-listing : (walked : List ℕ) (c : Configuration) (order : List ℕ) → IsSound c → Listing c order → Listing (round stepped walked c).after (order ++ (round stepped walked c).born)
round-listing =
    round-each stepped (λ walked c done. (order : List ℕ) → IsSound c → Listing c order → Listing done.after (order ++ done.born))
    (λ c order sound listing. subst (Listing c) (sym (append-nil order)) listing)
    (λ k walked c t done is goes order sound listing. subst (Listing done.after) (append_assoc order (born_in t.entry) done.born)
    (goes (order ++ born_in t.entry) (stepped-sound c k t is sound) (turn-listing c k (turned t) order sound (stepped-step c k t is) listing)))
    (λ k walked c done stays goes order sound listing. goes order sound listing)

-- the tasks by number
tasks_from-only : (first : ℕ) (cells : List Cell) (n : ℕ) → Among n (tasks_from first cells) → (k : ℕ) × (n ≡ first + k) × (is_some (slice_index_or cells k blank).task ≡ true)
unfolding tasks_from
tasks_from-only first [] n a = absurd a
tasks_from-only first (cell ∷ cells) n a = by (is_some cell.task) refl a (tasks_from-only (first + 1) cells n)
  where
    next : (k : ℕ) × (n ≡ first + 1 + k) × (is_some (slice_index_or cells k blank).task ≡ true) → (k : ℕ) × (n ≡ first + k) × (is_some (slice_index_or (cell ∷ cells) k blank).task ≡ true)
    next rest = (suc rest.0, omega (arith, rest.1), rest.2)

    by : (b : Bool) → is_some cell.task ≡ b → Among n (if b then first ∷ tasks_from (first + 1) cells else tasks_from (first + 1) cells)
        → (Among n (tasks_from (first + 1) cells) → (k : ℕ) × (n ≡ first + 1 + k) × (is_some (slice_index_or cells k blank).task ≡ true))
        → (k : ℕ) × (n ≡ first + k) × (is_some (slice_index_or (cell ∷ cells) k blank).task ≡ true)
    by true e (inl h) later = (0, omega (arith, h), e)
    by true e (inr b) later = next (later b)
    by false e b later = next (later b)

tasks_from-apart : (first : ℕ) (cells : List Cell) → Apart (tasks_from first cells)
unfolding tasks_from
tasks_from-apart first [] = tt
tasks_from-apart first (cell ∷ cells) = by (is_some cell.task) (tasks_from-apart (first + 1) cells)
  where
    above : Among first (tasks_from (first + 1) cells) → ⊥
    above a = let rest = tasks_from-only (first + 1) cells first a in omega (arith, rest.1)

    by : (b : Bool) → Apart (tasks_from (first + 1) cells) → Apart (if b then first ∷ tasks_from (first + 1) cells else tasks_from (first + 1) cells)
    by true later = (above, later)
    by false later = later

tasks-listing : (c : Configuration) → Listing c (tasks c)
tasks-listing c = record { all = tasks-all c; only = only; once = tasks_from-apart 0 c.cells }
  where
    only : (k : ℕ) → Among k (tasks c) → is_some (cell_at c k).task ≡ true
    only k a =
        let found = tasks_from-only 0 c.cells k a in
        let same : found.0 ≡ k = omega (arith, found.1) in
        subst (λ (n : ℕ). is_some (cell_at c n).task ≡ true) same found.2

-- the same in the words of lists
contains-among : (k : ℕ) (xs : List ℕ) → Among k xs → Contains xs k
contains-among k [] a = absurd a
contains-among k (x ∷ xs) (inl e) = (0, omega arith, sym e)
contains-among k (x ∷ xs) (inr a) = let rest = contains-among k xs a in (suc rest.0, omega (arith, rest.1), rest.2)

among-contains : (k : ℕ) (xs : List ℕ) (i : ℕ) → i < length xs → slice_index_or xs i k ≡ k → Among k xs
among-contains k [] i within is = absurd (omega (arith, within))
among-contains k (x ∷ xs) zero within is = inl (sym is)
among-contains k (x ∷ xs) (suc i) within is = inr (among-contains k xs i (omega (arith, within)) is)

all-among : (P : ℕ → Type 0) (xs : List ℕ) → ((k : ℕ) → Among k xs → P k) → All P xs
all-among P [] each = All-nil P
all-among P (x ∷ xs) each = All-cons P x xs (each x (inl refl)) (all-among P xs (λ k a. each k (inr a)))

among-all : (P : ℕ → Type 0) (xs : List ℕ) → All P xs → (k : ℕ) → Among k xs → P k
among-all P [] all k a = absurd a
among-all P (x ∷ xs) all k (inl e) = subst P (sym e) (All-head P x xs all)
among-all P (x ∷ xs) all k (inr a) = among-all P xs (All-tail P x xs all) k a

differ : (j k : ℕ) → (j ≡ k → ⊥) → (j == k) ≡ false
differ j k apart = by (j == k) refl
  where
    by : (b : Bool) → (j == k) ≡ b → (j == k) ≡ false
    by false e = e
    by true e = let same : j ≡ k = grind (arith, nat_tests) in absurd (apart same)

differs : (j k : ℕ) → (j == k) ≡ false → j ≡ k → ⊥
differs j k e same = grind (arith, nat_tests)

distinct-apart : (xs : List ℕ) → Apart xs → IsDistinct (λ j k. j == k) xs
unfolding IsDistinct
distinct-apart [] apart = tt
distinct-apart (x ∷ xs) apart = (each xs apart.0, distinct-apart xs apart.1)
  where
    each : (ys : List ℕ) → (Among x ys → ⊥) → AllByRecursion (λ y. (x == y) ≡ false) ys
    each [] none = tt
    each (y ∷ ys) none = (differ x y (λ e. none (inl e)), each ys (λ a. none (inr a)))

apart-distinct : (xs : List ℕ) → IsDistinct (λ j k. j == k) xs → Apart xs
unfolding IsDistinct
apart-distinct [] distinct = tt
apart-distinct (x ∷ xs) distinct = (none xs distinct.0, apart-distinct xs distinct.1)
  where
    none : (ys : List ℕ) → AllByRecursion (λ y. (x == y) ≡ false) ys → Among x ys → ⊥
    none [] each a = a
    none (y ∷ ys) each (inl e) = differs x y each.0 e
    none (y ∷ ys) each (inr a) = none ys each.1 a

pub order-listing : (c : Configuration) (order : List ℕ) → Listing c order → IsOrderOf c order
order-listing c order listing = record {
  all = λ k task is. contains-among k order (listing.all k task is);
  tasks_alone = all-among (λ k. is_some (cell_at c k).task ≡ true) order listing.only;
  once = distinct-apart order listing.once;
}

pub listing-order : (c : Configuration) (order : List ℕ) → IsOrderOf c order → Listing c order
listing-order c order is = record {
  all = λ k task there. let found = is.all k task there in among-contains k order found.0 found.1 found.2;
  only = among-all (λ k. is_some (cell_at c k).task ≡ true) order is.tasks_alone;
  once = apart-distinct order is.once;
}

pub tasks_are_an_order : TasksAreAnOrder
tasks_are_an_order c = order-listing c (tasks c) (tasks-listing c)

pub round_keeps_the_order : RoundKeepsTheOrder
round_keeps_the_order c order sound is =
    order-listing (round stepped order c).after (order_after order (round stepped order c)) (round-listing order c order sound (listing-order c order is))
