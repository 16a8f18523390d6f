-- Counts of cells, and what is told of a run by them.
use Rattle.std.proofs.Common.{◌≡◌, ◌∙◌, sym, ap, refl, subst, ℕ, ◌+◌, ◌<◌, ◌≤◌, arith, Bool, true, false, cond, List, [], ◌∷◌, map, length, get_or, take}
use Rattle.std.specs.List.{count_by}
use Rattle.lio_calculus.specs.Run.{Ran}
use Rattle.lio_ask_main.specs.Telling.{IsCounted}
use Rattle.lio_ask_main.specs.Troubles.{are_some, counts_text, failed_count, waiting_count}
use Rattle.std.proofs.lemmas.List.Recursion.{is_count_by}
use Rattle.std.proofs.lemmas.List.Sums.{count_by_more_yes, count_by_more_no}

-- one more is counted where it passes
pub count-next : {X : Type 0} → (p : X → Bool) (ys xs : List X) (i : ℕ) (d : X) (b : Bool) → ys ≡ xs → i < length ys → d ≡ get_or ys i d → b ≡ p d → count_by p (take (i + 1) xs) ≡ count_by p (take i xs) + cond b 1 0
count-next p ys xs i d b same below at is =
    subst (λ zs. count_by p (take (i + 1) zs) ≡ count_by p (take i zs) + cond b 1 0) same (by b (is ∙ ap p at))
  where
    by : (b' : Bool) → b' ≡ p (get_or ys i d) → count_by p (take (i + 1) ys) ≡ count_by p (take i ys) + cond b' 1 0
    by true passes = count_by_more_yes p ys i d below (sym passes)
    by false passes = count_by_more_no p ys i d below (sym passes) ∙ omega arith

pub one-more : (n m i : ℕ) (b : Bool) → n ≡ m + cond b 1 0 → m ≤ i → n ≤ i + 1
one-more n m i true is below = omega (arith, is, below)
one-more n m i false is below = omega (arith, is, below)

-- the same count by recursion
tally : {X : Type 0} → (X → Bool) → List X → ℕ
tally p [] = 0
tally p (x ∷ xs) = cond (p x) (1 + tally p xs) (tally p xs)

tally-is : {X : Type 0} → (p : X → Bool) (xs : List X) → tally p xs ≡ count_by p xs
unfolding tally
tally-is p xs = is_count_by (tally p) p refl (λ x ys. refl) xs

tally-map : {X Y : Type 0} → (p : Y → Bool) (f : X → Y) (xs : List X) → tally p (map f xs) ≡ tally (λ x. p (f x)) xs
unfolding tally
tally-map p f [] = refl
tally-map p f (x ∷ xs) = ap (λ (n : ℕ). cond (p (f x)) (1 + n) n) (tally-map p f xs)

pub count-map : {X Y : Type 0} → (p : Y → Bool) (f : X → Y) (xs : List X) → count_by p (map f xs) ≡ count_by (λ x. p (f x)) xs
count-map p f xs = sym (tally-is p (map f xs)) ∙ tally-map p f xs ∙ tally-is (λ x. p (f x)) xs

-- a run is told by its counts
pub counts-are : (ran : Ran) (text : List ℕ) (troubled : Bool) (turns failed waiting : ℕ) → turns ≡ length ran.entries → failed ≡ failed_count ran.last → waiting ≡ waiting_count ran.last
    → text ≡ counts_text turns failed waiting → troubled ≡ are_some failed waiting → IsCounted ran text troubled
counts-are ran text troubled turns failed waiting taken fails waits told is = (
  told ∙ ap (λ (n : ℕ). counts_text n failed waiting) taken ∙ ap (λ (n : ℕ). counts_text (length ran.entries) n waiting) fails ∙ ap (counts_text (length ran.entries) (failed_count ran.last)) waits,
  is ∙ ap (λ (n : ℕ). are_some n waiting) fails ∙ ap (are_some (failed_count ran.last)) waits,
)
