-- Each step of a pass keeps the rule of the queue.
use Rattle.std.proofs.Common.{◌≡◌, ◌∙◌, refl, sym, ap, subst, arith, ℕ, zero, suc, ◌+◌, ◌-◌, ◌^◌, ◌<◌, ◌≤◌, cond, List, [], ◌∷◌, ◌++◌, All, length, length-append, length-set, append_assoc, set, sum_by}
use Rattle.std.proofs.lemmas.List.Elements.{All-head, All-nil, All-push, All-set, All-tail}
use Rattle.std.proofs.lemmas.List.Sums.{sum_by-cons, sum_by_push}
use mathlib.Core.Option.{some, some-injective, some-ne-none}
use lib.ListN.{get_elem?}
use Rattle.crossbeam_queue.specs.Fifo.{Forks, Learns, Pops as PopsOne, Pushes as PushesOne}
use Rattle.lio_runq.specs.declared.rule.PassView.{PassView}
use Rattle.lio_runq.specs.Rule.{EmptyTells, IsQueueOf, Pops, Pushes, pass_of, popped_by, pushed_by, rights}

-- a sum after one of what is added up was changed
sum_set : (f : PassView → ℕ) (views : List PassView) (at : ℕ) (v w : PassView) → get_elem? views at ≡ some v → sum_by f (set views at w) + f v ≡ sum_by f views + f w
sum_set f [] at v w is = absurd (some-ne-none v (sym is))
sum_set f (x ∷ xs) zero v w is = let same : f x ≡ f v = ap f (some-injective x v is) in let one = sum_by-cons f w xs in let two = sum_by-cons f x xs in omega (arith, same, one, two)
sum_set f (x ∷ xs) (suc at) v w is =
    let rest = sum_set f xs at v w is in
    let one = sum_by-cons f x (set xs at w) in
    let two = sum_by-cons f x xs in omega (arith, rest, one, two)

-- one of what is added up
sum_has : (f : PassView → ℕ) (views : List PassView) (at : ℕ) (v : PassView) → get_elem? views at ≡ some v → f v ≤ sum_by f views
sum_has f [] at v is = absurd (some-ne-none v (sym is))
sum_has f (x ∷ xs) zero v is = let same : f x ≡ f v = ap f (some-injective x v is) in let one = sum_by-cons f x xs in omega (arith, same, one)
sum_has f (x ∷ xs) (suc at) v is = let rest = sum_has f xs at v is in let one = sum_by-cons f x xs in omega (arith, rest, one)

-- where each has some, nothing is added up of none alone
sum_none : (views : List PassView) → All (λ v. 0 < rights v) views → sum_by rights views ≡ 0 → views ≡ []
sum_none [] each none = refl
sum_none (x ∷ xs) each none =
    let some_of = All-head (λ (v : PassView). 0 < rights v) x xs each in
    let one = sum_by-cons rights x xs in absurd (omega (arith, some_of, none, one))

-- a pass that has all pushes is the only one
sole : (views : List PassView) (at : ℕ) (v : PassView) → get_elem? views at ≡ some v → All (λ u. 0 < rights u) views → sum_by rights views ≡ rights v → views ≡ v ∷ []
sole [] at v is each all = absurd (some-ne-none v (sym is))
sole (x ∷ xs) zero v is each all =
    let same : x ≡ v = some-injective x v is in
    let equal : rights x ≡ rights v = ap rights same in
    let one = sum_by-cons rights x xs in
    let none = sum_none xs (All-tail (λ (u : PassView). 0 < rights u) x xs each) (omega (arith, equal, all, one)) in
    ap (λ (us : List PassView). x ∷ us) none ∙ ap (λ (u : PassView). u ∷ []) same
sole (x ∷ xs) (suc at) v is each all =
    let some_of = All-head (λ (u : PassView). 0 < rights u) x xs each in
    let mine = sum_has rights xs at v is in
    let one = sum_by-cons rights x xs in
    absurd (omega (arith, some_of, mine, all, one))

-- a pass has one push made or left
some_right : (views : List PassView) (at : ℕ) (v : PassView) → get_elem? views at ≡ some v → All (λ u. 0 < rights u) views → 0 < rights v
some_right [] at v is each = absurd (some-ne-none v (sym is))
some_right (x ∷ xs) zero v is each = subst (λ (u : PassView). 0 < rights u) (some-injective x v is) (All-head (λ (u : PassView). 0 < rights u) x xs each)
some_right (x ∷ xs) (suc at) v is each = some_right xs at v is (All-tail (λ (u : PassView). 0 < rights u) x xs each)

abbrev first_or : PassView → List PassView → PassView
first_or d [] = d
first_or d (x ∷ xs) = x

-- where a pass whose view was changed is the only one, it was so before
set_sole : (views : List PassView) (at : ℕ) (v w u : PassView) → get_elem? views at ≡ some v → set views at w ≡ u ∷ [] → (views ≡ v ∷ []) × (w ≡ u)
set_sole [] at v w u is e = absurd (some-ne-none v (sym is))
set_sole (x ∷ []) zero v w u is e = (ap (λ (y : PassView). y ∷ []) (some-injective x v is), ap (first_or w) e)
set_sole (x ∷ []) (suc at) v w u is e = absurd (some-ne-none v (sym is))
set_sole (x ∷ y ∷ xs) zero v w u is e = let many : length (w ∷ y ∷ xs) ≡ length (u ∷ []) = ap length e in absurd (omega (arith, many))
set_sole (x ∷ y ∷ xs) (suc at) v w u is e =
    let many : length (x ∷ set (y ∷ xs) at w) ≡ length (u ∷ []) = ap length e in
    let kept = length-set (y ∷ xs) at w in absurd (omega (arith, many, kept))

-- there is a pass
some_pass : (views : List PassView) (at : ℕ) (v : PassView) → get_elem? views at ≡ some v → 0 < length views
some_pass [] at v is = absurd (some-ne-none v (sym is))
some_pass (x ∷ xs) at v is = omega arith

-- what a pass that has all pushes has pushed
sole_order : (bound : ℕ) (numbers : List ℕ) (views : List PassView) (at : ℕ) (v : PassView) → IsQueueOf bound numbers views → get_elem? views at ≡ some v → rights v ≡ 2 ^ 61 → v.pushed ≡ v.popped ++ numbers
sole_order bound numbers views at v rule is all = rule.in_order v (sole views at v is rule.each (rule.all ∙ sym all))

-- a new queue, with its first pass
pub begins : (bound : ℕ) → IsQueueOf bound [] (pass_of [] (2 ^ 61) [] ∷ [])
begins bound = record {
  below = All-nil (λ n. n < bound);
  balance = λ p. refl;
  all = refl;
  each = All-push (λ (v : PassView). 0 < rights v) [] (pass_of [] (2 ^ 61) []) (All-nil (λ (v : PassView). 0 < rights v)) (omega arith);
  in_order = λ view e. let same : pass_of [] (2 ^ 61) [] ≡ view = ap (first_or view) e in subst (λ (v : PassView). v.pushed ≡ v.popped ++ []) same refl;
}

-- a push
pub pushes : (bound room at : ℕ) (v : PassView) (n : ℕ) → n < bound → 0 < v.left → PushesOne (IsQueueOf bound) room at v n (Pushes v n)
pushes bound room at v n below left numbers views short rule is =
    let w = pass_of (v.pushed ++ n ∷ []) (v.left - 1) v.popped in
    let longer = length-append v.pushed (n ∷ []) in (
      w,
      record {
        below = All-push (λ k. k < bound) numbers n rule.below below;
        balance = λ p.
            let test = λ (k : ℕ). cond (p k) 1 0 in
            let pushed = sum_set (pushed_by p) views at v w is in
            let popped = sum_set (popped_by p) views at v w is in
            let own = sum_by_push test v.pushed n in
            let held = sum_by_push test numbers n in
            let balance = rule.balance p in omega (arith, pushed, popped, own, held, balance);
        all = let rs = sum_set rights views at v w is in let all = rule.all in omega (arith, rs, all, left, longer);
        each = All-set (λ (u : PassView). 0 < rights u) views at w (omega (arith, longer)) rule.each;
        in_order = λ view e.
            let both = set_sole views at v w view is e in
            let before = rule.in_order v both.0 in
            let now : w.pushed ≡ w.popped ++ (numbers ++ n ∷ []) = ap (λ (xs : List ℕ). xs ++ n ∷ []) before ∙ append_assoc v.popped numbers (n ∷ []) in
            subst (λ (u : PassView). u.pushed ≡ u.popped ++ (numbers ++ n ∷ [])) both.1 now;
      },
      refl,
    )

-- a pop
pub pops : (bound at : ℕ) (v : PassView) → PopsOne (IsQueueOf bound) at v (Pops bound v)
pops bound at v n numbers views rule is =
    let w = pass_of v.pushed v.left (v.popped ++ n ∷ []) in (
      w,
      record {
        below = All-tail (λ k. k < bound) n numbers rule.below;
        balance = λ p.
            let test = λ (k : ℕ). cond (p k) 1 0 in
            let pushed = sum_set (pushed_by p) views at v w is in
            let popped = sum_set (popped_by p) views at v w is in
            let own = sum_by_push test v.popped n in
            let held = sum_by-cons test n numbers in
            let balance = rule.balance p in omega (arith, pushed, popped, own, held, balance);
        all = let rs = sum_set rights views at v w is in let all = rule.all in omega (arith, rs, all);
        each = All-set (λ (u : PassView). 0 < rights u) views at w (let mine = some_right views at v is rule.each in mine) rule.each;
        in_order = λ view e.
            let both = set_sole views at v w view is e in
            let before = rule.in_order v both.0 in
            let now : w.pushed ≡ w.popped ++ numbers = before ∙ sym (append_assoc v.popped (n ∷ []) numbers) in
            subst (λ (u : PassView). u.pushed ≡ u.popped ++ numbers) both.1 now;
      },
      record {
        below = All-head (λ k. k < bound) n numbers rule.below;
        counted = refl;
        sole = λ all. record { others = numbers; pushed = sole_order bound (n ∷ numbers) views at v rule is all };
      },
    )

-- what is told of the queue
pub learns : (bound at : ℕ) (v : PassView) → Learns (IsQueueOf bound) at v (EmptyTells bound v)
learns bound at v numbers views rule is = record {
  views = views;
  number = at;
  own = is;
  rule = rule;
  sole = λ all. sole_order bound numbers views at v rule is all;
}

-- a cut of a pass in two, each of which has a push made or left
pub forks : (bound at : ℕ) (v : PassView) (share : ℕ) → 1 ≤ share → share < v.left → Forks (IsQueueOf bound) at v (pass_of v.pushed (v.left - share) v.popped) (pass_of [] share [])
forks bound at v share has less numbers views rule is =
    let w = pass_of v.pushed (v.left - share) v.popped in
    let u = pass_of [] share [] in
    record {
      below = rule.below;
      balance = λ p.
          let pushed = sum_set (pushed_by p) views at v w is in
          let popped = sum_set (popped_by p) views at v w is in
          let more_pushed = sum_by_push (pushed_by p) (set views at w) u in
          let more_popped = sum_by_push (popped_by p) (set views at w) u in
          let balance = rule.balance p in omega (arith, pushed, popped, more_pushed, more_popped, balance);
      all =
          let rs = sum_set rights views at v w is in
          let more = sum_by_push rights (set views at w) u in
          let all = rule.all in omega (arith, rs, more, all, less);
      each = All-push (λ (x : PassView). 0 < rights x) (set views at w) u (All-set (λ (x : PassView). 0 < rights x) views at w (omega (arith, less)) rule.each) (omega (arith, has));
      in_order = λ view e.
          let many = ap length e in
          let both = length-append (set views at w) (u ∷ []) in
          let kept = length-set views at w in
          let has_one = some_pass views at v is in absurd (omega (arith, many, both, kept, has_one));
    }
