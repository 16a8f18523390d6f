-- What a round and rounds are made of, over any calculus.
use Rattle.std.proofs.Common.{◌≡◌, ◌∙◌, refl, sym, ap, subst, ℕ, zero, suc, ◌+◌, ◌<◌, ◌≤◌, inl, inr, List, [], ◌∷◌, ◌++◌, length, Option, Some, None, append_assoc, arith}
use Rattle.std.specs.Option.{option_map_or}
use Rattle.lio_calculus_runs.specs.Round.{Taken, born_in, Round, moved_first, round, joined, IsFrom, order_after, followed, rounds_within}

-- a round, by what its first task does
pub round-moves : {S : Type 0} (stepped : S → ℕ → Option (Taken S)) (k : ℕ) (order : List ℕ) (s : S) (t : Taken S) → stepped s k ≡ Some t → round stepped (k ∷ order) s ≡ moved_first k t.entry (round stepped order t.next)
unfolding round
round-moves {S} stepped k order s t is = ap (λ (o : Option (Taken S)). option_map_or (λ (x : Taken S). moved_first k x.entry (round stepped order x.next)) o (round stepped order s)) is

pub round-skips : {S : Type 0} (stepped : S → ℕ → Option (Taken S)) (k : ℕ) (order : List ℕ) (s : S) → stepped s k ≡ None → round stepped (k ∷ order) s ≡ round stepped order s
unfolding round
round-skips {S} stepped k order s is = ap (λ (o : Option (Taken S)). option_map_or (λ (x : Taken S). moved_first k x.entry (round stepped order x.next)) o (round stepped order s)) is

pub round-nobody : {S : Type 0} (stepped : S → ℕ → Option (Taken S)) (s : S) → round stepped [] s ≡ record { moved = []; born = []; after = s }
unfolding round
round-nobody stepped s = refl

-- what holds of a round, from its first task on
pub round-each : {S : Type 0} (stepped : S → ℕ → Option (Taken S)) (Q : List ℕ → S → Round S → Type 0) → ((s : S) → Q [] s (record { moved = []; born = []; after = s }))
    → ((k : ℕ) (order : List ℕ) (s : S) (t : Taken S) (later : Round S) → stepped s k ≡ Some t → Q order t.next later → Q (k ∷ order) s (moved_first k t.entry later))
    → ((k : ℕ) (order : List ℕ) (s : S) (later : Round S) → stepped s k ≡ None → Q order s later → Q (k ∷ order) s later)
    → (order : List ℕ) (s : S) → Q order s (round stepped order s)
round-each stepped Q nobody moves skips [] s = subst (Q [] s) (sym (round-nobody stepped s)) (nobody s)
round-each {S} stepped Q nobody moves skips (k ∷ order) s = by (stepped s k) refl (round-each stepped Q nobody moves skips order)
  where
    by : (o : Option (Taken S)) → stepped s k ≡ o → ((s : S) → Q order s (round stepped order s)) → Q (k ∷ order) s (round stepped (k ∷ order) s)
    by None e later = subst (Q (k ∷ order) s) (sym (round-skips stepped k order s e)) (skips k order s (round stepped order s) e (later s))
    by (Some t) e later = subst (Q (k ∷ order) s) (sym (round-moves stepped k order s t e)) (moves k order s t (round stepped order t.next) e (later t.next))

-- a round over an order in two parts
pub round-append : {S : Type 0} (stepped : S → ℕ → Option (Taken S)) (one two : List ℕ) (s : S) → round stepped (one ++ two) s ≡ joined (round stepped one s) (round stepped two (round stepped one s).after)
round-append {S} stepped one two s =
    round-each stepped (λ order s done. round stepped (order ++ two) s ≡ joined done (round stepped two done.after)) (λ s. refl)
    (λ k order s t done steps more. round-moves stepped k (order ++ two) s t steps ∙ ap (moved_first k t.entry) more ∙ regrouped k (born_in t.entry) done (round stepped two done.after))
    (λ k order s done stays more. round-skips stepped k (order ++ two) s stays ∙ more) one s
  where
    regrouped : (k : ℕ) (xs : List ℕ) (done last : Round S)
        → (let whole : Round S = record { moved = k ∷ done.moved ++ last.moved; born = xs ++ (done.born ++ last.born); after = last.after } in
        whole ≡ record { moved = k ∷ done.moved ++ last.moved; born = (xs ++ done.born) ++ last.born; after = last.after })
    regrouped k xs done last =
        ap (λ (ys : List ℕ). let r : Round S = record { moved = k ∷ done.moved ++ last.moved; born = ys; after = last.after } in r) (sym (append_assoc xs done.born last.born))

-- who moves is some of the order, in its order
pub round-from : {S : Type 0} (stepped : S → ℕ → Option (Taken S)) (order : List ℕ) (s : S) → IsFrom order (round stepped order s).moved
round-from {S} stepped =
    round-each stepped (λ order s done. IsFrom order done.moved) (λ s. tt)
    (λ k order s t done steps is. inl (refl, is))
    (λ k order s done stays is. further k order done.moved is)
  where
    further : (k : ℕ) (order moved : List ℕ) → IsFrom order moved → IsFrom (k ∷ order) moved
    further k order [] is = tt
    further k order (j ∷ moved) is = inr is

-- where each turn lowers a weight, a round lowers it by at least one for each who moved
pub round-lowers : {S : Type 0} (stepped : S → ℕ → Option (Taken S)) (weight : S → ℕ) → ((s : S) (k : ℕ) (t : Taken S) → stepped s k ≡ Some t → weight t.next < weight s)
    → (order : List ℕ) (s : S) → weight (round stepped order s).after + length (round stepped order s).moved ≤ weight s
round-lowers stepped weight lowers =
    round-each stepped (λ order s done. weight done.after + length done.moved ≤ weight s) (λ s. omega arith)
    (λ k order s t done steps lower. omega (arith, lower, lowers s k t steps))
    (λ k order s done stays lower. lower)

-- and then each number of rounds that isn't below the weight gives the same
pub rounds_within-enough : {S : Type 0} (stepped : S → ℕ → Option (Taken S)) (weight : S → ℕ) → ((s : S) (k : ℕ) (t : Taken S) → stepped s k ≡ Some t → weight t.next < weight s)
    → (one two : ℕ) (order : List ℕ) (s : S) → weight s ≤ one → weight s ≤ two → rounds_within stepped one order s ≡ rounds_within stepped two order s
unfolding rounds_within
rounds_within-enough stepped weight lowers zero zero order s few fewer = refl
rounds_within-enough {S} stepped weight lowers zero (suc two) order s few fewer =
    by (round stepped order s).moved refl
  where
    done : Round S
    done = round stepped order s

    by : (moved : List ℕ) → done.moved ≡ moved → [] ≡ followed done.moved (rounds_within stepped two (order_after order done) done.after)
    by [] e = ap (λ (ks : List ℕ). followed ks (rounds_within stepped two (order_after order done) done.after)) (sym e)
    by (k ∷ ks) e = let size : length done.moved ≡ suc (length ks) = ap length e in absurd (omega (arith, round-lowers stepped weight lowers order s, size, few))
rounds_within-enough {S} stepped weight lowers (suc one) zero order s few fewer =
    by (round stepped order s).moved refl
  where
    done : Round S
    done = round stepped order s

    by : (moved : List ℕ) → done.moved ≡ moved → followed done.moved (rounds_within stepped one (order_after order done) done.after) ≡ []
    by [] e = ap (λ (ks : List ℕ). followed ks (rounds_within stepped one (order_after order done) done.after)) e
    by (k ∷ ks) e = let size : length done.moved ≡ suc (length ks) = ap length e in absurd (omega (arith, round-lowers stepped weight lowers order s, size, fewer))
rounds_within-enough {S} stepped weight lowers (suc one) (suc two) order s few fewer =
    by (round stepped order s).moved refl (rounds_within-enough stepped weight lowers one two)
  where
    done : Round S
    done = round stepped order s

    by : (moved : List ℕ) → done.moved ≡ moved → ((order : List ℕ) (s : S) → weight s ≤ one → weight s ≤ two → rounds_within stepped one order s ≡ rounds_within stepped two order s)
        → followed done.moved (rounds_within stepped one (order_after order done) done.after) ≡ followed done.moved (rounds_within stepped two (order_after order done) done.after)
    by [] e same = ap (λ (ks : List ℕ). followed ks (rounds_within stepped one (order_after order done) done.after)) e ∙ ap (λ (ks : List ℕ). followed ks (rounds_within stepped two (order_after order done) done.after)) (sym e)
    by (k ∷ ks) e same =
        let size : length done.moved ≡ suc (length ks) = ap length e in
        let lower = round-lowers stepped weight lowers order s in
        ap (followed done.moved) (same (order_after order done) done.after (omega (arith, lower, size, few)) (omega (arith, lower, size, fewer)))

-- so many rounds as the weight says are one round, and then as many as the weight after it says
pub rounds_within-go_on : {S : Type 0} (stepped : S → ℕ → Option (Taken S)) (weight : S → ℕ) → ((s : S) (k : ℕ) (t : Taken S) → stepped s k ≡ Some t → weight t.next < weight s)
    → (order : List ℕ) (s : S)
    → rounds_within stepped (weight s) order s ≡ followed (round stepped order s).moved (rounds_within stepped (weight (round stepped order s).after) (order_after order (round stepped order s)) (round stepped order s).after)
rounds_within-go_on {S} stepped weight lowers order s =
    let done : Round S = round stepped order s in
    let lower = round-lowers stepped weight lowers order s in
    let first : rounds_within stepped (suc (weight s)) order s ≡ followed done.moved (rounds_within stepped (weight s) (order_after order done) done.after) = unfold rounds_within in refl in
    rounds_within-enough stepped weight lowers (weight s) (suc (weight s)) order s (omega arith) (omega arith) ∙ first
    ∙ ap (followed done.moved) (rounds_within-enough stepped weight lowers (weight s) (weight done.after) (order_after order done) done.after (omega (arith, lower)) (omega arith))

-- a round that moves nothing changes nothing, and so does each number of rounds after it
pub round-idle : {S : Type 0} (stepped : S → ℕ → Option (Taken S)) (order : List ℕ) (s : S) → (round stepped order s).moved ≡ [] → round stepped order s ≡ record { moved = []; born = []; after = s }
round-idle {S} stepped =
    round-each stepped (λ order s done. done.moved ≡ [] → done ≡ record { moved = []; born = []; after = s }) (λ s nothing. refl)
    (λ k order s t done steps idle nothing. absurd (cc))
    (λ k order s done stays idle nothing. idle nothing)

pub rounds-idle : {S : Type 0} (stepped : S → ℕ → Option (Taken S)) (count : ℕ) (order : List ℕ) (s : S) → (round stepped order s).moved ≡ [] → rounds_within stepped count order s ≡ []
unfolding rounds_within
rounds-idle stepped zero order s nothing = refl
rounds-idle {S} stepped (suc count) order s nothing =
    let done : Round S = round stepped order s in ap (λ (ks : List ℕ). followed ks (rounds_within stepped count (order_after order done) done.after)) nothing
