-- Rounds, as an observer sees them, are the rounds of the erased calculus.
use Rattle.std.proofs.Common.{◌≡◌, ◌∙◌, refl, sym, ap, subst, ℕ, zero, suc, List, [], ◌∷◌, ◌++◌, Some, append-nil, arith}
use Rattle.lio_labels.specs.declared.label.Label.{Label}
use Rattle.lio_calculus.specs.Step.{Configuration}
use Rattle.lio_calculus.specs.Erased.{erase}
use Rattle.lio_events.specs.Views.{who, view, releases}
use Rattle.lio_calculus.specs.Run.{Ran, run, LowRan, low_run}
use Rattle.lio_calculus.specs.Laws.{RunSeenAs}
use Rattle.lio_calculus.specs.Sound.{IsSound}
use Rattle.lio_calculus.proofs.LawLemmas.{run_is_erased_run}
use Rattle.lio_calculus_runs.specs.Round.{Round, round, order_after, followed, rounds_within}
use Rattle.lio_calculus_runs.specs.Rounds.{IsComplete, measure, tasks, stepped, rounds}
use Rattle.lio_calculus_runs.specs.LowRounds.{LowState, low_stepped, low_rounds, low_run_by_rounds}
use Rattle.lio_calculus_runs.specs.LowLaws.{RoundsAreErasedRounds, RoundsLookAlike}
use Rattle.lio_calculus_runs.proofs.LowMeasure.{erased-measure}
use Rattle.lio_calculus_runs.proofs.LowRunLemmas.{low_stepped-lowers}
use Rattle.lio_calculus_runs.proofs.RoundLemmas.{round-idle, rounds-idle, rounds_within-enough}
use Rattle.lio_calculus_runs.proofs.EndLemmas.{round-sound, rounds_run_to_the_end}
use Rattle.lio_calculus_runs.proofs.LowRoundLemmas.{Below, state, OneRound, round-below, complete_is_complete_below}
use Rattle.lio_calculus_runs.proofs.LowTasks.{tasks-below}

nil-first : (xs ys : List ℕ) → xs ++ ys ≡ [] → xs ≡ []
nil-first [] ys is = refl
nil-first (x ∷ xs) ys is = absurd (cc)

followed-some : (k : ℕ) (ks moved later : List ℕ) → moved ≡ k ∷ ks → followed moved later ≡ moved ++ later
followed-some k ks moved later is = ap (λ (js : List ℕ). followed js later) is ∙ ap (λ (js : List ℕ). js ++ later) (sym is)

-- a run of nobody shows nobody
nobody-seen : (observer : Label) (ticket : ℕ) (c : Configuration) (ran : Ran) → run ticket c [] ≡ Some ran → who observer ran.entries ≡ []
unfolding run who
nobody-seen observer ticket c ran runs =
    let here : Ran = record { entries = []; last = c } in
    let same : here ≡ ran = cc in
    sym (ap (λ (r : Ran). who observer r.entries) same)

-- a round below, and then rounds below
low-follow : (observer : Label) (count : ℕ) (low_order order actors : List ℕ) (c : Configuration) (done : Round Configuration) (ran : Ran) (one : OneRound observer low_order c done low_order order actors ran)
    → rounds_within (low_stepped observer) count (low_order ++ one.low.born) (state observer done.after one.rest) ≡ who observer one.rest.entries
    → (let next : Round LowState = round (low_stepped observer) low_order (state observer c ran) in
    followed next.moved (rounds_within (low_stepped observer) count (order_after low_order next) next.after) ≡ who observer ran.entries)
low-follow observer count low_order order actors c done ran one more =
    ap (λ (d : Round LowState). followed d.moved (rounds_within (low_stepped observer) count (order_after low_order d) d.after)) one.is ∙ by one.low.moved refl
  where
    later : List ℕ
    later = rounds_within (low_stepped observer) count (low_order ++ one.low.born) one.low.after

    tail : later ≡ who observer one.rest.entries
    tail = ap (λ (s : LowState). rounds_within (low_stepped observer) count (low_order ++ one.low.born) s) one.after ∙ more

    -- where nobody moves below, nobody does later
    idle : one.low.moved ≡ [] → later ≡ []
    idle nothing =
        let still : (round (low_stepped observer) low_order (state observer c ran)).moved ≡ [] = ap (λ (d : Round LowState). d.moved) one.is ∙ nothing in
        let none : one.low ≡ record { moved = []; born = []; after = state observer c ran } = sym one.is ∙ round-idle (low_stepped observer) low_order (state observer c ran) still in
        ap (λ (d : Round LowState). rounds_within (low_stepped observer) count (low_order ++ d.born) d.after) none
        ∙ ap (λ (ks : List ℕ). rounds_within (low_stepped observer) count ks (state observer c ran)) (append-nil low_order)
        ∙ rounds-idle (low_stepped observer) count low_order (state observer c ran) still

    by : (moved : List ℕ) → one.low.moved ≡ moved → followed one.low.moved later ≡ who observer ran.entries
    by (k ∷ ks) e = followed-some k ks one.low.moved later e ∙ ap (λ (ks : List ℕ). one.low.moved ++ ks) tail ∙ sym one.moves
    by [] e =
        ap (λ (ks : List ℕ). followed ks later) e ∙ sym (idle e) ∙ tail
        ∙ sym (one.moves ∙ ap (λ (ks : List ℕ). ks ++ who observer one.rest.entries) e)

-- as many rounds below as above
rounds-below : (observer : Label) (count : ℕ) (low_order order : List ℕ) (c : Configuration) (ticket : ℕ) (ran : Ran) → IsSound c → Below observer c low_order order → run ticket c (rounds_within stepped count order c) ≡ Some ran
    → rounds_within (low_stepped observer) count low_order (state observer c ran) ≡ who observer ran.entries
unfolding rounds_within
rounds-below observer zero low_order order c ticket ran sound below runs = sym (nobody-seen observer ticket c ran runs)
rounds-below observer (suc count) low_order order c ticket ran sound below runs = by (round stepped order c).moved refl (rounds-below observer count)
  where
    done : Round Configuration
    done = round stepped order c

    later : List ℕ
    later = rounds_within stepped count (order_after order done) done.after

    low_done : Round LowState
    low_done = round (low_stepped observer) low_order (state observer c ran)

    low_later : List ℕ
    low_later = rounds_within (low_stepped observer) count (order_after low_order low_done) low_done.after

    by : (moved : List ℕ) → done.moved ≡ moved
        → ((low_order' order' : List ℕ) (d : Configuration) (n : ℕ) (r : Ran) → IsSound d → Below observer d low_order' order' → run n d (rounds_within stepped count order' d) ≡ Some r → rounds_within (low_stepped observer) count low_order' (state observer d r) ≡ who observer r.entries)
        → followed low_done.moved low_later ≡ who observer ran.entries
    by [] e more =
        let none : followed done.moved later ≡ [] = ap (λ (ks : List ℕ). followed ks later) e in
        let no_one : who observer ran.entries ≡ [] = nobody-seen observer ticket c ran (ap (run ticket c) (sym none) ∙ runs) in
        let here : run ticket c (done.moved ++ []) ≡ Some ran = ap (run ticket c) (ap (λ (ks : List ℕ). ks ++ []) e ∙ sym none) ∙ runs in
        let one : OneRound observer low_order c done low_order order [] ran = round-below observer [] order c low_order low_order order ticket ran sound below below here in
        let still : low_done.moved ≡ [] = ap (λ (d : Round LowState). d.moved) one.is ∙ nil-first one.low.moved (who observer one.rest.entries) (sym one.moves ∙ no_one) in
        ap (λ (ks : List ℕ). followed ks low_later) still ∙ sym no_one
    by (k ∷ ks) e more =
        let here : run ticket c (done.moved ++ later) ≡ Some ran = ap (run ticket c) (sym (followed-some k ks done.moved later e)) ∙ runs in
        let one : OneRound observer low_order c done low_order order later ran = round-below observer later order c low_order low_order order ticket ran sound below below here in
        low-follow observer count low_order order later c done ran one (more (low_order ++ one.low.born) (order ++ done.born) done.after one.ticket one.rest (round-sound order c sound) one.orders one.goes)

-- who is seen to move in rounds
order-below : (observer : Label) (c : Configuration) (ran : Ran) → IsSound c → run 0 c (rounds c) ≡ Some ran → low_rounds observer (erase observer c) (releases observer ran.entries) ≡ who observer ran.entries
order-below observer c ran sound runs =
    rounds_within-enough (low_stepped observer) (λ x. measure x.configuration) (low_stepped-lowers observer) (measure (erase observer c)) (measure c) (tasks (erase observer c)) (state observer c ran) (omega arith) (erased-measure observer c)
    ∙ rounds-below observer (measure c) (tasks (erase observer c)) (tasks c) c 0 ran sound (tasks-below observer c) runs

pub rounds_are_erased_rounds : RoundsAreErasedRounds
rounds_are_erased_rounds observer c ran sound runs =
    let order = order-below observer c ran sound runs in
    let seen : RunSeenAs observer c ran = run_is_erased_run observer c (rounds c) ran sound runs in
    let end = rounds_run_to_the_end c in
    let some : Some end.ran ≡ Some ran = sym end.defined ∙ runs in
    let same : end.ran ≡ ran = cc in
    record {
      order = order;
      erased = ap (λ (ks : List ℕ). low_run observer 0 (erase observer c) ks (releases observer ran.entries)) order ∙ seen.erased;
      complete = complete_is_complete_below observer ran.last seen.sound (subst (λ (r : Ran). IsComplete r.last) same end.complete);
    }

pub rounds_look_alike : RoundsLookAlike
rounds_look_alike observer c d one two sound fine runs goes alike released =
    let first = (rounds_are_erased_rounds observer c one sound runs).erased in
    let second = (rounds_are_erased_rounds observer d two fine goes).erased in
    let a : LowRan = record { entries = view observer 0 one.entries; last = erase observer one.last; left = [] } in
    let b : LowRan = record { entries = view observer 0 two.entries; last = erase observer two.last; left = [] } in
    let some : Some a ≡ Some b =
    sym first ∙ ap (λ (x : Configuration). low_run_by_rounds observer x (releases observer one.entries)) alike ∙ ap (low_run_by_rounds observer (erase observer d)) released ∙ second in
    let same : a ≡ b = cc in
    record { views = ap (λ (r : LowRan). r.entries) same; last = ap (λ (r : LowRan). r.last) same }
