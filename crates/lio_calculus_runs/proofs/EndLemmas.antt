-- Rounds run to the end.
use Rattle.std.proofs.Common.{◌≡◌, ◌∙◌, refl, sym, ap, subst, ℕ, zero, suc, ◌+◌, ◌<◌, ◌≤◌, inl, inr, Bool, true, false, if◌then◌else◌, List, [], ◌∷◌, ◌++◌, length, Option, Some, None, is_some, append_assoc, append-nil, arith}
use Rattle.std.specs.Prelude.{option_and_then, option_map, slice_index_or}
use Rattle.lio_values.specs.declared.entry.Entry.{Entry}
use Rattle.lio_calculus.specs.Task.{TaskState}
use Rattle.lio_calculus.specs.Step.{Cell, Configuration, blank, cell_at, Turn, step}
use Rattle.lio_calculus.specs.Run.{Ran, ran_after, run}
use Rattle.lio_calculus.specs.Sound.{IsTaskOf, IsSound}
use Rattle.lio_calculus.proofs.StepKept.{turn-kept}
use Rattle.lio_calculus_runs.specs.Round.{Taken, born_in, Round, round, order_after, followed, rounds_within}
use Rattle.lio_calculus_runs.specs.Rounds.{IsComplete, measure, tasks_from, tasks, taken, stepped, rounds}
use Rattle.lio_calculus_runs.specs.RoundLaws.{RunIsBounded, RoundsRunToTheEnd, RoundsGoOn, RoundOfTwoParts, RoundMovesInOrder}
use Rattle.lio_calculus_runs.proofs.TurnLemmas.{parts, with_ticket, step-ticket, step-no-task}
use Rattle.lio_calculus_runs.proofs.MeasureLemmas.{turn_lowers_measure}
use Rattle.lio_calculus_runs.proofs.BirthLemmas.{Among, HasAll, turn-has_all}
use Rattle.lio_calculus_runs.proofs.RoundLemmas.{round-each, round-append, round-from, round-lowers, rounds_within-go_on}

-- a turn as rounds see it is a step
abbrev pub turned : Taken Configuration → Turn
turned t = record { entry = t.entry; next = t.next }

pub stepped-step : (c : Configuration) (k : ℕ) (t : Taken Configuration) → stepped c k ≡ Some t → step 0 c k ≡ Some (turned t)
stepped-step c k t is = by (step 0 c k) refl is
  where
    by : (o : Option Turn) → step 0 c k ≡ o → option_map taken o ≡ Some t → step 0 c k ≡ Some (turned t)
    by None e i = absurd (cc)
    by (Some turn) e i =
        let same : taken turn ≡ t = cc in
        e ∙ ap (λ (x : Taken Configuration). Some (turned x)) same

pub stepped-none : (c : Configuration) (k : ℕ) → stepped c k ≡ None → step 0 c k ≡ None
stepped-none c k is = by (step 0 c k) refl is
  where
    by : (o : Option Turn) → step 0 c k ≡ o → option_map taken o ≡ None → step 0 c k ≡ None
    by None e i = e
    by (Some turn) e i = absurd (cc)

pub stepped-lowers : (c : Configuration) (k : ℕ) (t : Taken Configuration) → stepped c k ≡ Some t → measure t.next < measure c
stepped-lowers c k t is = turn_lowers_measure 0 c k (turned t) (stepped-step c k t is)

pub stepped-sound : (c : Configuration) (k : ℕ) (t : Taken Configuration) → stepped c k ≡ Some t → IsSound c → IsSound t.next
stepped-sound c k t is sound =
    let steps = stepped-step c k t is in
    let p = parts 0 c k (turned t) steps in turn-kept 0 c k p.task (turned t) sound p.is_task steps

-- these actors run to a configuration, with tickets from a first one
abbrev pub RunsTo : ℕ → Configuration → List ℕ → Configuration → Type 0
RunsTo ticket c actors last = (entries : List Entry) × (run ticket c actors ≡ Some (record { entries = entries; last = last }))

run-first : (ticket : ℕ) (c : Configuration) (k : ℕ) (actors : List ℕ) (t : Taken Configuration) (last : Configuration) → stepped c k ≡ Some t → RunsTo (ticket + 1) t.next actors last → RunsTo ticket c (k ∷ actors) last
unfolding run
run-first ticket c k actors t last is later =
    let entry : Entry = record t.entry { ticket = ticket } in
    let now : step ticket c k ≡ Some (with_ticket ticket (turned t)) = step-ticket 0 ticket c k (turned t) (stepped-step c k t is) in (
      entry ∷ later.0,
      ap (λ (o : Option Turn). option_and_then (λ turn. option_map (ran_after turn.entry) (run (ticket + 1) turn.next actors)) o) now
          ∙ ap (λ (r : Option Ran). option_map (ran_after entry) r) later.1,
    )

nothing-run : (ticket : ℕ) (c : Configuration) → RunsTo ticket c [] c
unfolding run
nothing-run ticket c = ([], refl)

-- what follows a round follows those who moved in it
round-runs : (actors : List ℕ) (last : Configuration) (order : List ℕ) (c : Configuration) → ((ticket : ℕ) → RunsTo ticket (round stepped order c).after actors last) → (ticket : ℕ) → RunsTo ticket c ((round stepped order c).moved ++ actors) last
round-runs actors last =
    round-each stepped (λ order c done. ((ticket : ℕ) → RunsTo ticket done.after actors last) → (ticket : ℕ) → RunsTo ticket c (done.moved ++ actors) last)
    (λ c later. later)
    (λ k order c t done is goes later ticket. run-first ticket c k (done.moved ++ actors) t last is (goes later (ticket + 1)))
    (λ k order c done stays goes later. goes later)

-- a round keeps a configuration well-formed
pub round-sound : (order : List ℕ) (c : Configuration) → IsSound c → IsSound (round stepped order c).after
round-sound =
    round-each stepped (λ order c done. IsSound c → IsSound done.after)
    (λ c sound. sound)
    (λ k order c t done is goes sound. goes (stepped-sound c k t is sound))
    (λ k order c done stays goes sound. goes sound)

-- who is in the order of a round that moves nothing can't take a turn
round-still : (order : List ℕ) (c : Configuration) → (round stepped order c).moved ≡ [] → (k : ℕ) → Among k order → step 0 c k ≡ None
round-still =
    round-each stepped (λ order c done. done.moved ≡ [] → (k : ℕ) → Among k order → step 0 c k ≡ None)
    (λ c nothing k among. absurd among)
    (λ j order c t done is still nothing k among. absurd (cc))
    (λ j order c done stays still nothing k among. first j order c (stepped-none c j stays) (still nothing) k among)
  where
    first : (j : ℕ) (order : List ℕ) (c : Configuration) → step 0 c j ≡ None → ((k : ℕ) → Among k order → step 0 c k ≡ None) → (k : ℕ) → Among k (j ∷ order) → step 0 c k ≡ None
    first j order c stays still k (inl e) = subst (λ (n : ℕ). step 0 c n ≡ None) (sym e) stays
    first j order c stays still k (inr q) = still k q

-- with who was born in a round an order goes on having every task
round-has_all : (walked : List ℕ) (c : Configuration) (order : List ℕ) → HasAll order c → HasAll (order ++ (round stepped walked c).born) (round stepped walked c).after
round-has_all =
    round-each stepped (λ walked c done. (order : List ℕ) → HasAll order c → HasAll (order ++ done.born) done.after)
    (λ c order all. subst (λ (ks : List ℕ). HasAll ks c) (sym (append-nil order)) all)
    (λ k walked c t done is goes order all. subst (λ (ks : List ℕ). HasAll ks done.after) (append_assoc order (born_in t.entry) done.born)
    (goes (order ++ born_in t.entry) (turn-has_all order 0 c k (turned t) (stepped-step c k t is) all)))
    (λ k walked c done stays goes order all. goes order all)

-- where none of the tasks can take a turn, the configuration is complete
none-moves : (c : Configuration) → ((k : ℕ) (task : TaskState) → IsTaskOf c k task → step 0 c k ≡ None) → IsComplete c
none-moves c none k = ap (λ (t : Option Turn). is_some t) (by (cell_at c k).task refl)
  where
    by : (t : Option TaskState) → (cell_at c k).task ≡ t → step 0 c k ≡ None
    by None e = step-no-task 0 c k e
    by (Some task) e = none k task e

-- actors run to the end, from any ticket
pub record Ends (c : Configuration) (actors : List ℕ) : Type 0 where
  pub last : Configuration
  pub runs : (ticket : ℕ) → RunsTo ticket c actors last
  pub complete : IsComplete last
  pub sound : IsSound c → IsSound last

-- where nobody moves
ends-here : (c : Configuration) → ((k : ℕ) (task : TaskState) → IsTaskOf c k task → step 0 c k ≡ None) → Ends c []
ends-here c none = record { last = c; runs = λ ticket. nothing-run ticket c; complete = none-moves c none; sound = λ sound. sound }

-- as many rounds as the measure says are enough
pub rounds-end : (count : ℕ) (order : List ℕ) (c : Configuration) → measure c ≤ count → HasAll order c → Ends c (rounds_within stepped count order c)
unfolding rounds_within
rounds-end zero order c few all = ends-here c (λ k task is. none k (step 0 c k) refl)
  where
    none : (k : ℕ) (t : Option Turn) → step 0 c k ≡ t → step 0 c k ≡ None
    none k None e = e
    none k (Some turn) e = let less = turn_lowers_measure 0 c k turn e in absurd (omega (arith, few, less))
rounds-end (suc count) order c few all = by (round stepped order c).moved refl (rounds-end count)
  where
    done : Round Configuration
    done = round stepped order c

    later : List ℕ
    later = rounds_within stepped count (order_after order done) done.after

    by : (moved : List ℕ) → done.moved ≡ moved → ((order' : List ℕ) (d : Configuration) → measure d ≤ count → HasAll order' d → Ends d (rounds_within stepped count order' d)) → Ends c (followed done.moved later)
    by [] e next = subst (λ (ks : List ℕ). Ends c (followed ks later)) (sym e) (ends-here c (λ k task is. round-still order c e k (all k task is)))
    by (k ∷ js) e next =
        let size : length done.moved ≡ suc (length js) = ap length e in
        let fewer : measure done.after ≤ count = omega (arith, round-lowers stepped measure stepped-lowers order c, size, few) in
        let end : Ends done.after later = next (order_after order done) done.after fewer (round-has_all order c order all) in
        let same : done.moved ++ later ≡ followed done.moved later = ap (λ (ks : List ℕ). ks ++ later) e ∙ ap (λ (ks : List ℕ). followed ks later) (sym e) in
        record {
          last = end.last;
          runs = λ ticket. subst (λ (ks : List ℕ). RunsTo ticket c ks end.last) same (round-runs later end.last order c end.runs ticket);
          complete = end.complete;
          sound = λ sound. end.sound (round-sound order c sound);
        }

-- the tasks by number are all tasks
among-tasks_from : (first : ℕ) (cells : List Cell) (k : ℕ) (task : TaskState) → (slice_index_or cells k blank).task ≡ Some task → Among (first + k) (tasks_from first cells)
unfolding tasks_from
among-tasks_from first [] k task is = absurd (cc)
among-tasks_from first (cell ∷ cells) zero task is =
    let some : is_some cell.task ≡ true = ap is_some is in
    let here : first + 0 ≡ first = omega arith in
    subst (λ (b : Bool). Among (first + 0) (if b then first ∷ tasks_from (first + 1) cells else tasks_from (first + 1) cells)) (sym some) (inl here)
among-tasks_from first (cell ∷ cells) (suc k) task is =
    let same : first + 1 + k ≡ first + suc k = omega arith in
    by (is_some cell.task) (subst (λ (n : ℕ). Among n (tasks_from (first + 1) cells)) same (among-tasks_from (first + 1) cells k task is))
  where
    by : (b : Bool) → Among (first + suc k) (tasks_from (first + 1) cells) → Among (first + suc k) (if b then first ∷ tasks_from (first + 1) cells else tasks_from (first + 1) cells)
    by true next = inr next
    by false next = next

pub tasks-all : (c : Configuration) → HasAll (tasks c) c
tasks-all c k task is =
    let same : 0 + k ≡ k = omega arith in
    subst (λ (n : ℕ). Among n (tasks c)) same (among-tasks_from 0 c.cells k task is)

pub rounds_run_to_the_end : RoundsRunToTheEnd
rounds_run_to_the_end c =
    let end : Ends c (rounds c) = rounds-end (measure c) (tasks c) c (omega arith) (tasks-all c) in
    let runs = end.runs 0 in
    record {
      ran = record { entries = runs.0; last = end.last };
      defined = runs.1;
      complete = end.complete;
      sound = end.sound;
    }

pub rounds_go_on : RoundsGoOn
rounds_go_on order c = rounds_within-go_on stepped measure stepped-lowers order c

pub round_of_two_parts : RoundOfTwoParts
round_of_two_parts c one two = round-append stepped one two c

pub round_moves_in_order : RoundMovesInOrder
round_moves_in_order c order = round-from stepped order c

-- a run has no more turns than the measure falls
pub run_is_bounded : RunIsBounded
unfolding run
run_is_bounded ticket c [] ran is =
    let here : Ran = record { entries = []; last = c } in
    let same : here ≡ ran = cc in
    subst (λ (r : Ran). measure r.last + 0 ≤ measure c) same (omega arith)
run_is_bounded ticket c (k ∷ actors) ran is = first (step ticket c k) refl is (λ (d : Configuration) (r : Ran). run_is_bounded (ticket + 1) d actors r)
  where
    rest : (turn : Turn) (later : Option Ran) → step ticket c k ≡ Some turn → run (ticket + 1) turn.next actors ≡ later → option_map (ran_after turn.entry) later ≡ Some ran
        → ((d : Configuration) (r : Ran) → run (ticket + 1) d actors ≡ Some r → measure r.last + length actors ≤ measure d) → measure ran.last + suc (length actors) ≤ measure c
    rest turn None steps goes is bounded = absurd (cc)
    rest turn (Some later) steps goes is bounded =
        let same : ran_after turn.entry later ≡ ran = cc in
        let less = turn_lowers_measure ticket c k turn steps in
        let most = bounded turn.next later goes in
        subst (λ (r : Ran). measure r.last + suc (length actors) ≤ measure c) same (omega (arith, less, most))

    first : (o : Option Turn) → step ticket c k ≡ o → option_and_then (λ turn. option_map (ran_after turn.entry) (run (ticket + 1) turn.next actors)) o ≡ Some ran
        → ((d : Configuration) (r : Ran) → run (ticket + 1) d actors ≡ Some r → measure r.last + length actors ≤ measure d) → measure ran.last + suc (length actors) ≤ measure c
    first None steps is bounded = absurd (cc)
    first (Some turn) steps is bounded = rest turn (run (ticket + 1) turn.next actors) steps refl is bounded
