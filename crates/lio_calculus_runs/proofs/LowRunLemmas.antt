-- Rounds of the erased calculus run to the end.
use Rattle.std.proofs.Common.{◌≡◌, ◌∙◌, refl, sym, ap, subst, ℕ, zero, suc, ◌+◌, ◌<◌, ◌≤◌, ◌⊎◌, inl, inr, List, [], ◌∷◌, ◌++◌, length, Option, Some, None, append_assoc, append-nil, arith}
use Rattle.std.specs.Prelude.{option_and_then, option_map}
use Rattle.lio_labels.specs.declared.label.Label.{Label}
use Rattle.lio_values.specs.declared.value.Content.{Content}
use Rattle.lio_values.specs.declared.entry.Entry.{Entry}
use Rattle.lio_values.specs.Erasure.{erase_entry}
use Rattle.lio_calculus.specs.Task.{TaskState}
use Rattle.lio_calculus.specs.Step.{Configuration, cell_at, Move, after, entry_of}
use Rattle.lio_calculus.specs.Erased.{erase, LowTurn, low_turn, low}
use Rattle.lio_calculus.specs.Run.{low_ran_after, low_run}
use Rattle.lio_calculus.specs.Sound.{IsTaskOf}
use Rattle.lio_calculus.proofs.EnabledLemmas.{task-absent}
use Rattle.lio_calculus_runs.specs.Round.{Taken, born_in, Round, round, order_after, followed, rounds_within}
use Rattle.lio_calculus_runs.specs.Rounds.{measure, tasks}
use Rattle.lio_calculus_runs.specs.LowRounds.{LowState, low_taken, low_stepped, low_rounds}
use Rattle.lio_calculus_runs.specs.LowLaws.{LowRoundsGoOn, LowRoundsRunToTheEnd}
use Rattle.lio_calculus_runs.proofs.BirthLemmas.{Among, among-left, among-right, HasAll, Covers, after-covers}
use Rattle.lio_calculus_runs.proofs.LowTurnLemmas.{LowParts, low-parts, low_with_ticket, low_ticket_stands_in_the_entry, born-erased}
use Rattle.lio_calculus_runs.proofs.LowMeasure.{low_turn_lowers_measure}
use Rattle.lio_calculus_runs.proofs.RoundLemmas.{round-each, round-lowers, rounds_within-go_on}
use Rattle.lio_calculus_runs.proofs.EndLemmas.{tasks-all}

-- an erased turn as rounds see it is an erased step
abbrev low_turned : Taken LowState → LowTurn
low_turned t = record { entry = t.entry; next = t.next.configuration; left = t.next.contents }

low_stepped-low : (observer : Label) (s : LowState) (k : ℕ) (t : Taken LowState) → low_stepped observer s k ≡ Some t → low observer 0 s.configuration k s.contents ≡ Some (low_turned t)
low_stepped-low observer s k t is = by (low observer 0 s.configuration k s.contents) refl is
  where
    by : (o : Option LowTurn) → low observer 0 s.configuration k s.contents ≡ o → option_map low_taken o ≡ Some t → low observer 0 s.configuration k s.contents ≡ Some (low_turned t)
    by None e i = absurd (cc)
    by (Some turn) e i =
        let same : low_taken turn ≡ t = cc in
        e ∙ ap (λ (x : Taken LowState). Some (low_turned x)) same

low_stepped-none : (observer : Label) (s : LowState) (k : ℕ) → low_stepped observer s k ≡ None → low observer 0 s.configuration k s.contents ≡ None
low_stepped-none observer s k is = by (low observer 0 s.configuration k s.contents) refl is
  where
    by : (o : Option LowTurn) → low observer 0 s.configuration k s.contents ≡ o → option_map low_taken o ≡ None → low observer 0 s.configuration k s.contents ≡ None
    by None e i = e
    by (Some turn) e i = absurd (cc)

pub low_stepped-lowers : (observer : Label) (s : LowState) (k : ℕ) (t : Taken LowState) → low_stepped observer s k ≡ Some t → measure t.next.configuration < measure s.configuration
low_stepped-lowers observer s k t is = low_turn_lowers_measure observer 0 s.configuration k s.contents (low_turned t) (low_stepped-low observer s k t is)

pub low_rounds_go_on : LowRoundsGoOn
low_rounds_go_on observer order s = rounds_within-go_on (low_stepped observer) (λ x. measure x.configuration) (low_stepped-lowers observer) order s

-- these actors run to a state, with tickets from a first one
abbrev LowRunsTo : Label → ℕ → LowState → List ℕ → LowState → Type 0
LowRunsTo observer ticket s actors last = (entries : List Entry) × (low_run observer ticket s.configuration actors s.contents ≡ Some (record { entries = entries; last = last.configuration; left = last.contents }))

run-first : (observer : Label) (ticket : ℕ) (s : LowState) (k : ℕ) (actors : List ℕ) (t : Taken LowState) (last : LowState) → low_stepped observer s k ≡ Some t → LowRunsTo observer (ticket + 1) t.next actors last → LowRunsTo observer ticket s (k ∷ actors) last
unfolding low_run
run-first observer ticket s k actors t last is later =
    let entry : Entry = record t.entry { ticket = ticket } in
    let now : low observer ticket s.configuration k s.contents ≡ Some (low_with_ticket ticket (low_turned t)) =
    low_ticket_stands_in_the_entry observer 0 ticket s.configuration k s.contents (low_turned t) (low_stepped-low observer s k t is) in (
      entry ∷ later.0,
      ap (option_and_then (λ (turn : LowTurn). option_map (low_ran_after turn.entry) (low_run observer (ticket + 1) turn.next actors turn.left))) now
          ∙ ap (option_map (low_ran_after entry)) later.1,
    )

nothing-run : (observer : Label) (ticket : ℕ) (s : LowState) → LowRunsTo observer ticket s [] s
unfolding low_run
nothing-run observer ticket s = ([], refl)

-- what follows a round follows those who moved in it
round-runs : (observer : Label) (actors : List ℕ) (last : LowState) (order : List ℕ) (s : LowState) → ((ticket : ℕ) → LowRunsTo observer ticket (round (low_stepped observer) order s).after actors last)
    → (ticket : ℕ) → LowRunsTo observer ticket s ((round (low_stepped observer) order s).moved ++ actors) last
round-runs observer actors last =
    round-each (low_stepped observer) (λ order s done. ((ticket : ℕ) → LowRunsTo observer ticket done.after actors last) → (ticket : ℕ) → LowRunsTo observer ticket s (done.moved ++ actors) last)
    (λ s later. later)
    (λ k order s t done is goes later ticket. run-first observer ticket s k (done.moved ++ actors) t last is (goes later (ticket + 1)))
    (λ k order s done stays goes later. goes later)

-- who is in the order of a round that moves nothing can't take a turn
round-still : (observer : Label) (order : List ℕ) (s : LowState) → (round (low_stepped observer) order s).moved ≡ [] → (k : ℕ) → Among k order → low observer 0 s.configuration k s.contents ≡ None
round-still observer =
    round-each (low_stepped observer) (λ order s done. done.moved ≡ [] → (k : ℕ) → Among k order → low observer 0 s.configuration k s.contents ≡ None)
    (λ s nothing k among. absurd among)
    (λ j order s t done is still nothing k among. absurd (cc))
    (λ j order s done stays still nothing k among. first j order s (low_stepped-none observer s j stays) (still nothing) k among)
  where
    first : (j : ℕ) (order : List ℕ) (s : LowState) → low observer 0 s.configuration j s.contents ≡ None → ((k : ℕ) → Among k order → low observer 0 s.configuration k s.contents ≡ None) → (k : ℕ) → Among k (j ∷ order) → low observer 0 s.configuration k s.contents ≡ None
    first j order s stays still k (inl e) = subst (λ (n : ℕ). low observer 0 s.configuration n s.contents ≡ None) (sym e) stays
    first j order s stays still k (inr q) = still k q

-- what stands in an erased configuration is a task of the configuration
erased-covers : (P : ℕ → Type 0) (observer : Label) (c : Configuration) → Covers P c → Covers P (erase observer c)
erased-covers P observer c covers k task is = by (cell_at c k).task refl
  where
    by : (t : Option TaskState) → (cell_at c k).task ≡ t → P k
    by None e = let none : Some task ≡ None = sym is ∙ task-absent observer c k e in absurd (cc)
    by (Some x) e = covers k x e

-- with who is born in an erased turn an order goes on having every task
turn-has_all : (observer : Label) (order : List ℕ) (ticket : ℕ) (c : Configuration) (k : ℕ) (contents : List Content) (turn : LowTurn) → low observer ticket c k contents ≡ Some turn → HasAll order c → HasAll (order ++ born_in turn.entry) turn.next
turn-has_all observer order ticket c k contents turn takes all =
    let p = low-parts observer ticket c k contents turn takes in
    subst (λ (t : LowTurn). HasAll (order ++ born_in t.entry) t.next) p.is_turn (each p)
  where
    each : (p : LowParts observer ticket c k contents turn) → HasAll (order ++ born_in (erase_entry observer (entry_of ticket k p.task (record p.move { act = p.o.act })))) (erase observer (after c k p.task (record p.move { act = p.o.act })))
    each p =
        let seen : Move = record p.move { act = p.o.act } in
        let entry : Entry = entry_of ticket k p.task seen in
        erased-covers (λ n. Among n (order ++ born_in (erase_entry observer entry))) observer (after c k p.task seen)
        (λ n x is. subst (λ (born : List ℕ). Among n (order ++ born)) (sym (born-erased observer entry)) (either n entry (after-covers (λ m. Among m order) c k p.task seen p.is_task all n x is)))
      where
        either : (n : ℕ) (entry : Entry) → Among n order ⊎ Among n (born_in entry) → Among n (order ++ born_in entry)
        either n entry (inl a) = among-left n order (born_in entry) a
        either n entry (inr b) = among-right n order (born_in entry) b

round-has_all : (observer : Label) (walked : List ℕ) (s : LowState) (order : List ℕ) → HasAll order s.configuration → HasAll (order ++ (round (low_stepped observer) walked s).born) (round (low_stepped observer) walked s).after.configuration
round-has_all observer =
    round-each (low_stepped observer) (λ walked s done. (order : List ℕ) → HasAll order s.configuration → HasAll (order ++ done.born) done.after.configuration)
    (λ s order all. subst (λ (ks : List ℕ). HasAll ks s.configuration) (sym (append-nil order)) all)
    (λ k walked s t done is goes order all. subst (λ (ks : List ℕ). HasAll ks done.after.configuration) (append_assoc order (born_in t.entry) done.born)
    (goes (order ++ born_in t.entry) (turn-has_all observer order 0 s.configuration k s.contents (low_turned t) (low_stepped-low observer s k t is) all)))
    (λ k walked s done stays goes order all. goes order all)

-- what has no task takes no erased turn
low-no-task : (observer : Label) (c : Configuration) (k : ℕ) (contents : List Content) → (cell_at c k).task ≡ None → low observer 0 c k contents ≡ None
unfolding low
low-no-task observer c k contents none = ap (option_and_then (low_turn observer 0 c k contents)) none

-- actors run to the end, from any ticket
record Ends (observer : Label) (s : LowState) (actors : List ℕ) : Type 0 where
  last : LowState
  runs : (ticket : ℕ) → LowRunsTo observer ticket s actors last
  still : (k : ℕ) → low observer 0 last.configuration k last.contents ≡ None

ends-here : (observer : Label) (s : LowState) → ((k : ℕ) (task : TaskState) → IsTaskOf s.configuration k task → low observer 0 s.configuration k s.contents ≡ None) → Ends observer s []
ends-here observer s none = record { last = s; runs = λ ticket. nothing-run observer ticket s; still = λ k. by k (cell_at s.configuration k).task refl }
  where
    by : (k : ℕ) (t : Option TaskState) → (cell_at s.configuration k).task ≡ t → low observer 0 s.configuration k s.contents ≡ None
    by k None e = low-no-task observer s.configuration k s.contents e
    by k (Some task) e = none k task e

-- as many rounds as the measure says are enough
rounds-end : (observer : Label) (count : ℕ) (order : List ℕ) (s : LowState) → measure s.configuration ≤ count → HasAll order s.configuration → Ends observer s (rounds_within (low_stepped observer) count order s)
unfolding rounds_within
rounds-end observer zero order s few all = ends-here observer s (λ k task is. none k (low observer 0 s.configuration k s.contents) refl)
  where
    none : (k : ℕ) (t : Option LowTurn) → low observer 0 s.configuration k s.contents ≡ t → low observer 0 s.configuration k s.contents ≡ None
    none k None e = e
    none k (Some turn) e = let less = low_turn_lowers_measure observer 0 s.configuration k s.contents turn e in absurd (omega (arith, few, less))
rounds-end observer (suc count) order s few all = by (round (low_stepped observer) order s).moved refl (rounds-end observer count)
  where
    done : Round LowState
    done = round (low_stepped observer) order s

    later : List ℕ
    later = rounds_within (low_stepped observer) count (order_after order done) done.after

    by : (moved : List ℕ) → done.moved ≡ moved → ((order' : List ℕ) (d : LowState) → measure d.configuration ≤ count → HasAll order' d.configuration → Ends observer d (rounds_within (low_stepped observer) count order' d)) → Ends observer s (followed done.moved later)
    by [] e next = subst (λ (ks : List ℕ). Ends observer s (followed ks later)) (sym e) (ends-here observer s (λ k task is. round-still observer order s e k (all k task is)))
    by (k ∷ js) e next =
        let size : length done.moved ≡ suc (length js) = ap length e in
        let fewer : measure done.after.configuration ≤ count = omega (arith, round-lowers (low_stepped observer) (λ x. measure x.configuration) (low_stepped-lowers observer) order s, size, few) in
        let end : Ends observer done.after later = next (order_after order done) done.after fewer (round-has_all observer order s order all) in
        let same : done.moved ++ later ≡ followed done.moved later = ap (λ (ks : List ℕ). ks ++ later) e ∙ ap (λ (ks : List ℕ). followed ks later) (sym e) in
        record {
          last = end.last;
          runs = λ ticket. subst (λ (ks : List ℕ). LowRunsTo observer ticket s ks end.last) same (round-runs observer later end.last order s end.runs ticket);
          still = end.still;
        }

pub low_rounds_run_to_the_end : LowRoundsRunToTheEnd
low_rounds_run_to_the_end observer c contents =
    let end : Ends observer (record { configuration = c; contents = contents }) (low_rounds observer c contents) =
    rounds-end observer (measure c) (tasks c) (record { configuration = c; contents = contents }) (omega arith) (tasks-all c) in
    let runs = end.runs 0 in
    record {
      ran = record { entries = runs.0; last = end.last.configuration; left = end.last.contents };
      defined = runs.1;
      still = end.still;
    }
