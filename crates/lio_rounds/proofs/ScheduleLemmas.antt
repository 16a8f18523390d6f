-- Runs by schedules.
use Rattle.std.proofs.Common.{◌≡◌, ◌∙◌, refl, sym, ap, subst, ℕ, ◌+◌, Bool, true, false, true≢false, List, [], ◌∷◌, ◌++◌, length, length-append, append_assoc, append-nil, Option, Some, None, is_some}
use Rattle.std.specs.Prelude.{Result, Ok, Err, IfOk}
use Rattle.std.specs.Option.{option_map_or}
use Rattle.lio_clauses.specs.declared.faults.NoMemory.{NoMemory}
use Rattle.lio_values.specs.declared.entry.Entry.{Entry}
use Rattle.lio_syntax.specs.Statements.{Procedure}
use Rattle.lio_start.specs.Job.{IsJob, JobParts, first_of}
use Rattle.lio_calculus.specs.Step.{Configuration, Turn, can, step}
use Rattle.lio_calculus.specs.Run.{Ran, run}
use Rattle.lio_calculus_runs.proofs.TurnLemmas.{step-ticket}
use Rattle.lio_rounds.specs.MachineState.{MachineState}
use Rattle.lio_rounds.proofs.MachineRuns.{run-nothing, run-step}
use Rattle.lio_rounds.specs.declared.by_schedule.Scheduled.{Scheduled}
use Rattle.lio_rounds.specs.Headline.{KeepsToPolicy}
use Rattle.lio_rounds.specs.Runs.{ran_of}
use Rattle.lio_rounds.specs.Schedule.{HasGoneOn, ScheduledRun, behind, by_schedule, passed_over, scheduled_of, takers}
use Rattle.lio_rounds.proofs.RunLemmas.{keeps-to_policy}

-- a run by a schedule, over a task that can't take its turn and over one that does
by-still : (ticket : ℕ) (c : Configuration) (k : ℕ) (ks : List ℕ) → step ticket c k ≡ None → by_schedule ticket c (k ∷ ks) ≡ passed_over (by_schedule ticket c ks)
unfolding by_schedule
by-still ticket c k ks still = ap (λ (t : Option Turn). option_map_or (λ turn. behind turn.entry (by_schedule (ticket + 1) turn.next ks)) t (passed_over (by_schedule ticket c ks))) still

by-turn : (ticket : ℕ) (c : Configuration) (k : ℕ) (ks : List ℕ) (turn : Turn) → step ticket c k ≡ Some turn → by_schedule ticket c (k ∷ ks) ≡ behind turn.entry (by_schedule (ticket + 1) turn.next ks)
unfolding by_schedule
by-turn ticket c k ks turn steps = ap (λ (t : Option Turn). option_map_or (λ turn. behind turn.entry (by_schedule (ticket + 1) turn.next ks)) t (passed_over (by_schedule ticket c ks))) steps

by-nothing : (ticket : ℕ) (c : Configuration) → by_schedule ticket c [] ≡ record { entries = []; last = c; taken = [] }
unfolding by_schedule
by-nothing ticket c = refl

-- whether a task can take its turn doesn't depend on the ticket
still-step : (ticket : ℕ) (c : Configuration) (k : ℕ) → can c k ≡ false → step ticket c k ≡ None
still-step ticket c k still = by (step ticket c k) refl
  where
    by : (t : Option Turn) → step ticket c k ≡ t → t ≡ None
    by None e = refl
    by (Some turn) e = absurd (true≢false (sym (ap is_some (step-ticket ticket 0 c k turn e)) ∙ still))

-- what was run before
abbrev pub prepend : List Entry → List Bool → ScheduledRun → ScheduledRun
prepend entries taken rest = record rest { entries = entries ++ rest.entries; taken = taken ++ rest.taken }

-- What a machine has run so far, with the run by what is left of the schedule, is the run by the schedule.
pub record IsSoFar (script : List Procedure) (start : Configuration) (schedule rest : List ℕ) (machine : MachineState) (taken : List Bool) : Type 0 where
  pub whole : prepend machine.entries taken (by_schedule (length machine.entries) machine.configuration rest) ≡ by_schedule 0 start schedule
  pub script_is : machine.script ≡ script

pub so_far-none : (script : List Procedure) (start : Configuration) (schedule order : List ℕ) → IsSoFar script start schedule schedule (record { script = script; configuration = start; entries = []; order = order }) []
so_far-none script start schedule order = record { whole = refl; script_is = refl }

pub so_far-next : (script : List Procedure) (start : Configuration) (schedule rest : List ℕ) (k : ℕ) (old new : MachineState) (taken : List Bool) (moved : Bool)
    → IsSoFar script start schedule (k ∷ rest) old taken → HasGoneOn old new k moved → IsSoFar script start schedule rest new (taken ++ moved ∷ [])
so_far-next script start schedule rest k old new taken false so_far (same, still) =
    subst (λ (m : MachineState). IsSoFar script start schedule rest m (taken ++ false ∷ [])) (sym same) (record { whole = whole; script_is = so_far.script_is })
  where
    left : ScheduledRun
    left = by_schedule (length old.entries) old.configuration rest

    whole : prepend old.entries (taken ++ false ∷ []) left ≡ by_schedule 0 start schedule
    whole =
        ap (λ (t : List Bool). let r : ScheduledRun = record left { entries = old.entries ++ left.entries; taken = t } in r) (append_assoc taken (false ∷ []) left.taken)
        ∙ sym (ap (prepend old.entries taken) (by-still (length old.entries) old.configuration k rest (still-step (length old.entries) old.configuration k still)))
        ∙ so_far.whole
so_far-next script start schedule rest k old new taken true so_far (entry, took) =
    record { whole = whole; script_is = took.script ∙ so_far.script_is }
  where
    left : ℕ → ScheduledRun
    left n = by_schedule n new.configuration rest

    count : length new.entries ≡ length old.entries + 1
    count = ap length took.entries ∙ length-append old.entries (entry ∷ [])

    after : ScheduledRun
    after = left (length old.entries + 1)

    whole : prepend new.entries (taken ++ true ∷ []) (left (length new.entries)) ≡ by_schedule 0 start schedule
    whole =
        ap (λ (n : ℕ). prepend new.entries (taken ++ true ∷ []) (left n)) count
        ∙ ap (λ (es : List Entry). prepend es (taken ++ true ∷ []) after) took.entries
        ∙ ap (λ (es : List Entry). let r : ScheduledRun = record after { entries = es; taken = (taken ++ true ∷ []) ++ after.taken } in r) (append_assoc old.entries (entry ∷ []) after.entries)
        ∙ ap (λ (t : List Bool). let r : ScheduledRun = record after { entries = old.entries ++ entry ∷ after.entries; taken = t } in r) (append_assoc taken (true ∷ []) after.taken)
        ∙ sym (ap (prepend old.entries taken) (by-turn (length old.entries) old.configuration k rest (let turn : Turn = record { entry = entry; next = new.configuration } in turn) took.is_step))
        ∙ so_far.whole

-- nothing is left
pub so_far-end : (script : List Procedure) (start : Configuration) (schedule : List ℕ) (machine : MachineState) (taken : List Bool) → IsSoFar script start schedule [] machine taken
    → (let r : ScheduledRun = record { entries = machine.entries; last = machine.configuration; taken = taken } in r) ≡ by_schedule 0 start schedule
so_far-end script start schedule machine taken so_far =
    let made : List Entry → List Bool → ScheduledRun = λ es ts. record { entries = es; last = machine.configuration; taken = ts } in
    ap (λ (es : List Entry). made es taken) (sym (append-nil machine.entries))
    ∙ ap (made (machine.entries ++ [])) (sym (append-nil taken))
    ∙ sym (ap (prepend machine.entries taken) (by-nothing (length machine.entries) machine.configuration))
    ∙ so_far.whole

-- a run by a schedule is the run of the tasks that took their turns
pub schedule-runs : (ticket : ℕ) (c : Configuration) (ks : List ℕ) → run ticket c (takers ks (by_schedule ticket c ks).taken) ≡ Some (record { entries = (by_schedule ticket c ks).entries; last = (by_schedule ticket c ks).last })
unfolding takers
schedule-runs ticket c [] =
    ap (λ (s : ScheduledRun). run ticket c (takers [] s.taken)) (by-nothing ticket c) ∙ run-nothing ticket c
    ∙ ap (λ (s : ScheduledRun). let ran : Ran = record { entries = s.entries; last = s.last } in Some ran) (sym (by-nothing ticket c))
schedule-runs ticket c (k ∷ ks) = by (step ticket c k) refl (schedule-runs ticket c ks) (λ turn. schedule-runs (ticket + 1) turn.next ks)
  where
    Runs : ScheduledRun → Type 0
    Runs s = run ticket c (takers (k ∷ ks) s.taken) ≡ Some (record { entries = s.entries; last = s.last })

    by : (t : Option Turn) → step ticket c k ≡ t
        → run ticket c (takers ks (by_schedule ticket c ks).taken) ≡ Some (record { entries = (by_schedule ticket c ks).entries; last = (by_schedule ticket c ks).last })
        → ((turn : Turn) → run (ticket + 1) turn.next (takers ks (by_schedule (ticket + 1) turn.next ks).taken)
        ≡ Some (record { entries = (by_schedule (ticket + 1) turn.next ks).entries; last = (by_schedule (ticket + 1) turn.next ks).last }))
        → Runs (by_schedule ticket c (k ∷ ks))
    by None e same after = subst Runs (sym (by-still ticket c k ks e)) same
    by (Some turn) e same after =
        let rest : ScheduledRun = by_schedule (ticket + 1) turn.next ks in
        subst Runs (sym (by-turn ticket c k ks turn e)) (run-step ticket c k (takers ks rest.taken) turn (record { entries = rest.entries; last = rest.last }) e (after turn))

-- the run that a schedule gave
scheduled-run : (c : Configuration) (script : List Procedure) (schedule : List ℕ) (scheduled : Scheduled) → scheduled_of script scheduled ≡ by_schedule 0 c schedule
    → run 0 c (takers schedule (by_schedule 0 c schedule).taken) ≡ Some (ran_of script scheduled.ran)
scheduled-run c script schedule scheduled is =
    schedule-runs 0 c schedule ∙ ap (λ (s : ScheduledRun). let ran : Ran = record { entries = s.entries; last = s.last } in Some ran) (sym is)

-- so those who took their turns have run
pub schedule-is-run : (c : Configuration) (script : List Procedure) (schedule : List ℕ) (result : Result Scheduled NoMemory)
    → IfOk result (λ scheduled. scheduled_of script scheduled ≡ by_schedule 0 c schedule)
    → IfOk result (λ scheduled. run 0 c (takers schedule scheduled.taken.items) ≡ Some (ran_of script scheduled.ran))
schedule-is-run c script schedule (Ok scheduled) is =
    ap (λ (s : ScheduledRun). run 0 c (takers schedule s.taken)) is ∙ scheduled-run c script schedule scheduled is
schedule-is-run c script schedule (Err error) is = is

-- and the run keeps to the policy
pub schedule-keeps : (job : JobParts) (schedule : List ℕ) (result : Result Scheduled NoMemory) → IsJob job
    → IfOk result (λ scheduled. scheduled_of job.script scheduled ≡ by_schedule 0 (first_of job) schedule)
    → IfOk result (λ scheduled. KeepsToPolicy job (ran_of job.script scheduled.ran))
schedule-keeps job schedule (Ok scheduled) keeps is =
    keeps-to_policy job (takers schedule (by_schedule 0 (first_of job) schedule).taken) (ran_of job.script scheduled.ran) keeps
    (scheduled-run (first_of job) job.script schedule scheduled is)
schedule-keeps job schedule (Err error) keeps is = is
