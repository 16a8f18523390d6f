-- The turns of the erased calculus, by their parts.
use Rattle.std.proofs.Common.{◌≡◌, ◌∙◌, refl, sym, ap, subst, ℕ, Bool, true, false, true≢false, not, ◌&&◌, ◌||◌, if◌then◌else◌, List, [], ◌∷◌, Option, Some, None, is_some, option_and_then}
use Rattle.std.specs.Option.{option_map}
use Rattle.lio_labels.specs.declared.label.Label.{Label}
use Rattle.lio_labels.specs.Flow.{flows}
use Rattle.lio_values.specs.declared.value.Handle.{Handle}
use Rattle.lio_values.specs.declared.value.Content.{Content}
use Rattle.lio_values.specs.declared.value.Content.TheVariants.{Kept, Faulted, Hidden}
use Rattle.lio_values.specs.declared.act.Act.{Act}
use Rattle.lio_values.specs.declared.act.Act.TheVariants as act
use Rattle.lio_values.specs.declared.act.Reply.{Reply}
use Rattle.lio_values.specs.declared.act.Reply.TheVariants.{Done, Got, Told, Refused}
use Rattle.lio_values.specs.declared.entry.Entry.{Entry}
use Rattle.lio_values.specs.Erasure.{erase_act, erase_entry, erase_reply}
use Rattle.lio_values.specs.Purity.{KeepsPure}
use Rattle.lio_events.specs.Printable.{ReplyKeepsPure}
use Rattle.lio_syntax.specs.Statements.{Procedure}
use Rattle.lio_cells.specs.declared.state.State.{State}
use Rattle.lio_cells.specs.declared.state.State.TheVariants.{Absent}
use Rattle.lio_cells.specs.Node.{takes_part}
use Rattle.lio_cells.specs.State.{Kind, Reference, Channel, answer, is_of, is_absent, is_job, ready, state_after}
use Rattle.lio_calculus.specs.Task.{TaskState}
use Rattle.lio_calculus.specs.Going.{Onward, gone_on}
use Rattle.lio_calculus.specs.Hiding.{hide_task}
use Rattle.lio_calculus.specs.Plan.{Plan, Over, Own, Visit, Target, Node, New, plan}
use Rattle.lio_calculus.specs.Step.{Cell, Configuration, Move, after, blank, can, cell_at, has_label, is_met, met, met_after, move_of, number_of, target_after, visit, waits, with_cell}
use Rattle.lio_calculus.specs.Erased.{LowTurn, erase, erase_cell, hide_cell, low, low_turn, low_with, opened, opened_release, taking_front}
use Rattle.lio_calculus.specs.Sound.{EachInTask, IsTaskOf}
use Rattle.lio_calculus.specs.Purity.{ContentsArePure}
use Rattle.lio_calculus.specs.Afforded.{AffordsPlan, kind_met, makes}
use Rattle.lio_calculus.specs.Handles.{IsMetBy, handle_ahead}
use Rattle.lio_calculus.proofs.AffordedLemmas.{plan_affords}
use Rattle.lio_calculus.proofs.EnabledLemmas.{can-task}
use Rattle.lio_calculus.proofs.HandleLemmas.{visit_meets_handle}
use Rattle.lio_calculus.proofs.PlanEach.{EachInPlan}
use Rattle.lio_calculus.proofs.PurityLemmas.{MoveIsPure, ShowsPure, after_is_pure, answer-pure, plan-pure, plan-shown}
use Rattle.lio_calculus.proofs.TurnParts.{own-moves, own_move, visit-moves, visit_move}
use Rattle.lio_calculus.proofs.VisitLemmas.{answer-done}
use Rattle.lio_task_turns.specs.StateOf.{program_of}
use Rattle.lio_task.specs.Births.{CanBear}
use Rattle.lio_task.proofs.MoveLemmas.{act-bears}
use Rattle.lio_task.specs.declared.task.Task.{Task}
use Rattle.lio_task.specs.declared.config.Holder.{Holder}
use Rattle.lio_task.specs.declared.next.Next.TheVariants as next
use Rattle.lio_task.specs.Next.{next_by, resumed_by}
use Rattle.lio_task.specs.StateOf.{state_in}
use Rattle.lio_erasure.specs.Acts.{is_hidden, lacks_content, with_content}
use Rattle.lio_erasure.specs.Low.{IsErased, TasksAreJobs, holder_in, job_with, low_configuration_of, low_task_in, seen_cell, seen_task}
use Rattle.lio_erasure.specs.LowParts.{LowParts, ErasedState, low_of}
use Rattle.lio_erasure.specs.Turn.{CanAdvance, Follows, IsShown, LacksRelease, Moves, PlansAct, PlansOwn, PlansVisit, TakesTurn, VisitsNew, VisitsNode, placed, served}
use Rattle.lio_erasure.proofs.ActLemmas.{absent-unready, job-there, made-job, made-unwaiting, met-job, ready-erased}
use Rattle.lio_erasure.proofs.AfterLemmas.{KeepsJobs, actor-stays, after-jobs, made-between, met-between, missed-between, own-after, put-changed, task-inside, visit-after}
use Rattle.lio_erasure.proofs.CellLemmas.{cell-erased, seen-hidden, task-hidden, there-seen}
use Rattle.lio_erasure.proofs.HolderLemmas.{cell-low, task-low}
use Rattle.lio_erasure.proofs.JobLemmas.{is_erased, new-jobs, target-jobs}
use Rattle.lio_erasure.proofs.StayLemmas.{ActsAsSeen, answer-seen, by_told, gives-pure, own-seen, told-pure, visit-seen}

-- the parts after a turn: other holders
abbrev pub went_to : LowParts → List (Option Holder) → LowParts
went_to parts holders = record parts { holders = holders }

-- a move that was made, and what it leaves is as the observer sees it
pub record Makes (parts : LowParts) (went : List (Option Holder)) (k : ℕ) (asked : Act) (entry : Entry) : Type 0 where
  pub moved : Moves (low_of parts) (low_of (went_to parts went)) k asked entry
  pub erased : IsErased parts.observer (low_configuration_of parts.script parts.longest went)

-- What the turn of a task gives that is as the observer sees it: the observer sees the act's values and the reply, and sees the task go on.
pub record ActsIn (parts : LowParts) (k : ℕ) (asked : Act) (reply : Reply) : Type 0 where
  pub task : Task
  pub is : low_task_in parts.holders k ≡ Some task
  pub acts : ActsAsSeen parts.observer (program_of parts.script parts.longest) (state_in parts.script task) asked reply

task-seen : (parts : LowParts) (k : ℕ) (task : Task) → IsErased parts.observer (low_configuration_of parts.script parts.longest parts.holders) → low_task_in parts.holders k ≡ Some task
    → hide_task parts.observer (state_in parts.script task) ≡ state_in parts.script task
task-seen parts k task erased is =
    let observer : Label = parts.observer in
    let c : Configuration = low_configuration_of parts.script parts.longest parts.holders in
    let state : TaskState = state_in parts.script task in
    let here : IsTaskOf c k state = task-low parts.script parts.longest parts.holders k (Some task) is in
    let cell : option_map (hide_task observer) (cell_at c k).task ≡ (cell_at c k).task = ap (λ (x : Cell). x.task) (task-hidden observer (cell_at c k) state (cell-erased observer c k erased.erased) here) in
    let same : Some (hide_task observer state) ≡ Some state = ap (option_map (hide_task observer)) (sym here) ∙ cell ∙ here in
    cc

-- what the task of the plan does is pure
own-pure : (parts : LowParts) (k : ℕ) (asked : Act) (reply : Reply) → IsErased parts.observer (low_configuration_of parts.script parts.longest parts.holders) → (p : PlansOwn parts k asked reply) → MoveIsPure (own_move asked reply p.onward)
own-pure parts k asked reply erased p =
    let c : Configuration = low_configuration_of parts.script parts.longest parts.holders in
    let state : TaskState = state_in parts.script p.task in
    let mine : EachInTask KeepsPure state = erased.pure.tasks k state (task-low parts.script parts.longest parts.holders k (Some p.task) p.is) in
    let each : EachInPlan KeepsPure (Own p.planned reply p.onward) = subst (EachInPlan KeepsPure) p.plans (plan-pure c.program state mine) in
    let shown : ShowsPure (Own p.planned reply p.onward) = subst ShowsPure p.plans (plan-shown c.program state mine) in
    let planned : MoveIsPure (own_move p.planned reply p.onward) = record { asked = each.0; onward = each.1; shown = shown.0; reply = shown.1 } in
    by_told (λ a. MoveIsPure (own_move a reply p.onward)) p.planned asked p.told planned (λ content pure. told-pure p.planned reply p.onward content pure planned)

visit-pure : (parts : LowParts) (k n : ℕ) (asked : Act) (reply : Reply) → IsErased parts.observer (low_configuration_of parts.script parts.longest parts.holders) → (p : PlansVisit parts k asked n) → ReplyKeepsPure reply
    → MoveIsPure (record { act = asked; target = Some p.target; reply = reply; onward = p.onward })
visit-pure parts k n asked reply erased p pure =
    let c : Configuration = low_configuration_of parts.script parts.longest parts.holders in
    let state : TaskState = state_in parts.script p.task in
    let mine : EachInTask KeepsPure state = erased.pure.tasks k state (task-low parts.script parts.longest parts.holders k (Some p.task) p.is) in
    let each : EachInPlan KeepsPure (Visit asked p.target p.onward) = subst (EachInPlan KeepsPure) p.plans (plan-pure c.program state mine) in
    record { asked = each.0; onward = each.1; shown = subst ShowsPure p.plans (plan-shown c.program state mine); reply = pure }

pub own-acts : (parts : LowParts) (k : ℕ) (asked : Act) (reply : Reply) → IsErased parts.observer (low_configuration_of parts.script parts.longest parts.holders) → PlansOwn parts k asked reply → ActsIn parts k asked reply
own-acts parts k asked reply erased p = record {
  task = p.task;
  is = p.is;
  acts = own-seen parts.observer (program_of parts.script parts.longest) (state_in parts.script p.task) p.planned asked reply p.onward (task-seen parts k p.task erased p.is) p.plans p.told
      (gives-pure (own_move asked reply p.onward) (own-pure parts k asked reply erased p));
}

pub visit-acts : (parts : LowParts) (k n : ℕ) (asked : Act) (reply : Reply) → IsErased parts.observer (low_configuration_of parts.script parts.longest parts.holders) → PlansVisit parts k asked n → erase_reply parts.observer reply ≡ reply
    → ReplyKeepsPure reply → ActsIn parts k asked reply
visit-acts parts k n asked reply erased p replies pure = record {
  task = p.task;
  is = p.is;
  acts = visit-seen parts.observer (program_of parts.script parts.longest) (state_in parts.script p.task) asked reply p.target p.onward (task-seen parts k p.task erased p.is) p.plans replies
      (gives-pure (record { act = asked; target = Some p.target; reply = reply; onward = p.onward }) (visit-pure parts k n asked reply erased p pure));
}

-- so it can go on
pub can-advance : (parts : LowParts) (k : ℕ) (number : Option ℕ) (asked : Act) (reply : Reply) (shown : Entry) → ActsIn parts k asked reply → IsShown parts k number asked reply shown
    → CanAdvance parts.observer (low_configuration_of parts.script parts.longest parts.holders) shown.actor shown.act shown.reply
can-advance parts k number asked reply shown a shows =
    subst (λ (e : Entry). CanAdvance parts.observer (low_configuration_of parts.script parts.longest parts.holders) e.actor e.act e.reply) (sym (shows a.task a.is))
    (record { task = state_in parts.script a.task; is = task-low parts.script parts.longest parts.holders k (Some a.task) a.is; stays = a.acts.goes.stays })

-- and it does, whatever the turn made of the configuration before
went-by : (parts : LowParts) (between : Configuration) (went : List (Option Holder)) (k : ℕ) (number : Option ℕ) (asked : Act) (reply : Reply) (shown : Entry) (a : ActsIn parts k asked reply) (p : Plan)
    → let c : Configuration = low_configuration_of parts.script parts.longest parts.holders in let state : TaskState = state_in parts.script a.task in
    IsShown parts k number asked reply shown → plan c.program state ≡ p → Follows parts.observer c between (low_configuration_of parts.script parts.longest went) shown.actor shown.act shown.reply
    → low_configuration_of parts.script parts.longest went ≡ with_cell between k (job_with (cell_at between k).state (seen_task parts.observer (resumed_by state asked reply p)))
went-by parts between went k number asked reply shown a p shows plans follows =
    let observer : Label = parts.observer in
    let c : Configuration = low_configuration_of parts.script parts.longest parts.holders in
    let state : TaskState = state_in parts.script a.task in
    subst (λ (e : Entry). Follows observer c between (low_configuration_of parts.script parts.longest went) e.actor e.act e.reply) (shows a.task a.is) follows
    state (task-low parts.script parts.longest parts.holders k (Some a.task) a.is)
    ∙ ap (λ (t : Option TaskState). with_cell between k (job_with (cell_at between k).state t)) a.acts.goes.alike
    ∙ ap (λ (q : Plan). with_cell between k (job_with (cell_at between k).state (seen_task observer (resumed_by state asked reply q)))) plans

-- the parts of a turn: the move, and the configuration after it
makes-move : (parts : LowParts) (went : List (Option Holder)) (k : ℕ) (asked : Act) (reply : Reply) (number : Option ℕ) (task : Task) (move : Move) (shown : Entry)
    → let c : Configuration = low_configuration_of parts.script parts.longest parts.holders in let state : TaskState = state_in parts.script task in let made : Move = record move { act = asked } in
    IsTaskOf c k state → move_of (cell_at c) (plan c.program state) ≡ Some move → move.reply ≡ reply → option_map number_of move.target ≡ number
    → shown ≡ erase_entry parts.observer (record { ticket = 0; actor = k; target = number; at = task.label; act = asked; reply = reply })
    → low_configuration_of parts.script parts.longest went ≡ erase parts.observer (after c k state made) → TasksAreJobs (after c k state made) → ContentsArePure (after c k state made) → Makes parts went k asked shown
makes-move parts went k asked reply number task move shown is moves replies numbers shows comes jobs pure =
    let c : Configuration = low_configuration_of parts.script parts.longest parts.holders in
    let state : TaskState = state_in parts.script task in
    let made : Move = record move { act = asked } in
    record {
      moved = record {
        task = state;
        is = is;
        move = move;
        moves = moves;
        entry_is = shows
            ∙ ap (λ (n : Option ℕ). let e : Entry = record { ticket = 0; actor = k; target = n; at = state.label; act = asked; reply = reply } in erase_entry parts.observer e) (sym numbers)
            ∙ ap (λ (r : Reply). let e : Entry = record { ticket = 0; actor = k; target = option_map number_of move.target; at = state.label; act = asked; reply = r } in erase_entry parts.observer e) (sym replies);
        next = comes;
        observer = refl;
      };
      erased = subst (IsErased parts.observer) (sym comes) (is_erased parts.observer (after c k state made) jobs pure);
    }

entry-act : (parts : LowParts) (task : Task) (k : ℕ) (number : Option ℕ) (asked : Act) (reply : Reply) (shown : Entry) → low_task_in parts.holders k ≡ Some task → IsShown parts k number asked reply shown → shown.act ≡ erase_act parts.observer asked
entry-act parts task k number asked reply shown is shows = ap (λ (e : Entry). e.act) (shows task is)

-- an act of the task's own
pub own-made : (parts : LowParts) (went : List (Option Holder)) (k : ℕ) (asked : Act) (reply : Reply) (shown : Entry)
    → let c : Configuration = low_configuration_of parts.script parts.longest parts.holders in
    IsErased parts.observer c → PlansOwn parts k asked reply → IsShown parts k None asked reply shown
    → Follows parts.observer c (served c k shown.act) (low_configuration_of parts.script parts.longest went) shown.actor shown.act shown.reply → Makes parts went k asked shown
unfolding own-acts
own-made parts went k asked reply shown erased p shows follows =
    let observer : Label = parts.observer in
    let c : Configuration = low_configuration_of parts.script parts.longest parts.holders in
    let state : TaskState = state_in parts.script p.task in
    let is : IsTaskOf c k state = task-low parts.script parts.longest parts.holders k (Some p.task) p.is in
    let move : Move = own_move p.planned reply p.onward in
    let made : Move = own_move asked reply p.onward in
    let gone : Option TaskState = seen_task observer (gone_on state p.onward asked reply) in
    let there : Cell = record { state = state_after (cell_at c k).state (erase_act observer asked); task = (cell_at c k).task } in
    let went_is : low_configuration_of parts.script parts.longest went ≡ erase observer (after c k state made) =
    went-by parts (served c k shown.act) went k None asked reply shown (own-acts parts k asked reply erased p) (Own p.planned reply p.onward) shows p.plans follows
    ∙ ap (λ (a : Act). with_cell (served c k a) k (job_with (cell_at (served c k a) k).state gone)) (entry-act parts p.task k None asked reply shown p.is shows)
    ∙ put-changed c k there (λ (x : Cell). job_with x.state gone) (task-inside c k state is)
    ∙ sym (own-after observer c k state made erased.erased is refl) in
    makes-move parts went k asked reply None p.task move shown is (ap (move_of (cell_at c)) p.plans) refl refl (shows p.task p.is) went_is (after-jobs c k state made erased.jobs is)
    (after_is_pure c k state made erased.pure (erased.pure.tasks k state is) (own-pure parts k asked reply erased p))

-- a visit, whatever became of its target
visit-made : (parts : LowParts) (between : Configuration) (went : List (Option Holder)) (k n : ℕ) (asked : Act) (reply : Reply) (shown : Entry) (p : PlansVisit parts k asked n)
    → let c : Configuration = low_configuration_of parts.script parts.longest parts.holders in let state : TaskState = state_in parts.script p.task in
    IsErased parts.observer c → KeepsJobs asked → IsShown parts k (Some n) asked reply shown → erase_reply parts.observer reply ≡ reply → ReplyKeepsPure reply
    → visit asked p.target p.onward (met p.target (cell_at c n).state) ≡ Some (record { act = asked; target = Some p.target; reply = reply; onward = p.onward })
    → between ≡ erase parts.observer (target_after c state.label asked (Some p.target)) → TasksAreJobs (target_after c state.label asked (Some p.target))
    → Follows parts.observer c between (low_configuration_of parts.script parts.longest went) shown.actor shown.act shown.reply → Makes parts went k asked shown
unfolding visit-acts
visit-made parts between went k n asked reply shown p erased keeps shows replies pure moves between_is jobs follows =
    let observer : Label = parts.observer in
    let c : Configuration = low_configuration_of parts.script parts.longest parts.holders in
    let state : TaskState = state_in parts.script p.task in
    let is : IsTaskOf c k state = task-low parts.script parts.longest parts.holders k (Some p.task) p.is in
    let move : Move = record { act = asked; target = Some p.target; reply = reply; onward = p.onward } in
    let moves_is : move_of (cell_at c) (plan c.program state) ≡ Some move =
    ap (move_of (cell_at c)) p.plans ∙ ap (λ (m : ℕ). visit asked p.target p.onward (met p.target (cell_at c m).state)) p.number ∙ moves in
    let went_is : low_configuration_of parts.script parts.longest went ≡ erase observer (after c k state move) =
    went-by parts between went k (Some n) asked reply shown (visit-acts parts k n asked reply erased p replies pure) (Visit asked p.target p.onward) shows p.plans follows
    ∙ sym (visit-after observer c between k state move p.target erased.erased is erased.jobs keeps refl between_is) in
    let there : IsTaskOf (target_after c state.label asked (Some p.target)) k state = ap (λ (x : Cell). x.task) (actor-stays c k state state.label asked p.target is erased.jobs keeps) ∙ is in
    makes-move parts went k asked reply (Some n) p.task move shown is moves_is refl (ap Some p.number) (shows p.task p.is) went_is (after-jobs c k state move jobs there)
    (after_is_pure c k state move erased.pure (erased.pure.tasks k state is) (visit-pure parts k n asked reply erased p pure))

-- the moves of visits
visit-ready : (asked : Act) (target : Target) (onward : Onward) (state : State) → ready state asked ≡ true → visit asked target onward state ≡ Some (record { act = asked; target = Some target; reply = answer state asked; onward = onward })
visit-ready asked target onward state e = by (waits asked) (ready state asked) (record { act = asked; target = Some target; reply = answer state asked; onward = onward }) e
  where
    by : (waiting is : Bool) (move : Move) → is ≡ true → (if waiting && not is then None else Some move) ≡ Some move
    by true true move e = refl
    by true false move e = absurd (true≢false (sym e))
    by false is move e = refl

visit-unwaiting : (asked : Act) (target : Target) (onward : Onward) (state : State) → waits asked ≡ false → visit asked target onward state ≡ Some (record { act = asked; target = Some target; reply = Done; onward = onward })
visit-unwaiting asked target onward state e =
    ap (λ (w : Bool). if w && not (ready state asked) then None else Some (record { act = asked; target = Some target; reply = answer state asked; onward = onward })) e
    ∙ ap (λ (r : Reply). let move : Move = record { act = asked; target = Some target; reply = r; onward = onward } in Some move) (answer-done state asked e)

visit-waits : (asked : Act) (target : Target) (onward : Onward) (state : State) → waits asked ≡ true → ready state asked ≡ false → visit asked target onward state ≡ None
visit-waits asked target onward state w e = by (waits asked) (ready state asked) (record { act = asked; target = Some target; reply = answer state asked; onward = onward }) w e
  where
    by : (waiting is : Bool) (move : Move) → waiting ≡ true → is ≡ false → (if waiting && not is then None else Some move) ≡ None
    by true true move w e = absurd (true≢false e)
    by true false move w e = refl
    by false is move w e = absurd (true≢false (sym w))

-- a node that is ready is the one that the handle names
ready-met : (kind : Kind) (handle : Handle) (state : State) (asked : Act) → kind_met asked ≡ Some kind → ready (met (Node kind handle) state) asked ≡ true → is_met (Node kind handle) state ≡ true
ready-met kind handle state asked meets e = by (is_met (Node kind handle) state) refl
  where
    by : (b : Bool) → is_met (Node kind handle) state ≡ b → is_met (Node kind handle) state ≡ true
    by true is = is
    by false is = absurd (true≢false (sym e ∙ ap (λ (b : Bool). ready (if b then state else Absent) asked) is ∙ absent-unready kind asked meets))

met-there : (target : Target) (state : State) → is_met target state ≡ true → met target state ≡ state
met-there target state e = ap (λ (b : Bool). if b then state else Absent) e

-- and the node is there
pub ready-state : (parts : LowParts) (k n : ℕ) (asked : Act) → (v : VisitsNode parts k asked n true) → ready (cell_at (low_configuration_of parts.script parts.longest parts.holders) n).state asked ≡ true
ready-state parts k n asked v =
    let state : State = (cell_at (low_configuration_of parts.script parts.longest parts.holders) n).state in
    ap (λ (s : State). ready s asked) (sym (met-there (Node v.kind v.handle) state (ready-met v.kind v.handle state asked v.kind_is v.readiness))) ∙ v.readiness

ready-there : (kind : Kind) (cell : Cell) (asked : Act) → kind_met asked ≡ Some kind → ready cell.state asked ≡ true → cell ≡ blank → ⊥
ready-there kind cell asked meets e empty = true≢false (sym e ∙ ap (λ (x : Cell). ready x.state asked) empty ∙ absent-unready kind asked meets)

-- what it answers is as the observer sees it
met-reply : (parts : LowParts) (k n : ℕ) (asked : Act) (reply : Reply) → IsErased parts.observer (low_configuration_of parts.script parts.longest parts.holders) → VisitsNode parts k asked n true
    → reply ≡ answer (cell_at (low_configuration_of parts.script parts.longest parts.holders) n).state asked → erase_reply parts.observer reply ≡ reply
met-reply parts k n asked reply erased v replies =
    let observer : Label = parts.observer in
    let c : Configuration = low_configuration_of parts.script parts.longest parts.holders in
    let cell : Cell = cell_at c n in
    let seen : erase_cell observer cell ≡ cell = cell-erased observer c n erased.erased in
    let hidden : hide_cell observer cell ≡ cell = seen-hidden observer cell seen (there-seen observer cell seen (ready-there v.kind cell asked v.kind_is (ready-state parts k n asked v))) in
    ap (erase_reply observer) replies
    ∙ answer-seen observer c.program (state_in parts.script v.visits.task) asked v.visits.target v.visits.onward cell.state (task-seen parts k v.visits.task erased v.visits.is) v.visits.plans (ap (λ (x : Cell). x.state) hidden)
    ∙ sym replies

-- and pure
met-pure : (parts : LowParts) (n : ℕ) (asked : Act) (reply : Reply) → IsErased parts.observer (low_configuration_of parts.script parts.longest parts.holders)
    → reply ≡ answer (cell_at (low_configuration_of parts.script parts.longest parts.holders) n).state asked → ReplyKeepsPure reply
met-pure parts n asked reply erased replies =
    subst ReplyKeepsPure (sym replies) (answer-pure (cell_at (low_configuration_of parts.script parts.longest parts.holders) n).state asked (erased.pure.nodes n))

pub met-acts : (parts : LowParts) (k n : ℕ) (asked : Act) (reply : Reply) → IsErased parts.observer (low_configuration_of parts.script parts.longest parts.holders) → VisitsNode parts k asked n true
    → reply ≡ answer (cell_at (low_configuration_of parts.script parts.longest parts.holders) n).state asked → ActsIn parts k asked reply
met-acts parts k n asked reply erased v replies = visit-acts parts k n asked reply erased v.visits (met-reply parts k n asked reply erased v replies) (met-pure parts n asked reply erased replies)

-- a visit of a node that is ready
pub met-made : (parts : LowParts) (went : List (Option Holder)) (k n : ℕ) (asked : Act) (reply : Reply) (shown : Entry) (v : VisitsNode parts k asked n true)
    → let c : Configuration = low_configuration_of parts.script parts.longest parts.holders in
    IsErased parts.observer c → IsShown parts k (Some n) asked reply shown → reply ≡ answer (cell_at c n).state asked
    → Follows parts.observer c (served c n shown.act) (low_configuration_of parts.script parts.longest went) shown.actor shown.act shown.reply → Makes parts went k asked shown
met-made parts went k n asked reply shown v erased shows replies follows =
    let observer : Label = parts.observer in
    let c : Configuration = low_configuration_of parts.script parts.longest parts.holders in
    let label : Label = (state_in parts.script v.visits.task).label in
    let target : Target = v.visits.target in
    let cell : Cell = cell_at c n in
    let by_handle : Target = Node v.kind v.handle in
    let named : is_met by_handle cell.state ≡ true = ready-met v.kind v.handle cell.state asked v.kind_is v.readiness in
    let is_ready : ready cell.state asked ≡ true = ready-state parts k n asked v in
    let named_is : is_met target cell.state ≡ true = ap (λ (t : Target). is_met t cell.state) v.target ∙ named in
    let moves = ap (λ (s : State). visit asked target v.visits.onward s) (met-there target cell.state named_is) ∙ visit-ready asked target v.visits.onward cell.state is_ready
    ∙ ap (λ (r : Reply). let move : Move = record { act = asked; target = Some target; reply = r; onward = v.visits.onward } in Some move) (sym replies) in
    let between_is : served c n shown.act ≡ erase observer (target_after c label asked (Some target)) =
    ap (served c n) (entry-act parts v.visits.task k (Some n) asked reply shown v.visits.is shows)
    ∙ met-between observer c v.kind label asked target n erased.erased v.kind_is v.visits.number named_is (ready-there v.kind cell asked v.kind_is is_ready) in
    visit-made parts (served c n shown.act) went k n asked reply shown v.visits erased (λ state job. met-job v.kind state asked job v.kind_is) shows
    (met-reply parts k n asked reply erased v replies) (met-pure parts n asked reply erased replies) moves between_is
    (target-jobs c label asked v.kind n target erased.jobs v.kind_is v.visits.number) follows

-- a write or a send to a cell that is left out
pub missed-made : (parts : LowParts) (went : List (Option Holder)) (k n : ℕ) (asked : Act) (shown : Entry) (v : VisitsNode parts k asked n false) → waits asked ≡ false
    → let c : Configuration = low_configuration_of parts.script parts.longest parts.holders in
    IsErased parts.observer c → IsShown parts k (Some n) asked Done shown
    → Follows parts.observer c c (low_configuration_of parts.script parts.longest went) shown.actor shown.act shown.reply → Makes parts went k asked shown
unfolding ready
missed-made parts went k n asked shown v quick erased shows follows =
    let observer : Label = parts.observer in
    let c : Configuration = low_configuration_of parts.script parts.longest parts.holders in
    let label : Label = (state_in parts.script v.visits.task).label in
    let target : Target = v.visits.target in
    let state : State = (cell_at c n).state in
    let missed : is_met target state ≡ false = ap (λ (t : Target). is_met t state) v.target ∙ unmet asked v.kind v.handle state quick v.kind_is v.readiness in
    let missed_is : is_met target (cell_at c (number_of target)).state ≡ false = ap (λ (m : ℕ). is_met target (cell_at c m).state) v.visits.number ∙ missed in
    visit-made parts c went k n asked Done shown v.visits erased (λ s job. met-job v.kind s asked job v.kind_is) shows refl tt
    (visit-unwaiting asked target v.visits.onward (met target state) quick) (missed-between observer c label asked target erased.erased missed_is)
    (target-jobs c label asked v.kind n target erased.jobs v.kind_is v.visits.number) follows
  where
    -- a node of the kind is ready for what doesn't wait
    of_kind : (a : Act) (kind : Kind) (state : State) → waits a ≡ false → kind_met a ≡ Some kind → ready state a ≡ is_of kind state
    of_kind (act.Write value) kind state w e = let same : Reference ≡ kind = cc in ap (λ (x : Kind). is_of x state) same
    of_kind (act.Send text) kind state w e = let same : Channel ≡ kind = cc in ap (λ (x : Kind). is_of x state) same
    of_kind act.Read kind state w e = absurd (true≢false w)
    of_kind act.Take kind state w e = absurd (true≢false w)
    of_kind (act.Put value) kind state w e = absurd (true≢false w)
    of_kind act.Wait kind state w e = absurd (true≢false w)
    of_kind a kind state w e = absurd (cc)

    both : (a b : Bool) → (a && b) ≡ true → a ≡ true
    both true b e = refl
    both false b e = absurd (true≢false (sym e))

    unmet : (a : Act) (kind : Kind) (handle : Handle) (state : State) → waits a ≡ false → kind_met a ≡ Some kind → ready (met (Node kind handle) state) a ≡ false → is_met (Node kind handle) state ≡ false
    unmet a kind handle state w e r = by (is_met (Node kind handle) state) refl
      where
        by : (b : Bool) → is_met (Node kind handle) state ≡ b → is_met (Node kind handle) state ≡ false
        by false is = is
        by true is = absurd (true≢false (sym (of_kind a kind state w e ∙ both (is_of kind state) (has_label state handle.label) is) ∙ ap (λ (s : State). ready s a) (sym (met-there (Node kind handle) state is)) ∙ r))

-- a new node, which is placed only where nothing is
new-between : (observer : Label) (c : Configuration) (label : Label) (asked : Act) (n : ℕ) (b : Bool) → is_absent (cell_at c n).state ≡ b → IsErased observer c → makes asked ≡ true
    → (if b then with_cell c n (seen_cell observer (met_after c.program label (erase_act observer asked) blank)) else c) ≡ erase observer (target_after c label asked (Some (New n)))
new-between observer c label asked n true e erased makes_node = made-between observer c label asked n erased.erased erased.jobs makes_node e
new-between observer c label asked n false e erased makes_node = missed-between observer c label asked (New n) erased.erased e

new-placed : (parts : LowParts) (k n : ℕ) (asked : Act) (shown : Entry) (v : VisitsNew parts k asked n) (cell : Cell)
    → let c : Configuration = low_configuration_of parts.script parts.longest parts.holders in
    IsErased parts.observer c → IsShown parts k (Some n) asked Done shown → cell ≡ seen_cell parts.observer (met_after c.program shown.at shown.act blank)
    → placed c n cell ≡ erase parts.observer (target_after c v.visits.task.label asked (Some v.visits.target))
new-placed parts k n asked shown v cell erased shows is =
    let observer : Label = parts.observer in
    let c : Configuration = low_configuration_of parts.script parts.longest parts.holders in
    let label : Label = v.visits.task.label in
    ap (placed c n) (is ∙ ap (λ (e : Entry). seen_cell observer (met_after c.program e.at e.act blank)) (shows v.visits.task v.visits.is))
    ∙ new-between observer c label asked n (is_absent (cell_at c n).state) refl erased v.makes_node
    ∙ ap (λ (t : Target). erase observer (target_after c label asked (Some t))) (sym v.target)

pub new-made : (parts : LowParts) (went : List (Option Holder)) (k n : ℕ) (asked : Act) (shown : Entry) (v : VisitsNew parts k asked n) (cell : Cell)
    → let c : Configuration = low_configuration_of parts.script parts.longest parts.holders in
    IsErased parts.observer c → IsShown parts k (Some n) asked Done shown → cell ≡ seen_cell parts.observer (met_after c.program shown.at shown.act blank)
    → Follows parts.observer c (placed c n cell) (low_configuration_of parts.script parts.longest went) shown.actor shown.act shown.reply → Makes parts went k asked shown
new-made parts went k n asked shown v cell erased shows is follows =
    let c : Configuration = low_configuration_of parts.script parts.longest parts.holders in
    let label : Label = (state_in parts.script v.visits.task).label in
    let target : Target = v.visits.target in
    let to_new : target_after c label asked (Some target) ≡ target_after c label asked (Some (New n)) = ap (λ (t : Target). target_after c label asked (Some t)) v.target in
    visit-made parts (placed c n cell) went k n asked Done shown v.visits erased (λ state job. made-job state asked job v.makes_node) shows refl tt
    (visit-unwaiting asked target v.visits.onward (met target (cell_at c n).state) (made-unwaiting asked v.makes_node)) (new-placed parts k n asked shown v cell erased shows is)
    (subst TasksAreJobs (sym to_new) (new-jobs c label asked n erased.jobs v.makes_node)) follows

-- the task that makes it is in a node that is there
pub actor-there : (parts : LowParts) (k : ℕ) (task : Task) → IsErased parts.observer (low_configuration_of parts.script parts.longest parts.holders) → low_task_in parts.holders k ≡ Some task
    → is_absent (cell_at (low_configuration_of parts.script parts.longest parts.holders) k).state ≡ false
actor-there parts k task erased is = job-there _ (erased.jobs k (ap (λ (t : Option TaskState). is_some t) (task-low parts.script parts.longest parts.holders k (Some task) is)))

-- a node that is there to be met
pub met-holder : (parts : LowParts) (k n : ℕ) (asked : Act) → VisitsNode parts k asked n true → None ≡ holder_in parts.holders n → ⊥
met-holder parts k n asked v none =
    true≢false (sym (ready-state parts k n asked v) ∙ ap (λ (x : Cell). ready x.state asked) (cell-low parts.script parts.longest parts.holders n None (sym none)) ∙ absent-unready v.kind asked v.kind_is)

-- it takes part in the act as the observer sees it
pub met-part : (parts : LowParts) (k n : ℕ) (asked seen : Act) → VisitsNode parts k asked n true → seen ≡ erase_act parts.observer asked
    → takes_part (cell_at (low_configuration_of parts.script parts.longest parts.holders) n).state seen ≡ true
met-part parts k n asked seen v is =
    let state : State = (cell_at (low_configuration_of parts.script parts.longest parts.holders) n).state in
    ap (takes_part state) is ∙ ap (λ (b : Bool). b || is_job state) (ready-erased parts.observer state asked ∙ ready-state parts k n asked v)

-- a child of the act that is shown can be born
bears-erased : (script : List Procedure) (at : Label) (observer : Label) (asked : Act) → CanBear script at asked → CanBear script at (erase_act observer asked)
bears-erased script at observer (act.Fork birth) bears = record { procedure = bears.procedure; range = bears.range; cleared = bears.cleared }
bears-erased script at observer (act.Spawn birth) bears = record { procedure = bears.procedure; range = bears.range; cleared = bears.cleared }
bears-erased script at observer asked bears = tt

pub new-bears : (parts : LowParts) (k n : ℕ) (asked : Act) (shown : Entry) → VisitsNew parts k asked n → IsShown parts k (Some n) asked Done shown → CanBear parts.script shown.at shown.act
new-bears parts k n asked shown v shows =
    let program = program_of parts.script parts.longest in
    let state : TaskState = state_in parts.script v.visits.task in
    let bears : CanBear parts.script state.label asked =
    act-bears program state asked v.visits.task.range (subst (AffordsPlan program state) v.visits.plans (plan_affords program state v.visits.task.cleared)).1 in
    subst (λ (e : Entry). CanBear parts.script e.at e.act) (sym (shows v.visits.task v.visits.is)) (bears-erased parts.script state.label parts.observer asked bears)

-- what a turn takes of the released contents
pub takes-turn : (old new : ErasedState) (k : ℕ) (before after : List Content) (asked : Act) (entry : Entry) (m : Moves old new k asked entry)
    → opened old.observer m.move.act m.move.reply before ≡ Some (record { act = asked; left = after }) → TakesTurn old new k before after entry
unfolding low
takes-turn old new k before left asked entry m opens =
    let c : Configuration = old.configuration in
    let made : LowTurn = low_with old.observer 0 c k m.task m.move (record { act = asked; left = left }) in
    record {
      turn = ap (option_and_then (low_turn old.observer 0 c k before)) m.is
          ∙ ap (option_and_then (λ (move : Move). option_map (low_with old.observer 0 c k m.task move) (opened old.observer move.act move.reply before))) m.moves
          ∙ ap (option_map (low_with old.observer 0 c k m.task m.move)) opens
          ∙ (λ i. Some (record { entry = sym m.entry_is i; next = sym m.next i; left = left }));
      observer = m.observer;
    }

-- a release or an exposure that was told, and one that wasn't, whatever act its content makes
told-into : (observer target : Label) (into : Content → Act) (content : Content) (contents : List Content) → (is_hidden content && flows target observer) ≡ false
    → opened_release observer (into content) target into content contents ≡ Some (record { act = into content; left = contents })
told-into observer target into Hidden contents e = ap (λ (b : Bool). if b then taking_front (into Hidden) into contents else Some (record { act = into Hidden; left = contents })) e
told-into observer target into (Kept plain) contents e = refl
told-into observer target into (Faulted fault) contents e = refl

untold-into : (observer target : Label) (into : Content → Act) (hidden : Content) (contents : List Content) → (is_hidden hidden && flows target observer) ≡ true
    → opened_release observer (into hidden) target into hidden contents ≡ taking_front (into hidden) into contents
untold-into observer target into Hidden contents e = ap (λ (b : Bool). if b then taking_front (into Hidden) into contents else Some (record { act = into Hidden; left = contents })) e
untold-into observer target into (Kept plain) contents e = absurd (true≢false (sym e))
untold-into observer target into (Faulted fault) contents e = absurd (true≢false (sym e))

pub told-opens : (observer : Label) (asked : Act) (reply : Reply) (contents : List Content) → lacks_content observer asked reply ≡ false → opened observer asked reply contents ≡ Some (record { act = asked; left = contents })
unfolding opened
told-opens observer (act.Release source target power content) Done contents e = told-into observer target (act.Release source target power) content contents e
told-opens observer (act.Release source target power content) (Got value) contents e = refl
told-opens observer (act.Release source target power content) (Told told) contents e = refl
told-opens observer (act.Release source target power content) (Refused fault) contents e = refl
told-opens observer (act.Expose source target power content) Done contents e = told-into observer target (act.Expose source target power) content contents e
told-opens observer (act.Expose source target power content) (Got value) contents e = refl
told-opens observer (act.Expose source target power content) (Told told) contents e = refl
told-opens observer (act.Expose source target power content) (Refused fault) contents e = refl
told-opens observer asked reply contents e = refl

pub untold-opens : (observer : Label) (asked : Act) (reply : Reply) (content : Content) (contents : List Content) → lacks_content observer asked reply ≡ true
    → opened observer asked reply (content ∷ contents) ≡ Some (record { act = with_content asked content; left = contents })
unfolding opened
untold-opens observer (act.Release source target power held) Done content contents e = untold-into observer target (act.Release source target power) held (content ∷ contents) e
untold-opens observer (act.Release source target power held) (Got value) content contents e = absurd (true≢false (sym e))
untold-opens observer (act.Release source target power held) (Told told) content contents e = absurd (true≢false (sym e))
untold-opens observer (act.Release source target power held) (Refused fault) content contents e = absurd (true≢false (sym e))
untold-opens observer (act.Expose source target power held) Done content contents e = untold-into observer target (act.Expose source target power) held (content ∷ contents) e
untold-opens observer (act.Expose source target power held) (Got value) content contents e = absurd (true≢false (sym e))
untold-opens observer (act.Expose source target power held) (Told told) content contents e = absurd (true≢false (sym e))
untold-opens observer (act.Expose source target power held) (Refused fault) content contents e = absurd (true≢false (sym e))
untold-opens observer asked reply content contents e = absurd (true≢false (sym e))

unopened : (observer : Label) (asked : Act) (reply : Reply) → lacks_content observer asked reply ≡ true → opened observer asked reply [] ≡ None
unfolding opened
unopened observer (act.Release source target power held) Done e = untold-into observer target (act.Release source target power) held [] e
unopened observer (act.Release source target power held) (Got value) e = absurd (true≢false (sym e))
unopened observer (act.Release source target power held) (Told told) e = absurd (true≢false (sym e))
unopened observer (act.Release source target power held) (Refused fault) e = absurd (true≢false (sym e))
unopened observer (act.Expose source target power held) Done e = untold-into observer target (act.Expose source target power) held [] e
unopened observer (act.Expose source target power held) (Got value) e = absurd (true≢false (sym e))
unopened observer (act.Expose source target power held) (Told told) e = absurd (true≢false (sym e))
unopened observer (act.Expose source target power held) (Refused fault) e = absurd (true≢false (sym e))
unopened observer asked reply e = absurd (true≢false (sym e))

-- the move of an act of the task's own
act-task : (parts : LowParts) (k : ℕ) (asked : Act) (reply : Reply) (p : PlansAct parts k asked reply) → IsTaskOf (low_configuration_of parts.script parts.longest parts.holders) k (state_in parts.script p.task)
act-task parts k asked reply p = task-low parts.script parts.longest parts.holders k (Some p.task) p.is

same-task : {x y : TaskState} {t : Option TaskState} → t ≡ Some x → t ≡ Some y → x ≡ y
same-task e f = cc

pub act-move : (parts : LowParts) (new : ErasedState) (k : ℕ) (asked seen : Act) (reply : Reply) (entry : Entry) → PlansAct parts k asked reply → (m : Moves (low_of parts) new k seen entry) → (m.move.act ≡ asked) × (m.move.reply ≡ reply)
act-move parts new k asked seen reply entry p m =
    let c : Configuration = low_configuration_of parts.script parts.longest parts.holders in
    let same : state_in parts.script p.task ≡ m.task = same-task (act-task parts k asked reply p) m.is in
    let moves : move_of (cell_at c) (Own asked reply p.onward) ≡ Some m.move = ap (move_of (cell_at c)) (sym p.plans) ∙ ap (λ (t : TaskState). move_of (cell_at c) (plan c.program t)) same ∙ m.moves in
    let is : own_move asked reply p.onward ≡ m.move = own-moves c asked reply p.onward m.move moves in
    (sym (ap (λ (x : Move). x.act) is), sym (ap (λ (x : Move). x.reply) is))

pub lacks-release : (parts : LowParts) (k : ℕ) (asked : Act) (reply : Reply) (contents : List Content) → PlansAct parts k asked reply → lacks_content parts.observer asked reply ≡ true → contents ≡ []
    → LacksRelease parts.observer (low_configuration_of parts.script parts.longest parts.holders) k contents
unfolding low
lacks-release parts k asked reply contents p lacks none =
    let observer : Label = parts.observer in
    let c : Configuration = low_configuration_of parts.script parts.longest parts.holders in
    let state : TaskState = state_in parts.script p.task in
    let move : Move = own_move asked reply p.onward in
    let is : IsTaskOf c k state = act-task parts k asked reply p in
    let moves : move_of (cell_at c) (plan c.program state) ≡ Some move = ap (move_of (cell_at c)) p.plans in
    record {
      can_move = can-task c k state is ∙ ap (λ (m : Option Move). is_some m) moves;
      none_left = none;
      no_turn = ap (option_and_then (low_turn observer 0 c k contents)) is
          ∙ ap (option_and_then (λ (m : Move). option_map (low_with observer 0 c k state m) (opened observer m.act m.reply contents))) moves
          ∙ ap (λ (cs : List Content). option_map (low_with observer 0 c k state move) (opened observer asked reply cs)) none
          ∙ ap (option_map (low_with observer 0 c k state move)) (unopened observer asked reply lacks);
    }

-- a visit opens nothing
quiet-opens : (observer : Label) (kind : Kind) (asked : Act) (reply : Reply) (contents : List Content) → kind_met asked ≡ Some kind → opened observer asked reply contents ≡ Some (record { act = asked; left = contents })
unfolding opened
quiet-opens observer kind (act.Release source target power content) reply contents e = absurd (cc)
quiet-opens observer kind (act.Expose source target power content) reply contents e = absurd (cc)
quiet-opens observer kind asked reply contents e = refl

made-opens : (observer : Label) (asked : Act) (reply : Reply) (contents : List Content) → makes asked ≡ true → opened observer asked reply contents ≡ Some (record { act = asked; left = contents })
unfolding opened
made-opens observer (act.Release source target power content) reply contents e = absurd (true≢false (sym e))
made-opens observer (act.Expose source target power content) reply contents e = absurd (true≢false (sym e))
made-opens observer asked reply contents e = refl

-- by which handle a visit meets its node
pub visit-by : (parts : LowParts) (k n : ℕ) (asked : Act) (p : PlansVisit parts k asked n) → let state : TaskState = state_in parts.script p.task in IsMetBy state asked p.target (handle_ahead state.environment state.items)
visit-by parts k n asked p = visit_meets_handle (program_of parts.script parts.longest) (state_in parts.script p.task) asked p.target p.onward p.plans

pub visit-node : (parts : LowParts) (k n : ℕ) (asked : Act) (is_it : Bool) (handle : Handle) (p : PlansVisit parts k asked n) → let state : TaskState = state_in parts.script p.task in
    handle_ahead state.environment state.items ≡ Some handle
    → ((kind : Kind) → kind_met asked ≡ Some kind → is_it ≡ ready (met (Node kind handle) (cell_at (low_configuration_of parts.script parts.longest parts.holders) handle.number).state) asked) → VisitsNode parts k asked n is_it
visit-node parts k n asked is_it handle p ahead tells =
    let state : TaskState = state_in parts.script p.task in
    let (kind, meets, is) = subst (IsMetBy state asked p.target) ahead (visit-by parts k n asked p) in
    let number : handle.number ≡ n = sym (ap number_of is) ∙ p.number in
    record {
      visits = p;
      kind = kind;
      handle = handle;
      kind_is = meets;
      target = is;
      readiness = ap (λ (m : ℕ). ready (met (Node kind handle) (cell_at (low_configuration_of parts.script parts.longest parts.holders) m).state) asked) (sym number) ∙ sym (tells kind meets);
    }

pub visit-new : (parts : LowParts) (k n : ℕ) (asked : Act) (p : PlansVisit parts k asked n) → let state : TaskState = state_in parts.script p.task in handle_ahead state.environment state.items ≡ None → VisitsNew parts k asked n
visit-new parts k n asked p ahead =
    let state : TaskState = state_in parts.script p.task in
    let (is, makes_node) = subst (IsMetBy state asked p.target) ahead (visit-by parts k n asked p) in
    record { visits = p; target = is ∙ ap New (sym (ap number_of is) ∙ p.number); makes_node = makes_node }

-- a visit that waits
pub waits-still : (parts : LowParts) (k n : ℕ) (asked : Act) → VisitsNode parts k asked n false → waits asked ≡ true → can (low_configuration_of parts.script parts.longest parts.holders) k ≡ false
waits-still parts k n asked v waiting =
    let c : Configuration = low_configuration_of parts.script parts.longest parts.holders in
    let p : PlansVisit parts k asked n = v.visits in
    let state : TaskState = state_in parts.script p.task in
    let is : IsTaskOf c k state = task-low parts.script parts.longest parts.holders k (Some p.task) p.is in
    let unready : ready (met p.target (cell_at c n).state) asked ≡ false = ap (λ (t : Target). ready (met t (cell_at c n).state) asked) v.target ∙ v.readiness in
    can-task c k state is
    ∙ ap (λ (q : Plan). is_some (move_of (cell_at c) q)) p.plans
    ∙ ap (λ (m : ℕ). is_some (visit asked p.target p.onward (met p.target (cell_at c m).state))) p.number
    ∙ ap (λ (m : Option Move). is_some m) (visit-waits asked p.target p.onward (met p.target (cell_at c n).state) waiting unready)

-- a visit's turn
pub visit-turn : (parts : LowParts) (new : ErasedState) (k n : ℕ) (asked : Act) (entry : Entry) (contents : List Content) → PlansVisit parts k asked n → Moves (low_of parts) new k asked entry → TakesTurn (low_of parts) new k contents contents entry
visit-turn parts new k n asked entry contents p m =
    let c : Configuration = low_configuration_of parts.script parts.longest parts.holders in
    let state : TaskState = state_in parts.script p.task in
    let same : state ≡ m.task = same-task (task-low parts.script parts.longest parts.holders k (Some p.task) p.is) m.is in
    let moves : move_of (cell_at c) (Visit asked p.target p.onward) ≡ Some m.move = ap (move_of (cell_at c)) (sym p.plans) ∙ ap (λ (t : TaskState). move_of (cell_at c) (plan c.program t)) same ∙ m.moves in
    let is : visit_move c asked p.target p.onward ≡ m.move = visit-moves c asked p.target p.onward m.move moves in
    takes-turn (low_of parts) new k contents contents asked entry m
    (ap (λ (a : Act). opened parts.observer a m.move.reply contents) (sym (ap (λ (x : Move). x.act) is)) ∙ opens (handle_ahead state.environment state.items) (visit-by parts k n asked p) m.move.reply)
  where
    opens : (named : Option Handle) → IsMetBy (state_in parts.script p.task) asked p.target named → (reply : Reply) → opened parts.observer asked reply contents ≡ Some (record { act = asked; left = contents })
    opens None meets reply = made-opens parts.observer asked reply contents meets.1
    opens (Some handle) meets reply = quiet-opens parts.observer meets.0 asked reply contents meets.1

-- the plan that a next turn tells
pub next-own : (p : Plan) (asked : Act) (reply : Reply) → next_by p ≡ next.Own asked reply → (onward : Onward) × (p ≡ Own asked reply onward)
next-own Over asked reply e = absurd (cc)
next-own (Own a r onward) asked reply e = let acts : a ≡ asked = cc in let replies : r ≡ reply = cc in (onward, ap (λ (x : Act). Own x r onward) acts ∙ ap (λ (x : Reply). Own asked x onward) replies)
next-own (Visit a target onward) asked reply e = absurd (cc)

pub next-visit : (p : Plan) (asked : Act) (n : ℕ) → next_by p ≡ next.Visit asked n → (target : Target) × (onward : Onward) × (p ≡ Visit asked target onward) × (number_of target ≡ n)
next-visit Over asked n e = absurd (cc)
next-visit (Own a r onward) asked n e = absurd (cc)
next-visit (Visit a target onward) asked n e = let acts : a ≡ asked = cc in let numbers : number_of target ≡ n = cc in (target, onward, ap (λ (x : Act). Visit x target onward) acts, numbers)

pub next-over : (p : Plan) → next_by p ≡ next.Over → Over ≡ p
next-over Over e = refl
next-over (Own a r onward) e = absurd (cc)
next-over (Visit a target onward) e = absurd (cc)
