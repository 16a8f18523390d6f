-- Which tasks can take a turn in the erased calculus.
use Rattle.std.proofs.Common.{◌≡◌, ◌∙◌, refl, sym, ap, ℕ, Bool, true, false, IsTrue, List, ◌∷◌, Option, Some, None, is_some, if◌then◌else◌}
use Rattle.std.specs.Prelude.{option_and_then, option_map}
use Rattle.lio_labels.specs.declared.label.Label.{Label}
use Rattle.lio_labels.specs.Flow.{flows}
use Rattle.lio_values.specs.declared.value.Content.{Content}
use Rattle.lio_values.specs.declared.value.Content.TheVariants.{Kept, Faulted, Hidden}
use Rattle.lio_values.specs.declared.act.Act.{Act}
use Rattle.lio_values.specs.declared.act.Act.TheVariants as act
use Rattle.lio_values.specs.declared.act.Reply.{Reply}
use Rattle.lio_values.specs.declared.act.Reply.TheVariants.{Done}
use Rattle.lio_calculus.specs.Task.{TaskState}
use Rattle.lio_calculus.specs.Plan.{Plan, plan}
use Rattle.lio_calculus.specs.Hiding.{hide_task, hide_plan}
use Rattle.lio_calculus.specs.Step.{Cell, Configuration, cell_at, Move, move_of, after, Turn, entry_of, turn_of, step, can}
use Rattle.lio_calculus.specs.Erased.{sees, erase_cell, erase, LowTurn, Opened, opened_release, opened, low_with, low_turn, low}
use Rattle.lio_calculus.specs.Sound.{IsTaskOf, IsSound}
use Rattle.lio_calculus.specs.Enabled.{SeenTaskIsEnabledBelow, LowTurnsWhereEnabled}
use Rattle.lio_calculus.proofs.PlanHidden.{plan-hidden}
use Rattle.lio_calculus.proofs.InvisibleLemmas.{sees-task, erase_cell-unseen, erase_cell-seen}
use Rattle.lio_calculus.proofs.ConfigLemmas.{cell_at-erased}
use Rattle.lio_calculus.proofs.VisitLemmas.{low-move, low-still}
use Rattle.lio_calculus.proofs.StepGuarded.{plan-guarded}
use Rattle.lio_calculus.proofs.GuardedLemmas.{GuardedBy}

there : {X Y : Type 0} (f : X → Y) (o : Option X) → is_some (option_map f o) ≡ is_some o
there f None = refl
there f (Some x) = refl

-- a task can take a turn where it has a move, and what is no task takes none
pub can-task : (c : Configuration) (k : ℕ) (task : TaskState) → IsTaskOf c k task → can c k ≡ is_some (move_of (cell_at c) (plan c.program task))
unfolding step
can-task c k task is =
    ap (λ (t : Option TaskState). is_some (option_and_then (turn_of 0 c k) t)) is
    ∙ there (λ move. let turn : Turn = record { entry = entry_of 0 k task move; next = after c k task move } in turn) (move_of (cell_at c) (plan c.program task))

pub can-absent : (c : Configuration) (k : ℕ) → (cell_at c k).task ≡ None → can c k ≡ false
unfolding step
can-absent c k is = ap (λ (t : Option TaskState). is_some (option_and_then (turn_of 0 c k) t)) is

-- the task with a number, as the observer sees it
pub task-seen : (observer : Label) (c : Configuration) (k : ℕ) (task : TaskState) → IsTaskOf c k task → flows task.label observer ≡ true → IsTaskOf (erase observer c) k (hide_task observer task)
task-seen observer c k task is visible =
    ap (λ (x : Cell). x.task) (cell_at-erased observer c k ∙ erase_cell-seen observer (cell_at c k) (sees-task observer (cell_at c k) task is ∙ visible)) ∙ ap (option_map (hide_task observer)) is

pub task-unseen : (observer : Label) (c : Configuration) (k : ℕ) (task : TaskState) → IsTaskOf c k task → flows task.label observer ≡ false → (cell_at (erase observer c) k).task ≡ None
task-unseen observer c k task is unseen =
    ap (λ (x : Cell). x.task) (cell_at-erased observer c k ∙ erase_cell-unseen observer (cell_at c k) (sees-task observer (cell_at c k) task is ∙ unseen))

pub task-absent : (observer : Label) (c : Configuration) (k : ℕ) → (cell_at c k).task ≡ None → (cell_at (erase observer c) k).task ≡ None
task-absent observer c k none = ap (λ (x : Cell). x.task) (cell_at-erased observer c k) ∙ by_sight (sees observer (cell_at c k)) refl
  where
    by_sight : (b : Bool) → sees observer (cell_at c k) ≡ b → (erase_cell observer (cell_at c k)).task ≡ None
    by_sight true is = ap (λ (x : Cell). x.task) (erase_cell-seen observer (cell_at c k) is) ∙ ap (option_map (hide_task observer)) none
    by_sight false is = ap (λ (x : Cell). x.task) (erase_cell-unseen observer (cell_at c k) is)

-- a task that is seen
can-seen : (observer : Label) (c : Configuration) (k : ℕ) (task : TaskState) → IsSound c → IsTaskOf c k task → flows task.label observer ≡ true → can (erase observer c) k ≡ can c k
unfolding GuardedBy
can-seen observer c k task sound is visible =
    can-task (erase observer c) k (hide_task observer task) (task-seen observer c k task is visible)
    ∙ ap (λ (p : Plan). is_some (move_of (cell_at (erase observer c)) p)) (plan-hidden c.program observer task)
    ∙ by (move_of (cell_at c) (plan c.program task)) refl ∙ sym (can-task c k task is)
  where
    by : (m : Option Move) → move_of (cell_at c) (plan c.program task) ≡ m → is_some (move_of (cell_at (erase observer c)) (hide_plan observer (plan c.program task))) ≡ is_some (move_of (cell_at c) (plan c.program task))
    by None moves = ap (λ (m : Option Move). is_some m) (low-still observer c (plan c.program task) moves) ∙ sym (ap (λ (m : Option Move). is_some m) moves)
    by (Some move) moves =
        ap (λ (m : Option Move). is_some m) (low-move observer c k task (plan c.program task) move visible (plan-guarded c k task sound is move moves) moves)
        ∙ sym (ap (λ (m : Option Move). is_some m) moves)

pub seen_task_is_enabled_below : SeenTaskIsEnabledBelow
seen_task_is_enabled_below observer c k sound = record {
  seen = λ task is visible. can-seen observer c k task sound is visible;
  unseen = λ task is unseen. can-absent (erase observer c) k (task-unseen observer c k task is unseen);
  absent = λ none. can-absent (erase observer c) k (task-absent observer c k none);
}

-- a released or exposed content is all that an act can lack
release-opened : (observer : Label) (asked : Act) (target : Label) (into : Content → Act) (hidden content : Content) (contents : List Content) → is_some (opened_release observer asked target into hidden (content ∷ contents)) ≡ true
release-opened observer asked target into Hidden content contents = by (flows target observer)
  where
    by : (b : Bool) → is_some (if b then Some (let o : Opened = record { act = into content; left = contents } in o) else Some (record { act = asked; left = content ∷ contents })) ≡ true
    by true = refl
    by false = refl
release-opened observer asked target into (Kept plain) content contents = refl
release-opened observer asked target into (Faulted fault) content contents = refl

supplied-opened : (observer : Label) (asked : Act) (reply : Reply) (content : Content) (contents : List Content) → is_some (opened observer asked reply (content ∷ contents)) ≡ true
unfolding opened
supplied-opened observer (act.Release source target power hidden) Done content contents =
    release-opened observer (act.Release source target power hidden) target (act.Release source target power) hidden content contents
supplied-opened observer (act.Expose source target power hidden) Done content contents =
    release-opened observer (act.Expose source target power hidden) target (act.Expose source target power) hidden content contents
supplied-opened observer asked reply content contents = refl

-- the erased step, where the number is no task's, and where it is
low-absent : (observer : Label) (ticket : ℕ) (c : Configuration) (k : ℕ) (contents : List Content) → (cell_at c k).task ≡ None → low observer ticket c k contents ≡ None
unfolding low
low-absent observer ticket c k contents is = ap (option_and_then (low_turn observer ticket c k contents)) is

low-task : (observer : Label) (ticket : ℕ) (c : Configuration) (k : ℕ) (contents : List Content) (task : TaskState) (m : Option Move) → IsTaskOf c k task → move_of (cell_at c) (plan c.program task) ≡ m
    → low observer ticket c k contents ≡ option_and_then (λ move. option_map (low_with observer ticket c k task move) (opened observer move.act move.reply contents)) m
unfolding low
low-task observer ticket c k contents task m is moves =
    ap (option_and_then (low_turn observer ticket c k contents)) is
    ∙ ap (option_and_then (λ move. option_map (low_with observer ticket c k task move) (opened observer move.act move.reply contents))) moves

none-some : IsTrue false → ⊥
none-some is = absurd (cc)

low-alone : (observer : Label) (ticket : ℕ) (c : Configuration) (k : ℕ) (contents : List Content) → IsTrue (is_some (low observer ticket c k contents)) → IsTrue (can c k)
low-alone observer ticket c k contents some = by (cell_at c k).task refl
  where
    moved : (task : TaskState) → IsTaskOf c k task → (m : Option Move) → move_of (cell_at c) (plan c.program task) ≡ m → IsTrue (can c k)
    moved task is (Some move) moves = can-task c k task is ∙ ap (λ (m : Option Move). is_some m) moves
    moved task is None moves = absurd (none-some (sym (ap (λ (t : Option LowTurn). is_some t) (low-task observer ticket c k contents task None is moves)) ∙ some))

    by : (t : Option TaskState) → (cell_at c k).task ≡ t → IsTrue (can c k)
    by None is = absurd (none-some (sym (ap (λ (t : Option LowTurn). is_some t) (low-absent observer ticket c k contents is)) ∙ some))
    by (Some task) is = moved task is (move_of (cell_at c) (plan c.program task)) refl

low-supplied : (observer : Label) (ticket : ℕ) (c : Configuration) (k : ℕ) (content : Content) (contents : List Content) → is_some (low observer ticket c k (content ∷ contents)) ≡ can c k
low-supplied observer ticket c k content contents = by (cell_at c k).task refl
  where
    moved : (task : TaskState) → IsTaskOf c k task → (m : Option Move) → move_of (cell_at c) (plan c.program task) ≡ m → is_some (low observer ticket c k (content ∷ contents)) ≡ can c k
    moved task is None moves =
        ap (λ (t : Option LowTurn). is_some t) (low-task observer ticket c k (content ∷ contents) task None is moves)
        ∙ sym (can-task c k task is ∙ ap (λ (m : Option Move). is_some m) moves)
    moved task is (Some move) moves =
        ap (λ (t : Option LowTurn). is_some t) (low-task observer ticket c k (content ∷ contents) task (Some move) is moves)
        ∙ there (low_with observer ticket c k task move) (opened observer move.act move.reply (content ∷ contents))
        ∙ supplied-opened observer move.act move.reply content contents
        ∙ sym (can-task c k task is ∙ ap (λ (m : Option Move). is_some m) moves)

    by : (t : Option TaskState) → (cell_at c k).task ≡ t → is_some (low observer ticket c k (content ∷ contents)) ≡ can c k
    by None is = ap (λ (t : Option LowTurn). is_some t) (low-absent observer ticket c k (content ∷ contents) is) ∙ sym (can-absent c k is)
    by (Some task) is = moved task is (move_of (cell_at c) (plan c.program task)) refl

pub low_turns_where_enabled : LowTurnsWhereEnabled
low_turns_where_enabled observer ticket c k = record {
  alone = low-alone observer ticket c k;
  supplied = low-supplied observer ticket c k;
}
