-- A task goes on before the node serves that its act meets, since going on may fail: the configuration is the one in which the node serves first.
use Rattle.std.proofs.Common.{◌≡◌, ◌∙◌, refl, sym, ap, subst, ℕ, ◌<◌, ◌≢◌, Bool, true, false, if◌then◌else◌, List, Some, None, eqb, inl, inr, length}
use Rattle.std.specs.Prelude.{◌⊎◌}
use Rattle.std.proofs.lemmas.Bool.Decides.{eqb_tells}
use Rattle.std.proofs.lemmas.List.{get_or-set_other, length-set, set_comm}
use Rattle.lio_labels.specs.declared.label.Label.{Label}
use Rattle.lio_labels.specs.Flow.{flows}
use Rattle.lio_values.specs.declared.act.Act.{Act}
use Rattle.lio_values.specs.declared.act.Reply.{Reply}
use Rattle.lio_cells.specs.declared.state.State.{State}
use Rattle.lio_cells.specs.State.{is_absent, state_after}
use Rattle.lio_calculus.specs.Task.{TaskState}
use Rattle.lio_calculus.specs.Hiding.{hide_task}
use Rattle.lio_calculus.specs.Step.{Cell, Configuration, blank, cell_at, with_cell}
use Rattle.lio_task.specs.Next.{resumed}
use Rattle.lio_erasure.specs.Low.{job_with, seen_cell, seen_task}
use Rattle.lio_erasure.specs.Turn.{Advances, Follows, advanced, placed, served, settled}
use Rattle.lio_erasure.proofs.AfterLemmas.{put-changed, task-inside}
use Rattle.lio_erasure.proofs.HolderLemmas.{with_cell-own}

-- a job whose task has gone on, where the observer sees it
job-seen : (observer : Label) (cell : Cell) (task : TaskState) → cell.task ≡ Some (hide_task observer task) → seen_cell observer cell ≡ job_with cell.state (seen_task observer task)
job-seen observer cell task is = ap (seen_cell observer) (λ i. record { state = cell.state; task = is i }) ∙ by (flows task.label observer)
  where
    gone : Cell
    gone = record { state = cell.state; task = Some (hide_task observer task) }

    by : (b : Bool) → (if b then gone else blank) ≡ job_with cell.state (if b then Some (hide_task observer task) else None)
    by true = refl
    by false = refl

-- what is done to a cell leaves its task, and does the same to its state whatever the task is
pub record LeavesTask (f : Cell → Cell) (cell : Cell) (task : TaskState) : Type 0 where
  pub task_is : (f (record { state = cell.state; task = Some task })).task ≡ Some task
  pub state_is : (f (record { state = cell.state; task = Some task })).state ≡ (f cell).state

-- the order doesn't matter
abbrev Swaps : Label → Configuration → ℕ → ℕ → (Cell → Cell) → TaskState → Type 0
Swaps observer c k n f task =
    let a : Configuration = advanced c k (hide_task observer task) in let b : Configuration = with_cell c n (f (cell_at c n)) in
    settled observer (with_cell a n (f (cell_at a n))) k ≡ with_cell b k (job_with (cell_at b k).state (seen_task observer task))

swaps-own : (observer : Label) (c : Configuration) (k : ℕ) (f : Cell → Cell) (task : TaskState) → k < length c.cells → LeavesTask f (cell_at c k) (hide_task observer task) → Swaps observer c k k f task
swaps-own observer c k f task within leaves =
    let gone : Cell = record { state = (cell_at c k).state; task = Some (hide_task observer task) } in
    ap (λ (d : Configuration). settled observer d k) (put-changed c k gone f within) ∙ put-changed c k (f gone) (seen_cell observer) within
    ∙ ap (with_cell c k) (job-seen observer (f gone) task leaves.task_is ∙ ap (λ (s : State). job_with s (seen_task observer task)) leaves.state_is)
    ∙ sym (put-changed c k (f (cell_at c k)) (λ (x : Cell). job_with x.state (seen_task observer task)) within)

swaps-other : (observer : Label) (c : Configuration) (k n : ℕ) (f : Cell → Cell) (task : TaskState) → k < length c.cells → k ≢ n → Swaps observer c k n f task
swaps-other observer c k n f task within other =
    let gone : Cell = record { state = (cell_at c k).state; task = Some (hide_task observer task) } in
    let met : Cell = f (cell_at c n) in
    let b : Configuration = with_cell c n met in
    let there : cell_at (advanced c k (hide_task observer task)) n ≡ cell_at c n = get_or-set_other c.cells k n gone blank (λ e. other (sym e)) in
    let here : cell_at b k ≡ cell_at c k = get_or-set_other c.cells n k met blank other in
    ap (λ (x : Cell). settled observer (with_cell (advanced c k (hide_task observer task)) n (f x)) k) there
    ∙ ap (λ (cells : List Cell). settled observer (record c { cells = cells }) k) (set_comm c.cells k n gone met other)
    ∙ put-changed b k gone (seen_cell observer) (subst (λ (m : ℕ). k < m) (sym (length-set c.cells n met)) within)
    ∙ ap (with_cell b k) (job-seen observer gone task refl ∙ ap (λ (x : Cell). job_with x.state (seen_task observer task)) (sym here))

swaps : (observer : Label) (c : Configuration) (k n : ℕ) (f : Cell → Cell) (task : TaskState) → k < length c.cells → LeavesTask f (cell_at c k) (hide_task observer task) → Swaps observer c k n f task
swaps observer c k n f task within leaves = by (eqb_tells k n)
  where
    by : ((eqb k n ≡ true) × (k ≡ n)) ⊎ ((eqb k n ≡ false) × (k ≢ n)) → Swaps observer c k n f task
    by (inl p) = subst (λ (m : ℕ). Swaps observer c k m f task) p.1 (swaps-own observer c k f task within leaves)
    by (inr p) = swaps-other observer c k n f task within p.1

-- the task goes on, the node serves, and the task is left out where the observer doesn't see it
pub follows-served : (observer : Label) (c first second last : Configuration) (k n : ℕ) (asked : Act) (reply : Reply) → Advances observer c first k asked reply → second ≡ served first n asked → last ≡ settled observer second k
    → Follows observer c (served c n asked) last k asked reply
follows-served observer c first second last k n asked reply advances serves settles = λ task is.
    settles ∙ ap (λ (d : Configuration). settled observer d k) (serves ∙ ap (λ (d : Configuration). served d n asked) (advances task is))
    ∙ swaps observer c k n (λ (x : Cell). record { state = state_after x.state asked; task = x.task }) (resumed c.program task asked reply) (task-inside c k task is) (record { task_is = refl; state_is = refl })

-- no node serves
pub follows-alone : (observer : Label) (c first last : Configuration) (k : ℕ) (asked : Act) (reply : Reply) → Advances observer c first k asked reply → last ≡ settled observer first k → Follows observer c c last k asked reply
follows-alone observer c first last k asked reply advances settles = λ task is.
    let went : TaskState = resumed c.program task asked reply in
    let gone : Cell = record { state = (cell_at c k).state; task = Some (hide_task observer went) } in
    settles ∙ ap (λ (d : Configuration). settled observer d k) (advances task is) ∙ put-changed c k gone (seen_cell observer) (task-inside c k task is) ∙ ap (with_cell c k) (job-seen observer gone went refl)

-- a cell is put under a number, if nothing is there
abbrev put_on : Cell → Cell → Cell
put_on new cell = if is_absent cell.state then new else cell

placed-put : (c : Configuration) (n : ℕ) (new : Cell) → placed c n new ≡ with_cell c n (put_on new (cell_at c n))
placed-put c n new = by (is_absent (cell_at c n).state)
  where
    by : (b : Bool) → (if b then with_cell c n new else c) ≡ with_cell c n (if b then new else cell_at c n)
    by true = refl
    by false = sym (with_cell-own c n)

put-leaves : (new cell : Cell) (task : TaskState) → is_absent cell.state ≡ false → LeavesTask (put_on new) cell task
put-leaves new cell task there =
    let gone : Cell = record { state = cell.state; task = Some task } in
    record {
      task_is = ap (λ (b : Bool). (if b then new else gone).task) there;
      state_is = ap (λ (b : Bool). (if b then new else gone).state) there ∙ sym (ap (λ (b : Bool). (if b then new else cell).state) there);
    }

pub follows-placed : (observer : Label) (c first second last : Configuration) (k n : ℕ) (new : Cell) (asked : Act) (reply : Reply) → is_absent (cell_at c k).state ≡ false → Advances observer c first k asked reply → second ≡ placed first n new
    → last ≡ settled observer second k → Follows observer c (placed c n new) last k asked reply
follows-placed observer c first second last k n new asked reply there advances places settles = λ task is.
    let went : TaskState = resumed c.program task asked reply in
    settles ∙ ap (λ (d : Configuration). settled observer d k) (places ∙ placed-put first n new ∙ ap (λ (d : Configuration). with_cell d n (put_on new (cell_at d n))) (advances task is))
    ∙ swaps observer c k n (put_on new) went (task-inside c k task is) (put-leaves new (cell_at c k) (hide_task observer went) there)
    ∙ ap (λ (d : Configuration). with_cell d k (job_with (cell_at d k).state (seen_task observer went))) (sym (placed-put c n new))
