-- The configuration after a turn, as an observer sees it.
use Rattle.std.proofs.Common.{◌≡◌, ◌∙◌, refl, sym, ap, ℕ, ◌<◌, ◌≢◌, Bool, true, false, if◌then◌else◌, List, Option, Some, None, is_some, eqb, inl, inr, length}
use Rattle.std.specs.Prelude.{◌⊎◌}
use Rattle.std.proofs.lemmas.Bool.Decides.{eqb_tells}
use Rattle.std.proofs.lemmas.List.{get_or-set_same, set-set}
use Rattle.lio_labels.specs.declared.label.Label.{Label}
use Rattle.lio_values.specs.declared.act.Act.{Act}
use Rattle.lio_values.specs.Erasure.{erase_act}
use Rattle.lio_cells.specs.declared.state.State.{State}
use Rattle.lio_cells.specs.State.{Kind, is_absent, is_job, state_after}
use Rattle.lio_calculus.specs.Task.{TaskState}
use Rattle.lio_calculus.specs.Going.{gone_on}
use Rattle.lio_calculus.specs.Plan.{Target, New}
use Rattle.lio_calculus.specs.Step.{Cell, Configuration, Move, actor_after, after, blank, born, cell_at, is_met, met_after, number_of, target_after, task_after, with_cell}
use Rattle.lio_calculus.specs.Erased.{erase, erase_cell, hide_state}
use Rattle.lio_calculus.specs.Sound.{IsTaskOf}
use Rattle.lio_calculus.specs.Afforded.{kind_met, makes}
use Rattle.lio_calculus.proofs.ConfigLemmas.{cell_at-erased}
use Rattle.lio_calculus.proofs.InvisibleLemmas.{other-cell}
use Rattle.lio_calculus.proofs.SoundLemmas.{inside}
use Rattle.lio_erasure.specs.Low.{TasksAreJobs, job_with, seen_cell, seen_task}
use Rattle.lio_erasure.proofs.ActLemmas.{job-after, state_after-erased}
use Rattle.lio_erasure.proofs.CellLemmas.{cell-erased, erase-with_cell, job-erased, made-erased, met-erased, task-hidden, task-there}
use Rattle.lio_erasure.proofs.HolderLemmas.{with_cell-own}
use Rattle.lio_erasure.proofs.JobLemmas.{absent-taskless, jobs-set}

-- a job stays as it is
abbrev pub KeepsJobs : Act → Type 0
KeepsJobs asked = (state : State) → is_job state ≡ true → state_after state asked ≡ state

-- the task's cell is in the list
pub task-inside : (c : Configuration) (k : ℕ) (task : TaskState) → IsTaskOf c k task → k < length c.cells
task-inside c k task is = inside c k (task-there (cell_at c k) task is)

-- a cell that is put and then changed
pub put-changed : (c : Configuration) (k : ℕ) (cell : Cell) (f : Cell → Cell) → k < length c.cells → with_cell (with_cell c k cell) k (f (cell_at (with_cell c k cell) k)) ≡ with_cell c k (f cell)
put-changed c k cell f within =
    ap (λ (x : Cell). with_cell (with_cell c k cell) k (f x)) (get_or-set_same c.cells k cell blank within)
    ∙ ap (λ (cells : List Cell). record c { cells = cells }) (set-set c.cells k cell (f cell))

-- an act of the task's own
pub own-after : (observer : Label) (c : Configuration) (k : ℕ) (task : TaskState) (move : Move) → erase observer c ≡ c → IsTaskOf c k task → move.target ≡ None
    → erase observer (after c k task move) ≡ with_cell c k (job_with (state_after (cell_at c k).state (erase_act observer move.act)) (seen_task observer (gone_on task move.onward move.act move.reply)))
own-after observer c k task move erased is own =
    let state : State = (cell_at c k).state in
    let hidden : hide_state observer state ≡ state = ap (λ (x : Cell). x.state) (task-hidden observer (cell_at c k) task (cell-erased observer c k erased) is) in
    ap (λ (t : Option Target). let d : Configuration = target_after c task.label move.act t in erase observer (with_cell d k (actor_after task move (cell_at d k)))) own
    ∙ erase-with_cell observer c k (actor_after task move (cell_at c k))
    ∙ ap (λ (d : Configuration). with_cell d k (erase_cell observer (actor_after task move (cell_at c k)))) erased
    ∙ ap (with_cell c k) (job-erased observer (state_after state move.act) (state_after state (erase_act observer move.act)) (gone_on task move.onward move.act move.reply) (state_after-erased observer state move.act hidden))

-- a visit leaves the actor's cell as it is
pub actor-stays : (c : Configuration) (k : ℕ) (task : TaskState) (label : Label) (asked : Act) (target : Target) → IsTaskOf c k task → TasksAreJobs c → KeepsJobs asked → cell_at (target_after c label asked (Some target)) k ≡ cell_at c k
actor-stays c k task label asked target is jobs keeps = by (eqb_tells k (number_of target))
  where
    n : ℕ
    n = number_of target

    job : is_job (cell_at c k).state ≡ true
    job = jobs k (ap (λ (t : Option TaskState). is_some t) is)

    kept : (t : Option TaskState) → t ≡ Some task → task_after t (born c.program label asked) ≡ t
    kept None e = absurd (cc)
    kept (Some x) e = refl

    same : met_after c.program label asked (cell_at c k) ≡ cell_at c k
    same = λ i. record { state = keeps (cell_at c k).state job i; task = kept (cell_at c k).task is i }

    chosen : k ≡ n → (b : Bool) → cell_at (if b then with_cell c n (met_after c.program label asked (cell_at c n)) else c) k ≡ cell_at c k
    chosen e true = ap (λ (d : Configuration). cell_at d k) (ap (λ (m : ℕ). with_cell c m (met_after c.program label asked (cell_at c m))) (sym e) ∙ ap (with_cell c k) same ∙ with_cell-own c k)
    chosen e false = refl

    by : ((eqb k n ≡ true) × (k ≡ n)) ⊎ ((eqb k n ≡ false) × (k ≢ n)) → cell_at (target_after c label asked (Some target)) k ≡ cell_at c k
    by (inl p) = chosen p.1 (is_met target (cell_at c n).state)
    by (inr p) = other-cell c k label asked target p.1

-- the configuration in which the target was met, as the observer sees it
pub between-cell : (observer : Label) (c between : Configuration) (k : ℕ) (task : TaskState) (asked : Act) (target : Target) → erase observer c ≡ c → IsTaskOf c k task → TasksAreJobs c → KeepsJobs asked
    → between ≡ erase observer (target_after c task.label asked (Some target)) → cell_at between k ≡ cell_at c k
between-cell observer c between k task asked target erased is jobs keeps same =
    let d : Configuration = target_after c task.label asked (Some target) in
    ap (λ (e : Configuration). cell_at e k) same ∙ cell_at-erased observer d k ∙ ap (erase_cell observer) (actor-stays c k task task.label asked target is jobs keeps) ∙ cell-erased observer c k erased

-- an act that meets a node
pub visit-after : (observer : Label) (c between : Configuration) (k : ℕ) (task : TaskState) (move : Move) (target : Target) → erase observer c ≡ c → IsTaskOf c k task → TasksAreJobs c → KeepsJobs move.act → move.target ≡ Some target
    → between ≡ erase observer (target_after c task.label move.act (Some target))
    → erase observer (after c k task move) ≡ with_cell between k (job_with (cell_at between k).state (seen_task observer (gone_on task move.onward move.act move.reply)))
visit-after observer c between k task move target erased is jobs keeps to same =
    let d : Configuration = target_after c task.label move.act (Some target) in
    let state : State = (cell_at c k).state in
    let gone : TaskState = gone_on task move.onward move.act move.reply in
    let hidden : hide_state observer state ≡ state = ap (λ (x : Cell). x.state) (task-hidden observer (cell_at c k) task (cell-erased observer c k erased) is) in
    ap (λ (t : Option Target). let e : Configuration = target_after c task.label move.act t in erase observer (with_cell e k (actor_after task move (cell_at e k)))) to
    ∙ erase-with_cell observer d k (actor_after task move (cell_at d k))
    ∙ ap (λ (e : Configuration). with_cell e k (erase_cell observer (actor_after task move (cell_at d k)))) (sym same)
    ∙ ap (with_cell between k)
    (ap (λ (x : Cell). erase_cell observer (actor_after task move x)) (actor-stays c k task task.label move.act target is jobs keeps)
    ∙ ap (λ (s : State). erase_cell observer (record { state = s; task = Some gone })) (keeps state (jobs k (ap (λ (t : Option TaskState). is_some t) is)))
    ∙ job-erased observer state state gone (sym hidden)
    ∙ ap (λ (x : Cell). job_with x.state (seen_task observer gone)) (sym (between-cell observer c between k task move.act target erased is jobs keeps same)))

-- each task is a job after the turn
pub after-jobs : (c : Configuration) (k : ℕ) (task : TaskState) (move : Move) → TasksAreJobs (target_after c task.label move.act move.target) → IsTaskOf (target_after c task.label move.act move.target) k task → TasksAreJobs (after c k task move)
after-jobs c k task move jobs is =
    let d : Configuration = target_after c task.label move.act move.target in
    jobs-set d k (actor_after task move (cell_at d k)) jobs (λ some. job-after (cell_at d k).state move.act (jobs k (ap (λ (t : Option TaskState). is_some t) is)))

-- the node that a handle names has served
pub met-between : (observer : Label) (c : Configuration) (kind : Kind) (label : Label) (asked : Act) (target : Target) (n : ℕ) → erase observer c ≡ c → kind_met asked ≡ Some kind → number_of target ≡ n → is_met target (cell_at c n).state ≡ true → (cell_at c n ≡ blank → ⊥)
    → with_cell c n (record { state = state_after (cell_at c n).state (erase_act observer asked); task = (cell_at c n).task }) ≡ erase observer (target_after c label asked (Some target))
met-between observer c kind label asked target n erased meets number named there =
    ap (with_cell c n) (sym (met-erased observer kind c.program label asked (cell_at c n) (cell-erased observer c n erased) there meets))
    ∙ ap (λ (d : Configuration). with_cell d n (erase_cell observer (met_after c.program label asked (cell_at c n)))) (sym erased)
    ∙ sym (erase-with_cell observer c n (met_after c.program label asked (cell_at c n)))
    ∙ ap (erase observer) (sym (ap (λ (b : Bool). if b then with_cell c n (met_after c.program label asked (cell_at c n)) else c) named))
    ∙ ap (λ (m : ℕ). erase observer (if is_met target (cell_at c m).state then with_cell c m (met_after c.program label asked (cell_at c m)) else c)) (sym number)

-- a cell that isn't met stays as it is
pub missed-between : (observer : Label) (c : Configuration) (label : Label) (asked : Act) (target : Target) → erase observer c ≡ c → is_met target (cell_at c (number_of target)).state ≡ false → c ≡ erase observer (target_after c label asked (Some target))
missed-between observer c label asked target erased missed =
    sym (ap (λ (b : Bool). erase observer (if b then with_cell c (number_of target) (met_after c.program label asked (cell_at c (number_of target))) else c)) missed ∙ erased)

-- a new node was placed
pub made-between : (observer : Label) (c : Configuration) (label : Label) (asked : Act) (n : ℕ) → erase observer c ≡ c → TasksAreJobs c → makes asked ≡ true → is_absent (cell_at c n).state ≡ true
    → with_cell c n (seen_cell observer (met_after c.program label (erase_act observer asked) blank)) ≡ erase observer (target_after c label asked (Some (New n)))
made-between observer c label asked n erased jobs makes_node absent =
    ap (with_cell c n) (made-erased observer c.program label asked makes_node)
    ∙ ap (λ (d : Configuration). with_cell d n (erase_cell observer (met_after c.program label asked blank))) (sym erased)
    ∙ sym (erase-with_cell observer c n (met_after c.program label asked blank))
    ∙ ap (λ (x : Cell). erase observer (with_cell c n (met_after c.program label asked x))) (sym (absent-taskless (cell_at c n) absent (jobs n)))
    ∙ ap (erase observer) (sym (ap (λ (b : Bool). if b then with_cell c n (met_after c.program label asked (cell_at c n)) else c) absent))
