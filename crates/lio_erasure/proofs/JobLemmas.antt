-- In a configuration that is as an observer sees it each cell that has a task is a job, and stays one.
use Rattle.std.proofs.Common.{◌≡◌, ◌∙◌, refl, sym, ap, subst, ℕ, zero, suc, Bool, true, false, true≢false, IsTrue, if◌then◌else◌, List, [], ◌∷◌, get_or, Option, Some, None, is_some}
use Rattle.std.specs.Prelude.{slice_set}
use Rattle.std.specs.Option.{option_map}
use Rattle.lio_labels.specs.declared.label.Label.{Label}
use Rattle.lio_values.specs.declared.act.Act.{Act}
use Rattle.lio_values.specs.declared.act.Act.TheVariants as act
use Rattle.lio_cells.specs.declared.state.State.{State}
use Rattle.lio_cells.specs.declared.state.State.TheVariants.{Absent}
use Rattle.lio_cells.specs.State.{Kind, is_absent, is_job, state_after}
use Rattle.lio_calculus.specs.Task.{TaskState}
use Rattle.lio_calculus.specs.Plan.{Program, Target, New}
use Rattle.lio_calculus.specs.Hiding.{hide_task}
use Rattle.lio_calculus.specs.Step.{Cell, Configuration, blank, born, cell_at, is_met, met_after, number_of, target_after, task_after, with_cell}
use Rattle.lio_calculus.specs.Erased.{erase, erase_cell, hide_state, sees}
use Rattle.lio_calculus.specs.Afforded.{kind_met, makes}
use Rattle.lio_calculus.proofs.ConfigLemmas.{cell_at-erased, erase-twice}
use Rattle.lio_calculus.specs.Purity.{ContentsArePure}
use Rattle.lio_calculus.proofs.InvisibleLemmas.{erase_cell-seen, erase_cell-unseen}
use Rattle.lio_calculus.proofs.PurityLemmas.{erased_is_pure, sound_is_pure}
use Rattle.lio_erasure.specs.Low.{IsErased, IsSeenOfSound, TasksAreJobs}
use Rattle.lio_erasure.proofs.ActLemmas.{job-after, met-unborn}

-- a cell that is a job if it has a task
abbrev pub IsJobWithTask : Cell → Type 0
IsJobWithTask cell = IsTrue (is_some cell.task) → IsTrue (is_job cell.state)

is_job-hidden : (observer : Label) (state : State) → is_job (hide_state observer state) ≡ is_job state
is_job-hidden observer Absent = refl
is_job-hidden observer state = refl

had-task : (observer : Label) (task : Option TaskState) → is_some (option_map (hide_task observer) task) ≡ is_some task
had-task observer None = refl
had-task observer (Some task) = refl

-- as the observer sees it
cell-job : (observer : Label) (cell : Cell) → IsJobWithTask cell → IsJobWithTask (erase_cell observer cell)
cell-job observer cell job = by (sees observer cell) refl
  where
    by : (b : Bool) → sees observer cell ≡ b → IsJobWithTask (erase_cell observer cell)
    by true e = subst IsJobWithTask (sym (erase_cell-seen observer cell e)) (λ some. is_job-hidden observer cell.state ∙ job (sym (had-task observer cell.task) ∙ some))
    by false e = subst IsJobWithTask (sym (erase_cell-unseen observer cell e)) (λ some. absurd (true≢false (sym some)))

jobs-erased : (observer : Label) (c : Configuration) → TasksAreJobs c → TasksAreJobs (erase observer c)
jobs-erased observer c jobs = λ k. subst IsJobWithTask (sym (cell_at-erased observer c k)) (cell-job observer (cell_at c k) (jobs k))

-- what an observer sees of a configuration in which each task has a job, and whose contents are pure
pub is_erased : (observer : Label) (c : Configuration) → TasksAreJobs c → ContentsArePure c → IsErased observer (erase observer c)
is_erased observer c jobs pure = record { jobs = jobs-erased observer c jobs; erased = erase-twice observer c; pure = erased_is_pure observer c pure }

pub sound-erased : (observer : Label) (c : Configuration) → IsSeenOfSound observer c → IsErased observer c
sound-erased observer c seen =
    subst (IsErased observer) (sym seen.seen) (is_erased observer seen.whole (λ k some. sym (seen.sound.jobs k) ∙ some) (sound_is_pure seen.whole seen.sound))

-- with another cell
cells-set : (P : Cell → Type 0) (cells : List Cell) (k : ℕ) (cell : Cell) → ((n : ℕ) → P (get_or cells n blank)) → P cell → (n : ℕ) → P (get_or (slice_set cells k cell) n blank)
cells-set P [] k cell each here n = each n
cells-set P (x ∷ cells) zero cell each here zero = here
cells-set P (x ∷ cells) zero cell each here (suc n) = each (suc n)
cells-set P (x ∷ cells) (suc k) cell each here zero = each zero
cells-set P (x ∷ cells) (suc k) cell each here (suc n) = cells-set P cells k cell (λ m. each (suc m)) here n

pub jobs-set : (c : Configuration) (k : ℕ) (cell : Cell) → TasksAreJobs c → IsJobWithTask cell → TasksAreJobs (with_cell c k cell)
jobs-set c k cell jobs here = cells-set IsJobWithTask c.cells k cell jobs here

-- a node that an act meets by a handle, and a new one
met-job : (kind : Kind) (program : Program) (label : Label) (asked : Act) (cell : Cell) → kind_met asked ≡ Some kind → IsJobWithTask cell → IsJobWithTask (met_after program label asked cell)
met-job kind program label asked cell meets job = λ some. job-after cell.state asked (job (sym (tasks cell.task) ∙ some))
  where
    kept : (t : Option TaskState) → is_some (task_after t None) ≡ is_some t
    kept None = refl
    kept (Some task) = refl

    tasks : (t : Option TaskState) → is_some (task_after t (born program label asked)) ≡ is_some t
    tasks t = ap (λ (child : Option TaskState). is_some (task_after t child)) (met-unborn kind program label asked meets) ∙ kept t

-- a cell without a node has no task
pub absent-taskless : (cell : Cell) → is_absent cell.state ≡ true → IsJobWithTask cell → cell ≡ blank
absent-taskless cell absent job = by cell.state cell.task absent job
  where
    by : (s : State) (t : Option TaskState) → is_absent s ≡ true → (IsTrue (is_some t) → IsTrue (is_job s)) → ◌≡◌ {A = Cell} (record { state = s; task = t }) blank
    by Absent None a j = refl
    by Absent (Some task) a j = absurd (true≢false (sym (j refl)))
    by state t a j = absurd (true≢false (sym a))

pub made-is_job : (program : Program) (label : Label) (asked : Act) → makes asked ≡ true → IsJobWithTask (met_after program label asked blank)
unfolding state_after
made-is_job program label (act.NewRef l value) e = λ some. absurd (true≢false (sym some))
made-is_job program label (act.NewVar l value) e = λ some. absurd (true≢false (sym some))
made-is_job program label (act.Fork birth) e = λ some. refl
made-is_job program label (act.Spawn birth) e = λ some. refl
made-is_job program label asked e = absurd (true≢false (sym e))

-- the target of a visit
pub target-jobs : (c : Configuration) (label : Label) (asked : Act) (kind : Kind) (n : ℕ) (target : Target) → TasksAreJobs c → kind_met asked ≡ Some kind → number_of target ≡ n
    → TasksAreJobs (target_after c label asked (Some target))
target-jobs c label asked kind n target jobs meets number = by (is_met target (cell_at c (number_of target)).state)
  where
    by : (b : Bool) → TasksAreJobs (if b then with_cell c (number_of target) (met_after c.program label asked (cell_at c (number_of target))) else c)
    by true = jobs-set c (number_of target) (met_after c.program label asked (cell_at c (number_of target))) jobs (met-job kind c.program label asked (cell_at c (number_of target)) meets (jobs (number_of target)))
    by false = jobs

pub new-jobs : (c : Configuration) (label : Label) (asked : Act) (n : ℕ) → TasksAreJobs c → makes asked ≡ true → TasksAreJobs (target_after c label asked (Some (New n)))
new-jobs c label asked n jobs makes_node = by (is_absent (cell_at c n).state) refl
  where
    by : (b : Bool) → is_absent (cell_at c n).state ≡ b → TasksAreJobs (if b then with_cell c n (met_after c.program label asked (cell_at c n)) else c)
    by true e =
        jobs-set c n (met_after c.program label asked (cell_at c n)) jobs
        (subst (λ (x : Cell). IsJobWithTask (met_after c.program label asked x)) (sym (absent-taskless (cell_at c n) e (jobs n))) (made-is_job c.program label asked makes_node))
    by false e = jobs
