-- That a node serves what its turn asks.
use Rattle.std.proofs.Common.{◌≡◌, ◌∙◌, refl, sym, ap, ℕ, Bool, true, false, true≢false, ◌||◌, List, Option, Some, None, is_some}
use Rattle.std.specs.Prelude.{IsSome}
use Rattle.lio_values.specs.declared.act.Act.{Act}
use Rattle.lio_syntax.specs.Statements.{Procedure}
use Rattle.lio_cells.specs.Node.{takes_part}
use Rattle.lio_cells.specs.State.{is_job, ready}
use Rattle.lio_calculus.specs.Task.{TaskState}
use Rattle.lio_calculus.specs.Step.{Cell, cell_at}
use Rattle.lio_task.specs.declared.task.Task.{Task}
use Rattle.lio_task.specs.declared.config.Holder.{Holder}
use Rattle.lio_erasure.specs.Low.{TasksAreJobs, holder_in, low_configuration_of, low_task_in}
use Rattle.lio_erasure.specs.Turn.{CanServe, HasRoom, node_of_holder}
use Rattle.lio_erasure.proofs.HolderLemmas.{cell-low, task-holder, task-low}

-- a node that is there, has room and takes part
pub can-serve : (script : List Procedure) (longest : ℕ) (holders : List (Option Holder)) (n : ℕ) (asked : Act) → IsSome (holder_in holders n) → HasRoom (holder_in holders n) asked
    → takes_part (cell_at (low_configuration_of script longest holders) n).state asked ≡ true → CanServe (holder_in holders n) asked
can-serve script longest holders n asked some room part = by (holder_in holders n) refl
  where
    by : (h : Option Holder) → holder_in holders n ≡ h → CanServe (holder_in holders n) asked
    by None is = absurd (true≢false (sym some ∙ ap (λ (h : Option Holder). is_some h) is))
    by (Some holder) is = record {
      node = holder.node;
      is = ap node_of_holder is;
      room = room holder.node (ap node_of_holder is);
      part = ap (λ (cell : Cell). takes_part cell.state asked) (sym (cell-low script longest holders n (Some holder) is)) ∙ part;
    }

-- the holder of a task is there
pub task-there : (holders : List (Option Holder)) (k : ℕ) (task : Task) → low_task_in holders k ≡ Some task → IsSome (holder_in holders k)
task-there holders k task is = let (holder, found, at) = task-holder holders k task is in ap (λ (h : Option Holder). is_some h) found

-- a task's own node takes part in each act
pub own-part : (script : List Procedure) (longest : ℕ) (holders : List (Option Holder)) (k : ℕ) (task : Task) (asked : Act) → low_task_in holders k ≡ Some task → TasksAreJobs (low_configuration_of script longest holders)
    → takes_part (cell_at (low_configuration_of script longest holders) k).state asked ≡ true
own-part script longest holders k task asked is jobs =
    let cell : Cell = cell_at (low_configuration_of script longest holders) k in
    by (ready cell.state asked) (is_job cell.state) (jobs k (ap (λ (t : Option TaskState). is_some t) (task-low script longest holders k (Some task) is)))
  where
    by : (a b : Bool) → b ≡ true → (a || b) ≡ true
    by true b e = refl
    by false b e = e
