-- The tasks of holders by number.
use Rattle.std.proofs.Common.{◌≡◌, ◌∙◌, refl, sym, ap, ℕ, zero, suc, ◌+◌, ◌≤◌, true, true≢false, cond, List, [], ◌∷◌, ◌++◌, append-nil, drop, length, map, Option, Some, None, is_some, option_and_then, arith}
use Rattle.std.specs.Option.{option_map}
use Rattle.lio_syntax.specs.Statements.{Procedure}
use Rattle.lio_calculus_runs.specs.Rounds.{tasks_from}
use Rattle.lio_task.specs.declared.task.Task.{Task}
use Rattle.lio_task.specs.declared.config.Holder.{Holder}
use Rattle.lio_task.specs.StateOf.{state_in}
use Rattle.lio_calculus.specs.Task.{TaskState}
use Rattle.lio_calculus.specs.Step.{Configuration, cell_at}
use Rattle.lio_calculus.specs.Sound.{IsTaskOf}
use Rattle.lio_task.specs.Status.{status_of}
use Rattle.lio_task.specs.declared.config.Config.{Config}
use Rattle.lio_task.specs.Takes.{awaited_at, awaited_by}
use Rattle.lio_task.specs.Configuration.{cell_of, configuration_of, task_in}
use Rattle.lio_task.proofs.HolderLemmas.{no-task-cell, task-cell}

-- the numbers of the holders that have a task, from this number on
abbrev pub holders_from : ℕ → List Holder → List ℕ
holders_from n [] = []
holders_from n (holder ∷ holders) = cond (is_some holder.task) (n ∷ holders_from (n + 1) holders) (holders_from (n + 1) holders)

has_task : (script : List Procedure) (task : Option Task) → is_some (option_map (state_in script) task) ≡ is_some task
has_task script None = refl
has_task script (Some task) = refl

pub tasks_from-holders : (script : List Procedure) (n : ℕ) (holders : List Holder) → holders_from n holders ≡ tasks_from n (map (cell_of script) holders)
unfolding tasks_from
tasks_from-holders script n [] = refl
tasks_from-holders script n (holder ∷ holders) = rw (has_task script holder.task, sym (tasks_from-holders script (n + 1) holders)) refl

drop-end : (holders : List Holder) (k : ℕ) → length holders ≤ k → drop k holders ≡ []
drop-end [] zero all = refl
drop-end [] (suc k) all = refl
drop-end (holder ∷ holders) zero all = absurd (omega arith)
drop-end (holder ∷ holders) (suc k) all = drop-end holders k (omega arith)

-- where no holder is left, the tasks so far are all tasks
pub holders_from-end : (order : List ℕ) (k : ℕ) (holders : List Holder) → order ++ holders_from k (drop k holders) ≡ holders_from 0 holders → length holders ≤ k → order ≡ holders_from 0 holders
holders_from-end order k holders all past =
    let none : order ++ [] ≡ holders_from 0 holders = ap (λ (hs : List Holder). order ++ holders_from k hs) (sym (drop-end holders k past)) ∙ all in sym (append-nil order) ∙ none

-- the task with a number, and the node at whose access it stands
pub record TaskAwaits (c : Configuration) (k : ℕ) (node : Option ℕ) : Type 0 where
  pub task : TaskState
  pub is : IsTaskOf c k task
  pub awaits : node ≡ awaited_by (status_of task)

pub task-awaits : (script : List Procedure) (config : Config) (k : ℕ) (node : Option ℕ) → is_some (cell_at (configuration_of script config) k).task ≡ true → node ≡ awaited_at script config k
    → TaskAwaits (configuration_of script config) k node
task-awaits script config k node some at = by (task_in config k) refl
  where
    by : (task : Option Task) → task_in config k ≡ task → TaskAwaits (configuration_of script config) k node
    by None is = absurd (true≢false (sym some ∙ ap (λ (t : Option TaskState). is_some t) (no-task-cell script config k is)))
    by (Some task) is = record { task = state_in script task; is = task-cell script config k task is; awaits = at ∙ ap (option_and_then (λ (t : Task). awaited_by (status_of (state_in script t)))) is }
