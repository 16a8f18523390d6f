-- Each first configuration is well-formed: its calls fit, and its turns are the policy's.
use Rattle.std.proofs.Common.{◌≡◌, refl, subst, ℕ, ◌+◌, List, [], ◌∷◌, ◌++◌, map, All, arith}
use Rattle.std.specs.Prelude.{replicate, sum_by}
use Rattle.std.proofs.lemmas.List.Elements.{All-nil}
use Rattle.std.proofs.lemmas.List.Sums.{sum_by-append, sum_by-cons}
use Rattle.std.proofs.lemmas.List.Folds.{sum_by-replicate}
use Rattle.lio_values.specs.declared.value.Value.{Value}
use Rattle.lio_syntax.specs.Statements.{Procedure}
use Rattle.lio_syntax.specs.Beginnings.{number_of}
use Rattle.lio_syntax.specs.Kept.{KeepsRules}
use Rattle.lio_syntax.specs.Lines.{script_lines}
use Rattle.lio_calculus.specs.Task.{TaskState}
use Rattle.lio_calculus.specs.Step.{Cell, blank, body_of}
use Rattle.lio_calculus_runs.specs.Calls.{ItemFits, ScriptFits, CallsFit}
use Rattle.lio_calculus_runs.specs.Turns.{turns_of, turns_left}
use Rattle.lio_calculus_runs.proofs.LineCalls.{rules_fit_calls}
use Rattle.lio_calculus_runs.proofs.PlanCalls.{found-fits}
use Rattle.lio_calculus_runs.proofs.TaskCalls.{enter-fits}
use Rattle.lio_policy.proofs.PolicyLemmas.{limits_are_small}
use Rattle.lio_policy.specs.Policy.{PolicyParts}
use Rattle.lio_policy.specs.declared.policy.FileEntry.{FileEntry}
use Rattle.lio_policy.specs.declared.policy.TaskEntry.{TaskEntry}
use Rattle.lio_start.specs.Fits.{procedure_of}
use Rattle.lio_start.specs.Laws.{StartIsWellFormed}
use Rattle.lio_start.specs.Start.{inputs_of, task_of, channel_cell, job_cell, job_cells, cells_in_all, ranges_from, start_of}
use Rattle.lio_start.proofs.PlaceLemmas.{begun}
use Rattle.lio_start.proofs.SoundLemmas.{start_is_sound}

-- the turns that the tasks of cells have left
abbrev turns_in : List Cell → ℕ
turns_in cells = sum_by (λ (cell : Cell). turns_of cell.task) cells

turns-channels : (channels : List FileEntry) → turns_in (map channel_cell channels) ≡ 0
turns-channels [] = refl
turns-channels (channel ∷ channels) = omega (arith, sum_by-cons (λ (cell : Cell). turns_of cell.task) (channel_cell channel) (map channel_cell channels), turns-channels channels)

turns-jobs : (script : List Procedure) (inputs : List Value) (first : ℕ) (tasks : List TaskEntry) → turns_in (job_cells script inputs first tasks) ≡ sum_by (λ (t : TaskEntry). t.turns) tasks
unfolding job_cells task_of
turns-jobs script inputs first [] = refl
turns-jobs script inputs first (task ∷ tasks) = omega (
  arith,
  sum_by-cons (λ (cell : Cell). turns_of cell.task) (job_cell script inputs first task) (job_cells script inputs (first + task.cells) tasks),
  sum_by-cons (λ (t : TaskEntry). t.turns) task tasks,
  turns-jobs script inputs (first + task.cells) tasks,
)

turns-blank : (n : ℕ) → turns_in (replicate n blank) ≡ 0
turns-blank n = omega (arith, sum_by-replicate (λ (cell : Cell). turns_of cell.task) n blank)

-- the turns that are left at the start are those that the policy gives its tasks
turns-start : (policy : PolicyParts) (script : List Procedure) (texts : List (List ℕ)) → turns_left (start_of policy script texts) ≡ sum_by (λ (t : TaskEntry). t.turns) policy.tasks
unfolding start_of
turns-start policy script texts =
    let jobs : List Cell = job_cells script (inputs_of policy texts) (ranges_from policy) policy.tasks in
    let free : List Cell = replicate (cells_in_all policy.tasks) blank in
    omega (
      arith,
      sum_by-append (λ (cell : Cell). turns_of cell.task) (map channel_cell policy.channels) (jobs ++ free),
      sum_by-append (λ (cell : Cell). turns_of cell.task) jobs free,
      turns-channels policy.channels,
      turns-jobs script (inputs_of policy texts) (ranges_from policy) policy.tasks,
      turns-blank (cells_in_all policy.tasks),
    )

-- each task begins with its procedure's body
task-fits : (script : List Procedure) (inputs : List Value) (first : ℕ) (entry : TaskEntry) → ScriptFits script → All (ItemFits script) (task_of script inputs first entry).items
unfolding task_of
task-fits script inputs first entry fits = enter-fits script (body_of (procedure_of script entry.proc_name)) [] (found-fits script (number_of script entry.proc_name) fits) (All-nil _)

start-calls : (policy : PolicyParts) (script : List Procedure) (texts : List (List ℕ)) → ScriptFits script → CallsFit (start_of policy script texts)
unfolding start_of
start-calls policy script texts fits = record {
  items = λ k task is. let b = begun policy script texts k task is in subst (λ (t : TaskState). All (ItemFits script) t.items) b.is (task-fits script (inputs_of policy texts) _ b.job.entry fits);
  program = fits;
}

start-rules : (policy : PolicyParts) (script : List Procedure) (texts : List (List ℕ)) → KeepsRules (script_lines script) → KeepsRules (script_lines (start_of policy script texts).program.procedures)
unfolding start_of
start-rules policy script texts keeps = keeps

pub start_is_well_formed : StartIsWellFormed
start_is_well_formed policy script inputs is said keeps = record {
  sound = start_is_sound policy script inputs is said;
  rules = start-rules policy script inputs keeps;
  calls = start-calls policy script inputs (rules_fit_calls script keeps);
  turns = omega (arith, turns-start policy script inputs, is.limits.turns, (limits_are_small policy.version).turns);
}
