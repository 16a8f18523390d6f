-- The cells that holders stand for, and what a changed holder makes of them.
use Rattle.std.proofs.Common.{◌≡◌, ◌∙◌, sym, ap, subst, refl, ℕ, zero, suc, ◌<◌, List, [], ◌∷◌, map, length, get_or, Some, None, option_and_then, arith}
use Rattle.std.specs.Prelude.{slice_get, slice_set, Result, Ok, Err, OnErr}
use Rattle.std.specs.Option.{option_map}
use Rattle.std.specs.Vec.{with_item}
use Rattle.std.proofs.lemmas.List.{map-set, get_or-map, set-get_or}
use Rattle.std.proofs.lemmas.Option.{slice_get_read}
use Rattle.lio_syntax.specs.Statements.{Procedure}
use Rattle.lio_calculus.specs.Step.{Cell, Configuration, blank, cell_at, with_cell}
use Rattle.lio_task_turns.specs.StateOf.{program_of}
use Rattle.lio_task.specs.declared.task.Task.{Task}
use Rattle.lio_task.specs.declared.config.Holder.{Holder}
use Rattle.lio_task.specs.declared.config.Config.{Config}
use Rattle.lio_task.specs.StateOf.{state_in}
use Rattle.lio_task.specs.Configuration.{cell_of, configuration_of, task_in}

-- what holds anyway holds after a refusal
pub on_err : {T E : Type 0} (P : Type 0) (result : Result T E) → P → OnErr result P
on_err P (Ok x) h = tt
on_err P (Err e) h = h

-- the cell of a holder that is there
pub cell_at-configuration_of : (script : List Procedure) (config : Config) (k : ℕ) (holder : Holder) → k < length config.holders.items → holder ≡ get_or config.holders.items k holder → cell_at (configuration_of script config) k ≡ cell_of script holder
cell_at-configuration_of script config k holder inside is = get_or-map (cell_of script) config.holders.items k holder blank inside ∙ ap (cell_of script) (sym is)

-- the task of a holder that is there
pub task_in-at : (config : Config) (k : ℕ) (holder : Holder) → k < length config.holders.items → holder ≡ get_or config.holders.items k holder → task_in config k ≡ holder.task
task_in-at config k holder inside is = ap (option_and_then (λ (h : Holder). h.task)) (slice_get_read config.holders.items _ k holder refl inside is)

-- the cells of a task and of a node that are there
task-cell-in : (script : List Procedure) (holders : List Holder) (k : ℕ) (task : Task) → option_and_then (λ (h : Holder). h.task) (slice_get holders k) ≡ Some task → (get_or (map (cell_of script) holders) k blank).task ≡ Some (state_in script task)
task-cell-in script [] k task e = absurd (cc)
task-cell-in script (holder ∷ holders) zero task e = ap (option_map (state_in script)) e
task-cell-in script (holder ∷ holders) (suc k) task e = task-cell-in script holders k task e

pub task-cell : (script : List Procedure) (config : Config) (k : ℕ) (task : Task) → task_in config k ≡ Some task → (cell_at (configuration_of script config) k).task ≡ Some (state_in script task)
task-cell script config k task e = task-cell-in script config.holders.items k task e

no-task-in : (script : List Procedure) (holders : List Holder) (k : ℕ) → option_and_then (λ (h : Holder). h.task) (slice_get holders k) ≡ None → (get_or (map (cell_of script) holders) k blank).task ≡ None
no-task-in script [] k e = refl
no-task-in script (holder ∷ holders) zero e = ap (option_map (state_in script)) e
no-task-in script (holder ∷ holders) (suc k) e = no-task-in script holders k e

pub no-task-cell : (script : List Procedure) (config : Config) (k : ℕ) → task_in config k ≡ None → (cell_at (configuration_of script config) k).task ≡ None
no-task-cell script config k e = no-task-in script config.holders.items k e

task-within-in : (holders : List Holder) (k : ℕ) (task : Task) → option_and_then (λ (h : Holder). h.task) (slice_get holders k) ≡ Some task → k < length holders
task-within-in [] k task e = absurd (cc)
task-within-in (holder ∷ holders) zero task e = omega arith
task-within-in (holder ∷ holders) (suc k) task e = omega (arith, task-within-in holders k task e)

length-cells : (script : List Procedure) (holders : List Holder) → length (map (cell_of script) holders) ≡ length holders
length-cells script [] = refl
length-cells script (holder ∷ holders) = ap suc (length-cells script holders)

pub cells-length : (script : List Procedure) (config : Config) → length (configuration_of script config).cells ≡ length config.holders.items
cells-length script config = length-cells script config.holders.items

pub task-within : (script : List Procedure) (config : Config) (k : ℕ) (task : Task) → task_in config k ≡ Some task → k < length (configuration_of script config).cells
task-within script config k task e = subst (λ (n : ℕ). k < n) (sym (cells-length script config)) (task-within-in config.holders.items k task e)

-- the configuration with another holder under a number
abbrev pub with_holder : Config → ℕ → Holder → Config
with_holder config k holder = record { holders = with_item config.holders k holder; longest = config.longest }

pub configuration_of-with_holder : (script : List Procedure) (config : Config) (k : ℕ) (holder : Holder) → configuration_of script (with_holder config k holder) ≡ with_cell (configuration_of script config) k (cell_of script holder)
configuration_of-with_holder script config k holder =
    ap (λ (cells : List Cell). record (configuration_of script config) { cells = cells }) (map-set (cell_of script) config.holders.items k holder)

-- a holder with an equal cell changes nothing
pub same-configuration : (script : List Procedure) (config : Config) (k : ℕ) (holder other : Holder) → k < length config.holders.items → holder ≡ get_or config.holders.items k holder → cell_of script other ≡ cell_of script holder
    → configuration_of script (with_holder config k other) ≡ configuration_of script config
same-configuration script config k holder other inside is same =
    configuration_of-with_holder script config k other
    ∙ ap (with_cell (configuration_of script config) k) (same ∙ sym (cell_at-configuration_of script config k holder inside is))
    ∙ ap (λ (cells : List Cell). record (configuration_of script config) { cells = cells }) (set-get_or (configuration_of script config).cells k blank)

-- two holders were changed
pub two-cells : (script : List Procedure) (old new : Config) (k n : ℕ) (actor met : Holder) → new.longest ≡ old.longest → new.holders.items ≡ slice_set (slice_set old.holders.items k actor) n met
    → configuration_of script new ≡ with_cell (with_cell (configuration_of script old) k (cell_of script actor)) n (cell_of script met)
two-cells script old new k n actor met same is =
    let with_cells : ℕ → List Cell → Configuration = λ longest cells. record { program = program_of script longest; cells = cells } in
    ap (λ (longest : ℕ). with_cells longest (map (cell_of script) new.holders.items)) same
    ∙ ap (λ (holders : List Holder). with_cells old.longest (map (cell_of script) holders)) is
    ∙ ap (with_cells old.longest) (map-set (cell_of script) (slice_set old.holders.items k actor) n met)
    ∙ ap (λ (cells : List Cell). with_cells old.longest (slice_set cells n (cell_of script met))) (map-set (cell_of script) old.holders.items k actor)

-- a cell that was put where it stood
pub with_cell-same : (c : Configuration) (k : ℕ) → with_cell c k (cell_at c k) ≡ c
with_cell-same c k = ap (λ (cells : List Cell). record c { cells = cells }) (set-get_or c.cells k blank)
