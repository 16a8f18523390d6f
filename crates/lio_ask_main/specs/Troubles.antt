-- How many tasks of a run failed, and how many wait for ever.
use Rattle.std.specs.Prelude.{ℕ, Bool, true, false, not, ◌&&◌, ◌==◌, List, ◌++◌, length, codes, Option, Some, None}
use Rattle.std.specs.List.{count_by}
use Rattle.std.specs.Option.{option_map_or}
use Rattle.lio_values.specs.declared.value.Content.{Content}
use Rattle.lio_values.specs.declared.value.Content.TheVariants.{Faulted}
use Rattle.lio_cells.specs.declared.state.State.{State}
use Rattle.lio_cells.specs.declared.state.State.TheVariants.{Job}
use Rattle.lio_calculus.specs.Run.{Ran}
use Rattle.lio_calculus.specs.Step.{Cell, Configuration}
use Rattle.lio_front.specs.Summary.{line_of}

-- whether a content is a fault
abbrev pub is_faulted : Content → Bool
is_faulted (Faulted fault) = true
is_faulted other = false

-- whether a result is one
abbrev pub is_fault : Option Content → Bool
is_fault None = false
is_fault (Some content) = is_faulted content

-- whether a node is the job of a task that ended by a fault
abbrev pub has_fault : State → Bool
has_fault (Job label result) = is_fault result
has_fault other = false

abbrev pub has_failed : Cell → Bool
has_failed cell = has_fault cell.state

-- whether a cell has a task that hasn't ended: after a complete run it waits for ever
abbrev pub is_waiting : Cell → Bool
is_waiting cell = option_map_or (λ task. not task.ended) cell.task false

-- how many tasks failed, and how many wait
abbrev pub failed_count : Configuration → ℕ
failed_count last = count_by has_failed last.cells

abbrev pub waiting_count : Configuration → ℕ
waiting_count last = count_by is_waiting last.cells

-- whether counts tell of a trouble
abbrev pub are_some : ℕ → ℕ → Bool
are_some failed waiting = not (failed == 0 && waiting == 0)

-- whether a task failed or waits for ever
abbrev pub is_troubled : Ran → Bool
is_troubled ran = are_some (failed_count ran.last) (waiting_count ran.last)

-- what is said of so many turns, and of the tasks that failed and that wait
abbrev pub counts_text : ℕ → ℕ → ℕ → List ℕ
counts_text turns failed waiting = line_of (codes "history ok") turns ++ line_of (codes "failed") failed ++ line_of (codes "waiting") waiting

-- what is said of a run
abbrev pub audit_text : Ran → List ℕ
audit_text ran = counts_text (length ran.entries) (failed_count ran.last) (waiting_count ran.last)
