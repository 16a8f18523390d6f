-- What an observer sees of a configuration, and the erased step: the same step on the same kind of configuration, erased again (the erasure of the concurrent
-- calculus of LIO, ICFP 2012).
use Rattle.std.specs.Prelude.{ℕ, Bool, false, List, [], ◌∷◌, map, Option, Some, None, option_and_then, if◌then◌else◌}
use Rattle.std.specs.Option.{option_map, option_map_or}
use Rattle.lio_labels.specs.declared.label.Label.{Label}
use Rattle.lio_labels.specs.Flow.{flows}
use Rattle.lio_values.specs.declared.value.Content.{Content}
use Rattle.lio_values.specs.declared.value.Content.TheVariants.{Kept, Faulted, Hidden}
use Rattle.lio_values.specs.declared.act.Act.{Act}
use Rattle.lio_values.specs.declared.act.Act.TheVariants as act
use Rattle.lio_values.specs.declared.act.Reply.{Reply}
use Rattle.lio_values.specs.declared.act.Reply.TheVariants.{Done}
use Rattle.lio_values.specs.declared.entry.Entry.{Entry}
use Rattle.lio_values.specs.Erasure.{erase_value, erase_entry}
use Rattle.lio_cells.specs.declared.state.State.{State}
use Rattle.lio_cells.specs.declared.state.State.TheVariants.{Absent, Ref, Var, Chan, Job}
use Rattle.lio_cells.specs.State.{label_of}
use Rattle.lio_calculus.specs.Task.{TaskState}
use Rattle.lio_calculus.specs.Plan.{plan}
use Rattle.lio_calculus.specs.Hiding.{hide_task}
use Rattle.lio_calculus.specs.Step.{Cell, Configuration, blank, cell_at, Move, move_of, after, entry_of}

-- the label of a cell: of a job, its task's current label
abbrev pub label_of_cell : Cell → Option Label
label_of_cell cell = option_map_or (λ task. Some task.label) cell.task (label_of cell.state)

-- whether an observer sees a cell
abbrev pub sees : Label → Cell → Bool
sees observer cell = option_map_or (λ label. flows label observer) (label_of_cell cell) false

-- a state, with its values hidden
abbrev pub hide_state : Label → State → State
hide_state observer Absent = Absent
hide_state observer (Ref label value) = Ref label (erase_value observer value)
hide_state observer (Var label value) = Var label (option_map (erase_value observer) value)
hide_state observer (Chan label received) = Chan label received
hide_state observer (Job label result) = Job label result

-- a cell, with its values hidden
abbrev pub hide_cell : Label → Cell → Cell
hide_cell observer cell = record { state = hide_state observer cell.state; task = option_map (hide_task observer) cell.task }

-- a cell as an observer sees it: one that it doesn't see is left out
unfoldable pub erase_cell : Label → Cell → Cell
erase_cell observer cell = if sees observer cell then hide_cell observer cell else blank

-- a configuration as an observer sees it
abbrev pub erase : Label → Configuration → Configuration
erase observer c = record c { cells = map (erase_cell observer) c.cells }

-- a turn of the erased calculus: its entry, the configuration after it, and the released contents that are left
pub record LowTurn : Type 0 where
  pub entry : Entry
  pub next : Configuration
  pub left : List Content

-- an act with the released contents that are left after it
pub record Opened : Type 0 where
  pub act : Act
  pub left : List Content

-- the front of the released contents in the place of a hidden one
abbrev pub taking_front : Act → (Content → Act) → List Content → Option Opened
taking_front asked into [] = None
taking_front asked into (content ∷ contents) = Some (record { act = into content; left = contents })

-- a hidden content that comes to a label below the observer's is the next one that was released or exposed
abbrev pub opened_release : Label → Act → Label → (Content → Act) → Content → List Content → Option Opened
opened_release observer asked target into Hidden contents =
    if flows target observer then taking_front asked into contents else Some (record { act = asked; left = contents })
opened_release observer asked target into (Kept plain) contents = Some (record { act = asked; left = contents })
opened_release observer asked target into (Faulted fault) contents = Some (record { act = asked; left = contents })

-- a release or an exposure that was refused opens nothing
unfoldable pub opened : Label → Act → Reply → List Content → Option Opened
opened observer (act.Release source target power content) Done contents =
    opened_release observer (act.Release source target power content) target (act.Release source target power) content contents
opened observer (act.Expose source target power content) Done contents =
    opened_release observer (act.Expose source target power content) target (act.Expose source target power) content contents
opened observer asked reply contents = Some (record { act = asked; left = contents })

-- a turn with the contents that it opened, erased
abbrev pub low_with : Label → ℕ → Configuration → ℕ → TaskState → Move → Opened → LowTurn
low_with observer ticket c k task move o =
    let seen : Move = record move { act = o.act }
    in record {
      entry = erase_entry observer (entry_of ticket k task seen);
      next = erase observer (after c k task seen);
      left = o.left;
    }

-- the erased turn of a task
abbrev pub low_turn : Label → ℕ → Configuration → ℕ → List Content → TaskState → Option LowTurn
low_turn observer ticket c k contents task =
    option_and_then (λ move. option_map (low_with observer ticket c k task move) (opened observer move.act move.reply contents)) (move_of (cell_at c) (plan c.program task))

-- the erased step of task k, with a ticket and the released contents; none where it can't take one, or where a released content is needed and none is left
unfoldable pub low : Label → ℕ → Configuration → ℕ → List Content → Option LowTurn
low observer ticket c k contents = option_and_then (low_turn observer ticket c k contents) (cell_at c k).task
