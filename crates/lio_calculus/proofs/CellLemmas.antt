-- What a cell that is seen with hidden values becomes.
use Rattle.std.proofs.Common.{◌≡◌, refl, ap, ℕ, false, ◌&&◌, List, [], map, Option, Some, None}
use Rattle.std.specs.Prelude.{slice_get}
use Rattle.std.specs.Option.{option_map, option_map_or}
use Rattle.lio_labels.specs.declared.label.Label.{Label}
use Rattle.lio_labels.specs.Flow.{flows}
use Rattle.lio_labels.specs.Equality.{same_label}
use Rattle.lio_values.specs.declared.value.Content.{Content}
use Rattle.lio_values.specs.declared.value.Value.{Value}
use Rattle.lio_values.specs.declared.act.Act.{Act}
use Rattle.lio_values.specs.declared.act.Act.TheVariants as act
use Rattle.lio_values.specs.declared.act.Birth.{Birth}
use Rattle.lio_values.specs.Erasure.{erase_value, erase_birth}
use Rattle.lio_syntax.specs.Statements.{Procedure}
use Rattle.lio_cells.specs.declared.state.State.{State}
use Rattle.lio_cells.specs.declared.state.State.TheVariants.{Absent, Ref, Var, Job}
use Rattle.lio_cells.specs.State.{is_of, label_of, written, filled, received, ended, placed, state_after}
use Rattle.lio_syntax.specs.Environment.{bind_all}
use Rattle.lio_calculus.specs.Task.{TaskState}
use Rattle.lio_syntax.specs.Items.{enter}
use Rattle.lio_calculus.specs.Plan.{Program, Target, Node, New}
use Rattle.lio_syntax.specs.Hiding.{hide_environment, hide_item}
use Rattle.lio_syntax.proofs.HidingLemmas.{enter-hidden}
use Rattle.lio_calculus.specs.Hiding.{hide_task, hide_asked}
use Rattle.lio_calculus.specs.Step.{Cell, is_met, body_of, parameters_of, child_of, born, task_after, met_after}
use Rattle.lio_calculus.specs.Erased.{label_of_cell, sees, hide_state, hide_cell}
use Rattle.lio_calculus.proofs.HidingLemmas.{bind_all-hidden}
use Rattle.lio_calculus.proofs.StateLemmas.{is_absent-hidden, is_of-hidden, label_of-hidden}

written-hidden : (observer : Label) (state : State) (value : Value) → written (hide_state observer state) (erase_value observer value) ≡ hide_state observer (written state value)
written-hidden observer Absent value = refl
written-hidden observer state value = refl

filled-hidden : (observer : Label) (state : State) (value : Option Value) → filled (hide_state observer state) (option_map (erase_value observer) value) ≡ hide_state observer (filled state value)
filled-hidden observer Absent value = refl
filled-hidden observer state value = refl

received-hidden : (observer : Label) (state : State) (text : List ℕ) → received (hide_state observer state) text ≡ hide_state observer (received state text)
received-hidden observer Absent text = refl
received-hidden observer state text = refl

ended-hidden : (observer : Label) (state : State) (content : Content) → ended (hide_state observer state) content ≡ hide_state observer (ended state content)
ended-hidden observer Absent content = refl
ended-hidden observer state content = refl

placed-hidden : (observer : Label) (state new : State) → placed (hide_state observer state) (hide_state observer new) ≡ hide_state observer (placed state new)
placed-hidden observer Absent new = refl
placed-hidden observer state new = refl

-- the state after an act that is asked for with hidden values
pub state_after-hidden : (observer : Label) (state : State) (asked : Act) → state_after (hide_state observer state) (hide_asked observer asked) ≡ hide_state observer (state_after state asked)
unfolding state_after hide_asked
state_after-hidden observer state (act.Write value) = written-hidden observer state value
state_after-hidden observer state act.Take = filled-hidden observer state None
state_after-hidden observer state (act.Put value) = filled-hidden observer state (Some value)
state_after-hidden observer state (act.Send text) = received-hidden observer state text
state_after-hidden observer state (act.NewRef label value) = placed-hidden observer state (Ref label value)
state_after-hidden observer state (act.NewVar label value) = placed-hidden observer state (Var label value)
state_after-hidden observer state (act.Fork birth) = placed-hidden observer state (Job birth.result None)
state_after-hidden observer state (act.Spawn birth) = placed-hidden observer state (Job birth.result None)
state_after-hidden observer state (act.Ended content) = ended-hidden observer state content
state_after-hidden observer state asked = refl

-- whether a cell is the one that a turn is to meet
pub is_met-hidden : (observer : Label) (target : Target) (state : State) → is_met target (hide_state observer state) ≡ is_met target state
is_met-hidden observer (Node kind handle) state =
    rw (is_of-hidden observer kind state) (ap (λ (l : Option Label). is_of kind state && option_map_or (λ k. same_label k handle.label) l false) (label_of-hidden observer state))
is_met-hidden observer (New number) state = is_absent-hidden observer state

-- a child that is given hidden arguments
child_of-hidden : (observer : Label) (program : Program) (label : Label) (birth : Birth) → child_of program label (erase_birth observer birth) ≡ hide_task observer (child_of program label birth)
unfolding child_of
child_of-hidden observer program label birth =
    let procedure : Option Procedure = slice_get program.procedures birth.proc_at in
    let environment : bind_all [] (parameters_of procedure) (map (erase_value observer) birth.args) ≡ hide_environment observer (bind_all [] (parameters_of procedure) birth.args) = bind_all-hidden observer [] (parameters_of procedure) birth.args in
    let items : enter (body_of procedure) [] ≡ map (hide_item observer) (enter (body_of procedure) []) = enter-hidden observer (body_of procedure) [] in
    λ i. record { environment = environment i; items = items i; label = label; clearance = birth.clearance; turns = birth.turns; first = birth.first; cells = birth.cells; ended = false }

born-hidden : (observer : Label) (program : Program) (label : Label) (asked : Act) → born program label (hide_asked observer asked) ≡ option_map (hide_task observer) (born program label asked)
unfolding hide_asked
born-hidden observer program label (act.Fork birth) = ap Some (child_of-hidden observer program label birth)
born-hidden observer program label (act.Spawn birth) = ap Some (child_of-hidden observer program label birth)
born-hidden observer program label asked = refl

task_after-hidden : (observer : Label) (task child : Option TaskState) → task_after (option_map (hide_task observer) task) (option_map (hide_task observer) child) ≡ option_map (hide_task observer) (task_after task child)
task_after-hidden observer None child = refl
task_after-hidden observer (Some task) child = refl

-- the cell that an act met
pub met_after-hidden : (observer : Label) (program : Program) (label : Label) (asked : Act) (cell : Cell) → met_after program label (hide_asked observer asked) (hide_cell observer cell) ≡ hide_cell observer (met_after program label asked cell)
met_after-hidden observer program label asked cell =
    let state : state_after (hide_state observer cell.state) (hide_asked observer asked) ≡ hide_state observer (state_after cell.state asked) = state_after-hidden observer cell.state asked in
    let task : task_after (option_map (hide_task observer) cell.task) (born program label (hide_asked observer asked)) ≡ option_map (hide_task observer) (task_after cell.task (born program label asked)) =
    rw (born-hidden observer program label asked) (task_after-hidden observer cell.task (born program label asked)) in
    λ i. record { state = state i; task = task i }

-- what is seen of a cell doesn't depend on values
label_of_cell-hidden : (observer : Label) (state : State) (task : Option TaskState) → label_of_cell (hide_cell observer (record { state = state; task = task })) ≡ label_of_cell (record { state = state; task = task })
label_of_cell-hidden observer state None = label_of-hidden observer state
label_of_cell-hidden observer state (Some task) = refl

pub sees-hidden : (observer : Label) (cell : Cell) → sees observer (hide_cell observer cell) ≡ sees observer cell
sees-hidden observer cell = ap (λ (l : Option Label). option_map_or (λ label. flows label observer) l false) (label_of_cell-hidden observer cell.state cell.task)

pub label_of-received : (state : State) (text : List ℕ) → label_of (received state text) ≡ label_of state
label_of-received Absent text = refl
label_of-received state text = refl

pub label_of-written : (state : State) (value : Value) → label_of (written state value) ≡ label_of state
label_of-written Absent value = refl
label_of-written state value = refl

pub label_of-filled : (state : State) (value : Option Value) → label_of (filled state value) ≡ label_of state
label_of-filled Absent value = refl
label_of-filled state value = refl

pub label_of-ended : (state : State) (content : Content) → label_of (ended state content) ≡ label_of state
label_of-ended Absent content = refl
label_of-ended state content = refl
