-- Cells of a configuration that is as an observer sees it.
use Rattle.std.proofs.Common.{◌≡◌, ◌∙◌, refl, sym, ap, ℕ, Bool, true, false, if◌then◌else◌, List, Option, Some, None}
use Rattle.std.specs.Option.{option_map_or}
use Rattle.std.proofs.lemmas.List.{map-set}
use Rattle.lio_labels.specs.declared.label.Label.{Label}
use Rattle.lio_labels.specs.Flow.{flows}
use Rattle.lio_values.specs.declared.act.Act.{Act}
use Rattle.lio_values.specs.Erasure.{erase_act}
use Rattle.lio_cells.specs.declared.state.State.{State}
use Rattle.lio_cells.specs.State.{Kind, label_of, state_after}
use Rattle.lio_calculus.specs.Task.{TaskState}
use Rattle.lio_calculus.specs.Plan.{Program}
use Rattle.lio_calculus.specs.Hiding.{hide_task}
use Rattle.lio_calculus.specs.Step.{Cell, Configuration, blank, cell_at, with_cell, born, met_after, task_after}
use Rattle.lio_calculus.specs.Erased.{erase, erase_cell, hide_cell, hide_state, sees}
use Rattle.lio_calculus.specs.Afforded.{kind_met, makes}
use Rattle.lio_calculus.proofs.CellLemmas.{met_after-hidden, sees-hidden}
use Rattle.lio_calculus.proofs.ConfigLemmas.{cell_at-erased}
use Rattle.lio_calculus.proofs.InvisibleLemmas.{erase_cell-seen, erase_cell-unseen}
use Rattle.lio_erasure.specs.Low.{job_with, seen_cell, seen_task}
use Rattle.lio_erasure.proofs.ActLemmas.{made-asked, met-label, met-unborn, state_after-erased}

-- a configuration with another cell, as the observer sees it
pub erase-with_cell : (observer : Label) (c : Configuration) (k : ℕ) (cell : Cell) → erase observer (with_cell c k cell) ≡ with_cell (erase observer c) k (erase_cell observer cell)
erase-with_cell observer c k cell = ap (λ (cells : List Cell). record c { cells = cells }) (map-set (erase_cell observer) c.cells k cell)

-- each cell is as the observer sees it
pub cell-erased : (observer : Label) (c : Configuration) (n : ℕ) → erase observer c ≡ c → erase_cell observer (cell_at c n) ≡ cell_at c n
cell-erased observer c n erased = sym (cell_at-erased observer c n) ∙ ap (λ (d : Configuration). cell_at d n) erased

-- a cell that is seen so has its values hidden; one in which something is is seen
pub seen-hidden : (observer : Label) (cell : Cell) → erase_cell observer cell ≡ cell → sees observer cell ≡ true → hide_cell observer cell ≡ cell
seen-hidden observer cell erased seen = sym (erase_cell-seen observer cell seen) ∙ erased

pub there-seen : (observer : Label) (cell : Cell) → erase_cell observer cell ≡ cell → (cell ≡ blank → ⊥) → sees observer cell ≡ true
there-seen observer cell erased there = by (sees observer cell) refl
  where
    by : (b : Bool) → sees observer cell ≡ b → sees observer cell ≡ true
    by true e = e
    by false e = absurd (there (sym erased ∙ erase_cell-unseen observer cell e))

pub task-there : (cell : Cell) (task : TaskState) → cell.task ≡ Some task → cell ≡ blank → ⊥
task-there cell task is empty = let none : Some task ≡ None = sym is ∙ ap (λ (x : Cell). x.task) empty in cc

pub task-hidden : (observer : Label) (cell : Cell) (task : TaskState) → erase_cell observer cell ≡ cell → cell.task ≡ Some task → hide_cell observer cell ≡ cell
task-hidden observer cell task erased is = seen-hidden observer cell erased (there-seen observer cell erased (task-there cell task is))

-- a job after its task's turn, as the observer sees it
pub job-erased : (observer : Label) (state low : State) (task : TaskState) → low ≡ hide_state observer state → erase_cell observer (record { state = state; task = Some task }) ≡ job_with low (seen_task observer task)
job-erased observer state low task hidden = by (flows task.label observer) refl
  where
    cell : Cell
    cell = record { state = state; task = Some task }

    seen : Option TaskState → Cell
    seen t = job_with low t

    by : (b : Bool) → flows task.label observer ≡ b → erase_cell observer cell ≡ job_with low (if flows task.label observer then Some (hide_task observer task) else None)
    by true e =
        erase_cell-seen observer cell e ∙ ap (λ (s : State). record { state = s; task = Some (hide_task observer task) }) (sym hidden)
        ∙ sym (ap (λ (b : Bool). seen (if b then Some (hide_task observer task) else None)) e)
    by false e =
        erase_cell-unseen observer cell e ∙ sym (ap (λ (b : Bool). seen (if b then Some (hide_task observer task) else None)) e)

-- a node that an act meets by a handle, after it, as the observer sees it
pub met-erased : (observer : Label) (kind : Kind) (program : Program) (label : Label) (asked : Act) (cell : Cell) → erase_cell observer cell ≡ cell → (cell ≡ blank → ⊥) → kind_met asked ≡ Some kind
    → erase_cell observer (met_after program label asked cell) ≡ record { state = state_after cell.state (erase_act observer asked); task = cell.task }
met-erased observer kind program label asked cell erased there meets =
    let was_seen : sees observer cell ≡ true = there-seen observer cell erased there in
    let hidden : hide_cell observer cell ≡ cell = seen-hidden observer cell erased was_seen in
    let same : met_after program label asked cell ≡ after = ap (λ (t : Option TaskState). record { state = state_after cell.state asked; task = t }) (tasks cell.task) in
    let seen : sees observer after ≡ true = labels cell.task ∙ was_seen in
    ap (erase_cell observer) same ∙ erase_cell-seen observer after seen
    ∙ (λ i. record { state = sym (state_after-erased observer cell.state asked (ap (λ (x : Cell). x.state) hidden)) i; task = ap (λ (x : Cell). x.task) hidden i })
  where
    after : Cell
    after = record { state = state_after cell.state asked; task = cell.task }

    kept : (t : Option TaskState) → task_after t None ≡ t
    kept None = refl
    kept (Some task) = refl

    tasks : (t : Option TaskState) → task_after t (born program label asked) ≡ t
    tasks t = ap (task_after t) (met-unborn kind program label asked meets) ∙ kept t

    labels : (t : Option TaskState) → option_map_or (λ l. flows l observer) (option_map_or (λ (task : TaskState). Some task.label) t (label_of (state_after cell.state asked))) false
        ≡ option_map_or (λ l. flows l observer) (option_map_or (λ (task : TaskState). Some task.label) t (label_of cell.state)) false
    labels t = ap (λ (l : Option Label). option_map_or (λ x. flows x observer) (option_map_or (λ (task : TaskState). Some task.label) t l) false) (met-label kind cell.state asked meets)

-- a new node, as the observer sees it
pub made-erased : (observer : Label) (program : Program) (label : Label) (asked : Act) → makes asked ≡ true
    → seen_cell observer (met_after program label (erase_act observer asked) blank) ≡ erase_cell observer (met_after program label asked blank)
made-erased observer program label asked makes_node =
    ap (seen_cell observer) is_hidden ∙ ap (λ (b : Bool). if b then hide_cell observer new else blank) (sees-hidden observer new) ∙ by (sees observer new) refl
  where
    new : Cell
    new = met_after program label asked blank

    is_hidden : met_after program label (erase_act observer asked) blank ≡ hide_cell observer new
    is_hidden = ap (λ (a : Act). met_after program label a blank) (made-asked observer asked makes_node) ∙ met_after-hidden observer program label asked blank

    by : (b : Bool) → sees observer new ≡ b → (if sees observer new then hide_cell observer new else blank) ≡ erase_cell observer new
    by true e = ap (λ (b : Bool). if b then hide_cell observer new else blank) e ∙ sym (erase_cell-seen observer new e)
    by false e = ap (λ (b : Bool). if b then hide_cell observer new else blank) e ∙ sym (erase_cell-unseen observer new e)
