-- A turn leaves only calls that fit.
use Rattle.std.proofs.Common.{◌≡◌, sym, subst, ℕ, Bool, true, false, if◌then◌else◌, List, [], Option, Some, None}
use Rattle.std.specs.Prelude.{slice_get}
use Rattle.std.proofs.lemmas.List.Elements.{All-nil}
use Rattle.lio_labels.specs.declared.label.Label.{Label}
use Rattle.lio_values.specs.declared.act.Act.{Act}
use Rattle.lio_values.specs.declared.act.Act.TheVariants as act
use Rattle.lio_values.specs.declared.act.Birth.{Birth}
use Rattle.lio_syntax.specs.Statements.{Procedure}
use Rattle.lio_calculus.specs.Task.{TaskState}
use Rattle.lio_calculus.specs.Plan.{Program, Plan, Over, Own, Visit, Target, plan}
use Rattle.lio_calculus.specs.Step.{Cell, Configuration, cell_at, with_cell, number_of, is_met, body_of, child_of, born, task_after, met_after, Move, move_of, actor_after, target_after, after, Turn}
use Rattle.lio_calculus.proofs.TurnParts.{parts, own-moves, visit-moves, over-moves}
use Rattle.lio_calculus.proofs.LocalityLemmas.{step_changes_two_cells}
use Rattle.lio_calculus_runs.proofs.AfterLemmas.{Changed, Here, Elsewhere, changed}
use Rattle.lio_calculus_runs.specs.Calls.{ScriptFits}
use Rattle.lio_calculus_runs.specs.WellFormedLaws.{TurnKeepsCalls}
use Rattle.lio_calculus_runs.proofs.PlanCalls.{OnwardFits, PlanFits, body-fits, plan-fits}
use Rattle.lio_calculus_runs.proofs.TaskCalls.{ItemsFit, enter-fits, gone_on-fits}

-- each call of a cell's task, if it has one, fits
abbrev CellFits : List Procedure → Cell → Type 0
CellFits script cell = (task : TaskState) → cell.task ≡ Some task → ItemsFit script task.items

-- another cell
with_cell-fits : (script : List Procedure) (c : Configuration) (n : ℕ) (cell : Cell) → ((m : ℕ) → CellFits script (cell_at c m)) → CellFits script cell → (m : ℕ) → CellFits script (cell_at (with_cell c n cell) m)
with_cell-fits script c n cell each fits m = by (changed c n cell m)
  where
    by : Changed c n cell m → CellFits script (cell_at (with_cell c n cell) m)
    by (Here e h) = subst (CellFits script) (sym h) fits
    by (Elsewhere h) = subst (CellFits script) (sym h) (each m)

-- a child
child-fits : (program : Program) (label : Label) (birth : Birth) → ScriptFits program.procedures → ItemsFit program.procedures (child_of program label birth).items
unfolding child_of
child-fits program label birth all = enter-fits program.procedures (body_of (slice_get program.procedures birth.proc_at)) [] (body-fits program.procedures birth.proc_at all) (All-nil _)

born-fits : (program : Program) (label : Label) (asked : Act) (task : TaskState) → ScriptFits program.procedures → born program label asked ≡ Some task → ItemsFit program.procedures task.items
born-fits program label (act.Fork birth) task all e =
    let is : child_of program label birth ≡ task = cc in subst (λ (t : TaskState). ItemsFit program.procedures t.items) is (child-fits program label birth all)
born-fits program label (act.Spawn birth) task all e =
    let is : child_of program label birth ≡ task = cc in subst (λ (t : TaskState). ItemsFit program.procedures t.items) is (child-fits program label birth all)
born-fits program label asked task all e = absurd (cc)

met-fits : (program : Program) (label : Label) (asked : Act) (cell : Cell) → ScriptFits program.procedures → CellFits program.procedures cell → CellFits program.procedures (met_after program label asked cell)
met-fits program label asked cell all fits = by cell.task fits
  where
    by : (t : Option TaskState) → ((task : TaskState) → t ≡ Some task → ItemsFit program.procedures task.items) → (task : TaskState) → task_after t (born program label asked) ≡ Some task → ItemsFit program.procedures task.items
    by None before task e = born-fits program label asked task all e
    by (Some old) before task e = before task e

target-fits : (c : Configuration) (label : Label) (asked : Act) (target : Option Target) → ScriptFits c.program.procedures → ((n : ℕ) → CellFits c.program.procedures (cell_at c n))
    → (n : ℕ) → CellFits c.program.procedures (cell_at (target_after c label asked target) n)
target-fits c label asked None all each n = each n
target-fits c label asked (Some target) all each n = by (is_met target (cell_at c (number_of target)).state)
  where
    cell : Cell
    cell = met_after c.program label asked (cell_at c (number_of target))

    by : (b : Bool) → CellFits c.program.procedures (cell_at (if b then with_cell c (number_of target) cell else c) n)
    by true = with_cell-fits c.program.procedures c (number_of target) cell each (met-fits c.program label asked (cell_at c (number_of target)) all (each (number_of target))) n
    by false = each n

-- a move
move-fits : (c : Configuration) (script : List Procedure) (p : Plan) (move : Move) → PlanFits script p → move_of (cell_at c) p ≡ Some move → OnwardFits script move.onward
move-fits c script Over move fits moves = absurd (over-moves c move moves)
move-fits c script (Own asked reply onward) move fits moves = subst (λ (m : Move). OnwardFits script m.onward) (own-moves c asked reply onward move moves) fits
move-fits c script (Visit asked target onward) move fits moves = subst (λ (m : Move). OnwardFits script m.onward) (visit-moves c asked target onward move moves) fits

after-fits : (c : Configuration) (k : ℕ) (task : TaskState) (move : Move) → ScriptFits c.program.procedures → ((n : ℕ) → CellFits c.program.procedures (cell_at c n)) → ItemsFit c.program.procedures task.items
    → OnwardFits c.program.procedures move.onward → (n : ℕ) → CellFits c.program.procedures (cell_at (after c k task move) n)
after-fits c k task move all each items onward =
    let between : Configuration = target_after c task.label move.act move.target in
    with_cell-fits c.program.procedures between k (actor_after task move (cell_at between k)) (target-fits c task.label move.act move.target all each)
    (λ x e. some (gone_on-fits c.program.procedures task move.onward move.act move.reply items onward) x e)
  where
    some : {y : TaskState} → ItemsFit c.program.procedures y.items → (x : TaskState) → Some y ≡ Some x → ItemsFit c.program.procedures x.items
    some {y} fits x e = let is : y ≡ x = cc in subst (λ (t : TaskState). ItemsFit c.program.procedures t.items) is fits

pub turn_keeps_calls : TurnKeepsCalls
turn_keeps_calls ticket c k turn fit steps =
    let p = parts ticket c k turn steps in
    let onward : OnwardFits c.program.procedures p.move.onward = move-fits c c.program.procedures (plan c.program p.task) p.move (plan-fits c.program p.task fit.program (fit.items k p.task p.is)) p.moves in
    let cells : (n : ℕ) → CellFits c.program.procedures (cell_at turn.next n) =
    subst (λ (t : Turn). (n : ℕ) → CellFits c.program.procedures (cell_at t.next n)) p.made (after-fits c k p.task p.move fit.program fit.items (fit.items k p.task p.is) onward) in
    let stays : turn.next.program ≡ c.program = (step_changes_two_cells ticket c k turn steps).program in
    record {
      items = λ n task is. subst (λ (program : Program). ItemsFit program.procedures task.items) (sym stays) (cells n task is);
      program = subst (λ (program : Program). ScriptFits program.procedures) (sym stays) fit.program;
    }
