-- No turn adds to the turns that are left.
use Rattle.std.proofs.Common.{◌≡◌, ap, subst, ℕ, ◌+◌, ◌-◌, ◌<◌, ◌≤◌, ◌⊎◌, inl, inr, Bool, true, false, if◌then◌else◌, List, length, Option, Some, None, arith}
use Rattle.std.proofs.lemmas.List.{set_past}
use Rattle.std.proofs.lemmas.List.Sums.{sum_by-set}
use Rattle.lio_labels.specs.declared.label.Label.{Label}
use Rattle.lio_values.specs.declared.act.Act.{Act}
use Rattle.lio_values.specs.declared.act.Act.TheVariants as act
use Rattle.lio_values.specs.declared.act.Reply.{Reply}
use Rattle.lio_syntax.specs.Items.{rest_of}
use Rattle.lio_calculus.specs.Task.{TaskState}
use Rattle.lio_calculus.specs.Going.{Onward, gone_on}
use Rattle.lio_calculus.specs.Plan.{Program, Plan, Over, Own, Visit, Target, plan}
use Rattle.lio_calculus.specs.Step.{Cell, Configuration, blank, cell_at, with_cell, number_of, is_met, child_of, born, task_after, met_after, Move, move_of, actor_after, target_after, after, Turn}
use Rattle.lio_calculus.specs.Sound.{IsTaskOf}
use Rattle.lio_calculus.proofs.TurnParts.{parts, own-moves, visit-moves, over-moves}
use Rattle.lio_calculus_runs.proofs.TurnsLeft.{handed, begun, gone-turns, Affords, plan-affords}
use Rattle.lio_calculus_runs.proofs.AfterLemmas.{lt_or, task-inside, task-met}
use Rattle.lio_calculus_runs.specs.Turns.{turns_of, turns_left}
use Rattle.lio_calculus_runs.specs.WellFormedLaws.{TurnAddsNoTurns}

-- another cell in the list
turns-with_cell : (c : Configuration) (n : ℕ) (cell : Cell) → n < length c.cells → turns_left (with_cell c n cell) + turns_of (cell_at c n).task ≡ turns_left c + turns_of cell.task
turns-with_cell c n cell within = sum_by-set (λ (x : Cell). turns_of x.task) c.cells n cell blank within

turns-task_after : (task child : Option TaskState) → turns_of (task_after task child) ≤ turns_of task + turns_of child
turns-task_after None child = omega arith
turns-task_after (Some task) child = omega arith

-- a child has the turns with which it is born
turns-born : (program : Program) (label : Label) (asked : Act) → turns_of (born program label asked) ≡ begun asked
unfolding child_of
turns-born program label (act.Fork birth) = omega arith
turns-born program label (act.Spawn birth) = omega arith
turns-born program label asked = omega arith

-- the turns with which a turn's child is born, if it has a target
abbrev newborn : Act → Option Target → ℕ
newborn asked None = 0
newborn asked (Some target) = begun asked

-- a target has met an act
turns-met : (c : Configuration) (label : Label) (asked : Act) (target : Option Target) → turns_left (target_after c label asked target) ≤ turns_left c + newborn asked target
turns-met c label asked None = omega arith
turns-met c label asked (Some target) = by (is_met target (cell_at c (number_of target)).state)
  where
    cell : Cell
    cell = met_after c.program label asked (cell_at c (number_of target))

    placed : (number_of target < length c.cells) ⊎ (length c.cells ≤ number_of target) → turns_left (with_cell c (number_of target) cell) ≤ turns_left c + begun asked
    placed (inl p) = omega (arith, turns-with_cell c (number_of target) cell p, turns-task_after (cell_at c (number_of target)).task (born c.program label asked), turns-born c.program label asked)
    placed (inr p) =
        let same : turns_left (with_cell c (number_of target) cell) ≡ turns_left c = ap (λ (cells : List Cell). turns_left (record c { cells = cells })) (set_past c.cells (number_of target) cell p) in
        omega (arith, same)

    by : (b : Bool) → turns_left (if b then with_cell c (number_of target) cell else c) ≤ turns_left c + begun asked
    by true = placed (lt_or (number_of target) (length c.cells))
    by false = omega arith

-- a task that goes on has spent one turn, and those that it hands to a child
turns-gone_on : (task : TaskState) (onward : Onward) (asked : Act) (reply : Reply) → (gone_on task onward asked reply).turns ≡ task.turns - 1 - handed onward
unfolding gone_on
turns-gone_on task onward asked reply = gone-turns (record task { items = rest_of task.items; turns = task.turns - 1 }) onward asked reply

-- a turn, by what is born and what the actor goes on with
turns-after : (c : Configuration) (k : ℕ) (task : TaskState) (move : Move) → IsTaskOf c k task
    → turns_left (after c k task move) + task.turns ≤ turns_left c + newborn move.act move.target + (task.turns - 1 - handed move.onward)
turns-after c k task move is =
    let between : Configuration = target_after c task.label move.act move.target in
    let there : IsTaskOf between k task = task-met c k task task.label move.act move.target is in
    let has : turns_of (cell_at between k).task ≡ task.turns = ap turns_of there in
    omega (
      arith,
      has,
      turns-with_cell between k (actor_after task move (cell_at between k)) (task-inside between k task there),
      turns-met c task.label move.act move.target,
      turns-gone_on task move.onward move.act move.reply,
    )

-- what is born has no more turns than the actor hands to it
abbrev Hands : TaskState → Move → Type 0
Hands task move = newborn move.act move.target + (task.turns - 1 - handed move.onward) ≤ task.turns

move-hands : (c : Configuration) (task : TaskState) (p : Plan) (move : Move) → Affords task p → move_of (cell_at c) p ≡ Some move → Hands task move
move-hands c task Over move affords moves = absurd (over-moves c move moves)
move-hands c task (Own asked reply onward) move affords moves = subst (Hands task) (own-moves c asked reply onward move moves) (omega arith)
move-hands c task (Visit asked target onward) move affords moves = subst (Hands task) (visit-moves c asked target onward move moves) (omega (arith, affords.0, affords.1))

pub turn_adds_no_turns : TurnAddsNoTurns
turn_adds_no_turns ticket c k turn steps =
    let p = parts ticket c k turn steps in
    subst (λ (t : Turn). turns_left t.next ≤ turns_left c) p.made (omega (arith, turns-after c k p.task p.move p.is, move-hands c p.task (plan c.program p.task) p.move (plan-affords c.program p.task) p.moves))
