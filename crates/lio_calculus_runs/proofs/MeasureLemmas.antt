-- Each turn lowers the measure.
use Rattle.std.proofs.Common.{◌≡◌, refl, ap, subst, ℕ, ◌+◌, ◌-◌, ◌*◌, ◌<◌, ◌≤◌, ◌==◌, ◌⊎◌, inl, inr, Bool, true, false, ◌&&◌, not, if◌then◌else◌, List, length, Option, Some, None, arith}
use Rattle.std.proofs.lemmas.List.{set_past}
use Rattle.std.proofs.lemmas.List.Sums.{sum_by-set}
use Rattle.std.proofs.lemmas.Bool.Decides.{nat_tests}
use Rattle.lio_labels.specs.declared.label.Label.{Label}
use Rattle.lio_values.specs.declared.fault.FaultKind.TheVariants.{NoTurns}
use Rattle.lio_values.specs.declared.value.Content.TheVariants.{Faulted}
use Rattle.lio_values.specs.declared.act.Act.{Act}
use Rattle.lio_values.specs.declared.act.Act.TheVariants as act
use Rattle.lio_values.specs.declared.act.Reply.{Reply}
use Rattle.lio_values.specs.declared.act.Reply.TheVariants.{Done}
use Rattle.lio_cells.specs.State.{ready, answer}
use Rattle.lio_syntax.specs.Items.{rest_of}
use Rattle.lio_calculus.specs.Task.{TaskState}
use Rattle.lio_calculus.specs.Going.{Onward, End, gone_on}
use Rattle.lio_calculus.specs.Plan.{Program, Plan, Over, Own, Visit, Target, fault_at, ending, plan_items, plan}
use Rattle.lio_calculus.specs.Step.{Cell, Configuration, blank, cell_at, with_cell, number_of, is_met, met, waits, child_of, born, task_after, met_after, Move, move_of, actor_after, target_after, after, Turn}
use Rattle.lio_calculus.specs.Sound.{IsTaskOf}
use Rattle.lio_calculus.proofs.InvisibleLemmas.{visit-move}
use Rattle.lio_calculus_runs.specs.Rounds.{weight, measure}
use Rattle.lio_calculus_runs.specs.RoundLaws.{TurnLowersMeasure}
use Rattle.lio_calculus_runs.proofs.TurnLemmas.{parts}
use Rattle.lio_calculus.proofs.PlanCases.{items-case}
use Rattle.lio_calculus_runs.proofs.TurnsLeft.{handed, begun, gone-turns, Affords, items-afford}
use Rattle.lio_calculus_runs.proofs.AfterLemmas.{lt_or, task-inside, task-met}

-- another cell in the list
measure-with_cell : (c : Configuration) (n : ℕ) (cell : Cell) → n < length c.cells → measure (with_cell c n cell) + weight (cell_at c n).task ≡ measure c + weight cell.task
measure-with_cell c n cell within = sum_by-set (λ (x : Cell). weight x.task) c.cells n cell blank within

-- what an act's target weighs more after it
abbrev pub newborn : Program → Label → Act → Option Target → ℕ
newborn program label asked None = 0
newborn program label asked (Some target) = weight (born program label asked)

weight-task_after : (task child : Option TaskState) → weight (task_after task child) ≤ weight task + weight child
weight-task_after None child = omega arith
weight-task_after (Some task) child = omega arith

measure-met : (c : Configuration) (label : Label) (asked : Act) (target : Option Target) → measure (target_after c label asked target) ≤ measure c + newborn c.program label asked target
measure-met c label asked None = omega arith
measure-met c label asked (Some target) = by (is_met target (cell_at c (number_of target)).state)
  where
    cell : Cell
    cell = met_after c.program label asked (cell_at c (number_of target))

    placed : (number_of target < length c.cells) ⊎ (length c.cells ≤ number_of target) → measure (with_cell c (number_of target) cell) ≤ measure c + weight (born c.program label asked)
    placed (inl p) = omega (arith, measure-with_cell c (number_of target) cell p, weight-task_after (cell_at c (number_of target)).task (born c.program label asked))
    placed (inr p) =
        let same : measure (with_cell c (number_of target) cell) ≡ measure c = ap (λ (cells : List Cell). measure (record c { cells = cells })) (set_past c.cells (number_of target) cell p) in
        omega (arith, same)

    by : (b : Bool) → measure (if b then with_cell c (number_of target) cell else c) ≤ measure c + weight (born c.program label asked)
    by true = placed (lt_or (number_of target) (length c.cells))
    by false = omega arith

-- a turn, by what the actor weighs after it
pub measure-after : (c : Configuration) (k : ℕ) (task : TaskState) (move : Move) → IsTaskOf c k task
    → measure (after c k task move) + weight (Some task) ≤ measure c + newborn c.program task.label move.act move.target + weight (Some (gone_on task move.onward move.act move.reply))
measure-after c k task move is =
    let between : Configuration = target_after c task.label move.act move.target in
    let there : IsTaskOf between k task = task-met c k task task.label move.act move.target is in
    let weighs : weight (cell_at between k).task ≡ weight (Some task) = ap weight there in
    let sums = measure-with_cell between k (actor_after task move (cell_at between k)) (task-inside between k task there) in
    let grows = measure-met c task.label move.act move.target in
    omega (arith, weighs, sums, grows)

-- a task weighs at most so much
weight-turns : (task : TaskState) → weight (Some task) ≤ 2 * task.turns + 1
weight-turns task = by task.ended
  where
    by : (b : Bool) → 2 * task.turns + (if b then 0 else 1) ≤ 2 * task.turns + 1
    by true = omega arith
    by false = omega arith

weight-born : (program : Program) (label : Label) (asked : Act) → weight (born program label asked) ≤ 2 * begun asked + 1
unfolding child_of
weight-born program label (act.Fork birth) = omega arith
weight-born program label (act.Spawn birth) = omega arith
weight-born program label asked = omega arith

-- a task that goes on has at most so many turns left
gone_on-turns : (task : TaskState) (onward : Onward) (asked : Act) (reply : Reply) → (gone_on task onward asked reply).turns ≡ task.turns - 1 - handed onward
unfolding gone_on
gone_on-turns task onward asked reply = gone-turns (record task { items = rest_of task.items; turns = task.turns - 1 }) onward asked reply

weight-gone_on : (task : TaskState) (onward : Onward) (asked : Act) (reply : Reply) → weight (Some (gone_on task onward asked reply)) ≤ 2 * (task.turns - 1 - handed onward) + 1
weight-gone_on task onward asked reply = omega (arith, weight-turns (gone_on task onward asked reply), gone_on-turns task onward asked reply)

-- what a move adds and what it takes
abbrev pub Lowers : Configuration → TaskState → Move → Type 0
Lowers c task move = newborn c.program task.label move.act move.target + weight (Some (gone_on task move.onward move.act move.reply)) < weight (Some task)

-- a task that goes on and has turns
spending : (c : Configuration) (task : TaskState) (p : Plan) (move : Move) → task.ended ≡ false → 0 < task.turns → Affords task p → move_of (cell_at c) p ≡ Some move → Lowers c task move
spending c task Over move going some affords moves = absurd (cc)
spending c task (Own asked reply onward) move going some affords moves =
    let own : Move = record { act = asked; target = None; reply = reply; onward = onward } in
    let same : own ≡ move = cc in
    let weighs : weight (Some task) ≡ 2 * task.turns + 1 = ap (λ (b : Bool). 2 * task.turns + (if b then 0 else 1)) going in
    subst (Lowers c task) same (omega (arith, weighs, some, weight-gone_on task onward asked reply))
spending c task (Visit asked target onward) move going some affords moves =
    let s = (met target (cell_at c (number_of target)).state) in
    let own : Move = record { act = asked; target = Some target; reply = answer s asked; onward = onward } in
    let same : own ≡ move = visit-move asked target onward (waits asked && not (ready s asked)) own move moves in
    let weighs : weight (Some task) ≡ 2 * task.turns + 1 = ap (λ (b : Bool). 2 * task.turns + (if b then 0 else 1)) going in
    subst (Lowers c task) same (omega (arith, weighs, some, affords.0, affords.1, weight-gone_on task onward asked (answer s asked), weight-born c.program task.label asked))

-- a task that has none ends
ending-lowers : (c : Configuration) (task : TaskState) (move : Move) → task.ended ≡ false → move_of (cell_at c) (ending (Faulted (fault_at task NoTurns))) ≡ Some move → Lowers c task move
unfolding gone_on
ending-lowers c task move going moves =
    let own : Move = record { act = act.Ended (Faulted (fault_at task NoTurns)); target = None; reply = Done; onward = End } in
    let same : own ≡ move = cc in
    let weighs : weight (Some task) ≡ 2 * task.turns + 1 = ap (λ (b : Bool). 2 * task.turns + (if b then 0 else 1)) going in
    subst (Lowers c task) same (omega (arith, weighs))

pub move-lowers : (c : Configuration) (task : TaskState) (move : Move) → move_of (cell_at c) (plan c.program task) ≡ Some move → Lowers c task move
unfolding plan
move-lowers c task move moves = by task.ended (task.turns == 0) refl refl moves
  where
    by : (ended none : Bool) → task.ended ≡ ended → (task.turns == 0) ≡ none → move_of (cell_at c) (if ended then Over else (if none then ending (Faulted (fault_at task NoTurns)) else plan_items c.program task task.items)) ≡ Some move → Lowers c task move
    by true none e t m = absurd (cc)
    by false true e t m = ending-lowers c task move e m
    by false false e t m =
        let some : 0 < task.turns = grind (arith, nat_tests, t) in
        spending c task (plan_items c.program task task.items) move e some (items-afford task (items-case c.program task task.items)) m

pub turn_lowers_measure : TurnLowersMeasure
turn_lowers_measure ticket c k turn steps =
    let p = parts ticket c k turn steps in
    subst (λ (t : Turn). measure t.next < measure c) p.is_turn
    (omega (arith, measure-after c k p.task p.move p.is_task, move-lowers c p.task p.move p.moves))
