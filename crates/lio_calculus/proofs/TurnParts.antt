-- The parts of a turn: the task that takes it, its move, and the turn that they make.
use Rattle.std.proofs.Common.{◌≡◌, ◌∙◌, refl, sym, ap, ℕ, ◌&&◌, not, Option, Some, None}
use Rattle.std.specs.Prelude.{option_and_then, option_map}
use Rattle.lio_values.specs.declared.act.Act.{Act}
use Rattle.lio_values.specs.declared.act.Reply.{Reply}
use Rattle.lio_calculus.specs.Task.{TaskState}
use Rattle.lio_calculus.specs.Going.{Onward}
use Rattle.lio_calculus.specs.Plan.{Over, Own, Visit, Target, plan}
use Rattle.lio_cells.specs.State.{ready, answer}
use Rattle.lio_calculus.specs.Step.{Configuration, cell_at, number_of, met, waits, Move, move_of, after, Turn, entry_of, turn_of, step}
use Rattle.lio_calculus.specs.Sound.{IsTaskOf}
use Rattle.lio_calculus.proofs.InvisibleLemmas.{visit-move}

-- the turn of a move
abbrev pub made_of : ℕ → Configuration → ℕ → TaskState → Move → Turn
made_of ticket c k task move = record { entry = entry_of ticket k task move; next = after c k task move }

pub record Parts (ticket : ℕ) (c : Configuration) (k : ℕ) (turn : Turn) : Type 0 where
  pub task : TaskState
  pub is : IsTaskOf c k task
  pub move : Move
  pub moves : move_of (cell_at c) (plan c.program task) ≡ Some move
  pub made : made_of ticket c k task move ≡ turn

pub parts : (ticket : ℕ) (c : Configuration) (k : ℕ) (turn : Turn) → step ticket c k ≡ Some turn → Parts ticket c k turn
unfolding step
parts ticket c k turn steps = by (cell_at c k).task refl
  where
    moved : (task : TaskState) → IsTaskOf c k task → (m : Option Move) → move_of (cell_at c) (plan c.program task) ≡ m → option_map (made_of ticket c k task) m ≡ Some turn → Parts ticket c k turn
    moved task is None moves e = absurd (cc)
    moved task is (Some move) moves e = record { task = task; is = is; move = move; moves = moves; made = cc }

    by : (t : Option TaskState) → (cell_at c k).task ≡ t → Parts ticket c k turn
    by None is = let none : None ≡ Some turn = sym (ap (λ (t : Option TaskState). option_and_then (turn_of ticket c k) t) is) ∙ steps in absurd (cc)
    by (Some task) is =
        let got : turn_of ticket c k task ≡ Some turn = sym (ap (λ (t : Option TaskState). option_and_then (turn_of ticket c k) t) is) ∙ steps in
        moved task is (move_of (cell_at c) (plan c.program task)) refl (ap (option_map (made_of ticket c k task)) refl ∙ got)

-- the move of a plan: an act of the task's own, or a visit
abbrev pub own_move : Act → Reply → Onward → Move
own_move asked reply onward = record { act = asked; target = None; reply = reply; onward = onward }

abbrev pub visit_move : Configuration → Act → Target → Onward → Move
visit_move c asked target onward = record { act = asked; target = Some target; reply = answer (met target (cell_at c (number_of target)).state) asked; onward = onward }

pub own-moves : (c : Configuration) (asked : Act) (reply : Reply) (onward : Onward) (move : Move) → move_of (cell_at c) (Own asked reply onward) ≡ Some move → own_move asked reply onward ≡ move
own-moves c asked reply onward move moves = cc

pub visit-moves : (c : Configuration) (asked : Act) (target : Target) (onward : Onward) (move : Move) → move_of (cell_at c) (Visit asked target onward) ≡ Some move → visit_move c asked target onward ≡ move
visit-moves c asked target onward move moves =
    visit-move asked target onward (waits asked && not (ready (met target (cell_at c (number_of target)).state) asked)) (visit_move c asked target onward) move moves

pub over-moves : (c : Configuration) (move : Move) → move_of (cell_at c) Over ≡ Some move → ⊥
over-moves c move moves = cc
