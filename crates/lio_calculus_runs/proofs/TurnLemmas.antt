-- What a step is made of, and that its ticket stands in its entry alone.
use Rattle.std.proofs.Common.{◌≡◌, ◌∙◌, refl, sym, ap, subst, ℕ, Option, Some, None}
use Rattle.std.specs.Prelude.{option_and_then, option_map}
use Rattle.lio_calculus.specs.Task.{TaskState}
use Rattle.lio_calculus.specs.Plan.{plan}
use Rattle.lio_calculus.specs.Step.{Configuration, cell_at, Move, move_of, entry_of, after, Turn, turn_of, step}
use Rattle.lio_calculus.specs.Sound.{IsTaskOf}
use Rattle.lio_calculus_runs.specs.RoundLaws.{TicketStandsInTheEntry}

abbrev made : ℕ → Configuration → ℕ → TaskState → Move → Turn
made ticket c k task move = record { entry = entry_of ticket k task move; next = after c k task move }

-- the parts of a step: its task, and the task's move
pub record Parts (ticket : ℕ) (c : Configuration) (k : ℕ) (turn : Turn) : Type 0 where
  pub task : TaskState
  pub is_task : IsTaskOf c k task
  pub move : Move
  pub moves : move_of (cell_at c) (plan c.program task) ≡ Some move
  pub is_turn : record { entry = entry_of ticket k task move; next = after c k task move } ≡ turn

by_move : (ticket : ℕ) (c : Configuration) (k : ℕ) (turn : Turn) (task : TaskState) (move : Option Move) → IsTaskOf c k task → move_of (cell_at c) (plan c.program task) ≡ move
    → option_map (made ticket c k task) move ≡ Some turn → Parts ticket c k turn
by_move ticket c k turn task None is moves steps = absurd (cc)
by_move ticket c k turn task (Some move) is moves steps =
    let same : made ticket c k task move ≡ turn = cc in
    record { task = task; is_task = is; move = move; moves = moves; is_turn = same }

by_task : (ticket : ℕ) (c : Configuration) (k : ℕ) (turn : Turn) (task : Option TaskState) → (cell_at c k).task ≡ task → option_and_then (turn_of ticket c k) task ≡ Some turn → Parts ticket c k turn
by_task ticket c k turn None is steps = absurd (cc)
by_task ticket c k turn (Some task) is steps = by_move ticket c k turn task (move_of (cell_at c) (plan c.program task)) is refl steps

-- every step has its parts
pub parts : (ticket : ℕ) (c : Configuration) (k : ℕ) (turn : Turn) → step ticket c k ≡ Some turn → Parts ticket c k turn
unfolding step
parts ticket c k turn steps = by_task ticket c k turn (cell_at c k).task refl steps

-- and a task with a move takes a step
step-made : (ticket : ℕ) (c : Configuration) (k : ℕ) (task : TaskState) (move : Move) → IsTaskOf c k task → move_of (cell_at c) (plan c.program task) ≡ Some move → step ticket c k ≡ Some (made ticket c k task move)
unfolding step
step-made ticket c k task move is moves =
    ap (λ (t : Option TaskState). option_and_then (turn_of ticket c k) t) is ∙ ap (λ (m : Option Move). option_map (made ticket c k task) m) moves

-- a turn with another ticket
abbrev pub with_ticket : ℕ → Turn → Turn
with_ticket ticket turn = record { entry = record turn.entry { ticket = ticket }; next = turn.next }

-- a step with a ticket is a step with every other, which stands in the entry alone
pub step-ticket : (one two : ℕ) (c : Configuration) (k : ℕ) (turn : Turn) → step one c k ≡ Some turn → step two c k ≡ Some (with_ticket two turn)
step-ticket one two c k turn steps =
    let p = parts one c k turn steps in
    subst (λ (t : Turn). step two c k ≡ Some (with_ticket two t)) p.is_turn (step-made two c k p.task p.move p.is_task p.moves)

pub ticket_stands_in_the_entry : TicketStandsInTheEntry
ticket_stands_in_the_entry = step-ticket

-- so whether a task can take a turn doesn't depend on the ticket
pub step-none : (one two : ℕ) (c : Configuration) (k : ℕ) → step one c k ≡ None → step two c k ≡ None
step-none one two c k stays = by (step two c k) refl
  where
    by : (t : Option Turn) → step two c k ≡ t → step two c k ≡ None
    by None e = e
    by (Some turn) e = let none : None ≡ Some (with_ticket one turn) = sym stays ∙ step-ticket two one c k turn e in absurd (cc)

-- what has no task takes no turn
pub step-no-task : (ticket : ℕ) (c : Configuration) (k : ℕ) → (cell_at c k).task ≡ None → step ticket c k ≡ None
unfolding step
step-no-task ticket c k none = ap (λ (t : Option TaskState). option_and_then (turn_of ticket c k) t) none
