-- What a turn of the erased calculus is made of, and that its ticket stands in its entry alone.
use Rattle.std.proofs.Common.{◌≡◌, ◌∙◌, refl, sym, ap, subst, ℕ, List, Option, Some, None}
use Rattle.std.specs.Prelude.{option_and_then, option_map}
use Rattle.lio_labels.specs.declared.label.Label.{Label}
use Rattle.lio_values.specs.declared.value.Content.{Content}
use Rattle.lio_values.specs.declared.act.Act.{Act}
use Rattle.lio_values.specs.declared.act.Act.TheVariants as act
use Rattle.lio_values.specs.declared.entry.Entry.{Entry}
use Rattle.lio_values.specs.Erasure.{erase_act, erase_entry}
use Rattle.lio_calculus.specs.Task.{TaskState}
use Rattle.lio_calculus.specs.Plan.{plan}
use Rattle.lio_calculus.specs.Step.{Configuration, cell_at, Move, move_of}
use Rattle.lio_calculus.specs.Erased.{LowTurn, Opened, opened, low_with, low_turn, low}
use Rattle.lio_calculus.specs.Sound.{IsTaskOf}
use Rattle.lio_calculus_runs.specs.Round.{born_at, born_in}
use Rattle.lio_calculus_runs.specs.LowLaws.{LowTicketStandsInTheEntry}

-- the parts of an erased step: its task, the task's move, and the act with what it opened
pub record LowParts (observer : Label) (ticket : ℕ) (c : Configuration) (k : ℕ) (contents : List Content) (turn : LowTurn) : Type 0 where
  pub task : TaskState
  pub is_task : IsTaskOf c k task
  pub move : Move
  pub moves : move_of (cell_at c) (plan c.program task) ≡ Some move
  pub o : Opened
  pub opens : opened observer move.act move.reply contents ≡ Some o
  pub is_turn : low_with observer ticket c k task move o ≡ turn

-- every erased step has its parts
pub low-parts : (observer : Label) (ticket : ℕ) (c : Configuration) (k : ℕ) (contents : List Content) (turn : LowTurn) → low observer ticket c k contents ≡ Some turn → LowParts observer ticket c k contents turn
unfolding low
low-parts observer ticket c k contents turn takes = by (cell_at c k).task refl takes
  where
    opening : (task : TaskState) (move : Move) (m : Option Opened) → IsTaskOf c k task → move_of (cell_at c) (plan c.program task) ≡ Some move → opened observer move.act move.reply contents ≡ m
        → option_map (low_with observer ticket c k task move) m ≡ Some turn → LowParts observer ticket c k contents turn
    opening task move None is moves opens takes = absurd (cc)
    opening task move (Some o) is moves opens takes = record { task = task; is_task = is; move = move; moves = moves; o = o; opens = opens; is_turn = cc }

    moving : (task : TaskState) (m : Option Move) → IsTaskOf c k task → move_of (cell_at c) (plan c.program task) ≡ m
        → option_and_then (λ move. option_map (low_with observer ticket c k task move) (opened observer move.act move.reply contents)) m ≡ Some turn → LowParts observer ticket c k contents turn
    moving task None is moves takes = absurd (cc)
    moving task (Some move) is moves takes = opening task move (opened observer move.act move.reply contents) is moves refl takes

    by : (t : Option TaskState) → (cell_at c k).task ≡ t → option_and_then (low_turn observer ticket c k contents) t ≡ Some turn → LowParts observer ticket c k contents turn
    by None is takes = absurd (cc)
    by (Some task) is takes = moving task (move_of (cell_at c) (plan c.program task)) is refl takes

-- and a task with a move whose content can be opened takes an erased step
low-made : (observer : Label) (ticket : ℕ) (c : Configuration) (k : ℕ) (contents : List Content) (task : TaskState) (move : Move) (o : Opened) → IsTaskOf c k task → move_of (cell_at c) (plan c.program task) ≡ Some move
    → opened observer move.act move.reply contents ≡ Some o → low observer ticket c k contents ≡ Some (low_with observer ticket c k task move o)
unfolding low
low-made observer ticket c k contents task move o is moves opens =
    ap (option_and_then (low_turn observer ticket c k contents)) is
    ∙ ap (option_and_then (λ m. option_map (low_with observer ticket c k task m) (opened observer m.act m.reply contents))) moves
    ∙ ap (option_map (low_with observer ticket c k task move)) opens

-- an erased turn with another ticket
abbrev pub low_with_ticket : ℕ → LowTurn → LowTurn
low_with_ticket ticket turn = record { entry = record turn.entry { ticket = ticket }; next = turn.next; left = turn.left }

pub low_ticket_stands_in_the_entry : LowTicketStandsInTheEntry
low_ticket_stands_in_the_entry observer one two c k contents turn takes =
    let p = low-parts observer one c k contents turn takes in
    subst (λ (t : LowTurn). low observer two c k contents ≡ Some (low_with_ticket two t)) p.is_turn (low-made observer two c k contents p.task p.move p.o p.is_task p.moves p.opens)

-- so whether there is an erased turn doesn't depend on the ticket
pub low-none : (observer : Label) (one two : ℕ) (c : Configuration) (k : ℕ) (contents : List Content) → low observer one c k contents ≡ None → low observer two c k contents ≡ None
low-none observer one two c k contents stays = by (low observer two c k contents) refl
  where
    by : (t : Option LowTurn) → low observer two c k contents ≡ t → low observer two c k contents ≡ None
    by None e = e
    by (Some turn) e = let none : None ≡ Some (low_with_ticket one turn) = sym stays ∙ low_ticket_stands_in_the_entry observer two one c k contents turn e in absurd (cc)

-- an erased act, and so an erased entry, shows the same child
born_at-erased : (observer : Label) (asked : Act) (target : Option ℕ) → born_at (erase_act observer asked) target ≡ born_at asked target
born_at-erased observer (act.Fork birth) None = refl
born_at-erased observer asked target = refl

pub born-erased : (observer : Label) (entry : Entry) → born_in (erase_entry observer entry) ≡ born_in entry
born-erased observer entry = born_at-erased observer entry.act entry.target
