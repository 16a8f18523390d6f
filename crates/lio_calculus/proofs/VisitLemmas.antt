-- A visit in the erased calculus.
use Rattle.std.proofs.Common.{◌≡◌, ◌∙◌, refl, ap, ℕ, Bool, true, false, ◌&&◌, not, if◌then◌else◌, Option, Some, None}
use Rattle.std.specs.Option.{option_map_or}
use Rattle.lio_labels.specs.declared.label.Label.{Label}
use Rattle.lio_labels.specs.Flow.{flows}
use Rattle.lio_labels.proofs.FlowLemmas.{flow_is_transitive}
use Rattle.lio_values.specs.declared.act.Act.{Act}
use Rattle.lio_values.specs.declared.act.Act.TheVariants as act
use Rattle.lio_values.specs.declared.act.Reply.{Reply}
use Rattle.lio_values.specs.declared.act.Reply.TheVariants.{Done}
use Rattle.lio_values.specs.Erasure.{erase_reply}
use Rattle.lio_cells.specs.declared.state.State.{State}
use Rattle.lio_cells.specs.declared.state.State.TheVariants.{Absent}
use Rattle.lio_cells.specs.State.{Reference, ready, answer}
use Rattle.lio_calculus.specs.Task.{TaskState}
use Rattle.lio_calculus.specs.Going.{Onward}
use Rattle.lio_calculus.specs.Plan.{Plan, Over, Own, Visit, Target, Node}
use Rattle.lio_calculus.specs.Hiding.{hide_asked, hide_onward, hide_plan}
use Rattle.lio_calculus.specs.Step.{Cell, Configuration, cell_at, number_of, is_met, met, waits, visit, Move, move_of}
use Rattle.lio_calculus.specs.Erased.{sees, hide_state, erase_cell, erase}
use Rattle.lio_calculus.specs.Guarded.{IsGuarded}
use Rattle.lio_calculus.proofs.StateLemmas.{ready-hidden, answer-hidden}
use Rattle.lio_calculus.proofs.CellLemmas.{is_met-hidden}
use Rattle.lio_calculus.proofs.InvisibleLemmas.{erase_cell-unseen, erase_cell-seen}
use Rattle.lio_calculus.proofs.ConfigLemmas.{cell_at-erased}

-- a move, with its values hidden
abbrev pub hide_move : Label → Move → Move
hide_move observer move = record { act = hide_asked observer move.act; target = move.target; reply = erase_reply observer move.reply; onward = hide_onward observer move.onward }

met-hidden : (observer : Label) (target : Target) (state : State) → met target (hide_state observer state) ≡ hide_state observer (met target state)
met-hidden observer target state =
    ap (λ (b : Bool). if b then hide_state observer state else Absent) (is_met-hidden observer target state) ∙ decided (is_met target state)
  where
    decided : (b : Bool) → (if b then hide_state observer state else Absent) ≡ hide_state observer (if b then state else Absent)
    decided true = refl
    decided false = refl

waits-hidden : (observer : Label) (asked : Act) → waits (hide_asked observer asked) ≡ waits asked
unfolding hide_asked
waits-hidden observer (act.Release source target power content) = refl
waits-hidden observer (act.Expose source target power content) = refl
waits-hidden observer asked = refl

-- what doesn't wait is answered alike by each node
pub answer-done : (state : State) (asked : Act) → waits asked ≡ false → answer state asked ≡ Done
unfolding answer
answer-done state act.Read is = absurd (cc)
answer-done state act.Take is = absurd (cc)
answer-done state act.Wait is = absurd (cc)
answer-done state asked is = refl

chosen : (observer : Label) (b : Bool) (own move : Move) → (if b then None else Some own) ≡ Some move → (if b then None else Some (hide_move observer own)) ≡ Some (hide_move observer move)
chosen observer true own move is = absurd (cc)
chosen observer false own move is = let same : own ≡ move = cc in ap (λ (m : Move). Some (hide_move observer m)) same

-- a visit of a node that is seen
visit-seen : (observer : Label) (asked : Act) (target : Target) (onward : Onward) (state : State) (move : Move) → visit asked target onward (met target state) ≡ Some move
    → visit (hide_asked observer asked) target (hide_onward observer onward) (met target (hide_state observer state)) ≡ Some (hide_move observer move)
visit-seen observer asked target onward state move is =
    let here : State = met target state in
    let test : (waits (hide_asked observer asked) && not (ready (hide_state observer here) (hide_asked observer asked))) ≡ (waits asked && not (ready here asked)) =
    ap (λ (w : Bool). w && not (ready (hide_state observer here) (hide_asked observer asked))) (waits-hidden observer asked) ∙ ap (λ (r : Bool). waits asked && not r) (ready-hidden observer here asked) in
    ap (visit (hide_asked observer asked) target (hide_onward observer onward)) (met-hidden observer target state)
    ∙ ap (λ (b : Bool). if b then None else Some (record { act = hide_asked observer asked; target = Some target; reply = answer (hide_state observer here) (hide_asked observer asked); onward = hide_onward observer onward })) test
    ∙ ap (λ (r : Reply). if waits asked && not (ready here asked) then None else Some (record { act = hide_asked observer asked; target = Some target; reply = r; onward = hide_onward observer onward })) (answer-hidden observer here asked)
    ∙ chosen observer (waits asked && not (ready here asked)) (record { act = asked; target = Some target; reply = answer here asked; onward = onward }) move is

-- a visit that doesn't wait, whatever the node
visit-blind : (observer : Label) (asked : Act) (target : Target) (onward : Onward) (state other : State) (move : Move) → waits asked ≡ false → visit asked target onward state ≡ Some move
    → visit (hide_asked observer asked) target (hide_onward observer onward) other ≡ Some (hide_move observer move)
visit-blind observer asked target onward state other move still is =
    let low : waits (hide_asked observer asked) ≡ false = waits-hidden observer asked ∙ still in
    let own : Move = record { act = asked; target = Some target; reply = Done; onward = onward } in
    let real : visit asked target onward state ≡ Some own =
    ap (λ (b : Bool). if b && not (ready state asked) then None else Some (record { act = asked; target = Some target; reply = answer state asked; onward = onward })) still
    ∙ ap (λ (r : Reply). Some (record { act = asked; target = Some target; reply = r; onward = onward })) (answer-done state asked still) in
    let same : own ≡ move = cc in
    ap (λ (b : Bool). if b && not (ready other (hide_asked observer asked)) then None else Some (record { act = hide_asked observer asked; target = Some target; reply = answer other (hide_asked observer asked); onward = hide_onward observer onward })) low
    ∙ ap (λ (r : Reply). Some (record { act = hide_asked observer asked; target = Some target; reply = r; onward = hide_onward observer onward })) (answer-done other (hide_asked observer asked) low)
    ∙ ap (λ (m : Move). Some (hide_move observer m)) same

-- the move of a task that the observer sees is its move with hidden values
pub low-move : (observer : Label) (c : Configuration) (k : ℕ) (task : TaskState) (p : Plan) (move : Move) → flows task.label observer ≡ true → IsGuarded c k task p → move_of (cell_at c) p ≡ Some move
    → move_of (cell_at (erase observer c)) (hide_plan observer p) ≡ Some (hide_move observer move)
low-move observer c k task Over move visible guarded moves = absurd (cc)
low-move observer c k task (Own asked reply onward) move visible guarded moves =
    let own : Move = record { act = asked; target = None; reply = reply; onward = onward } in
    let same : own ≡ move = cc in
    ap (λ (m : Move). Some (hide_move observer m)) same
low-move observer c k task (Visit asked target onward) move visible guarded moves =
    ap (λ (cell : Cell). visit (hide_asked observer asked) target (hide_onward observer onward) (met target cell.state)) (cell_at-erased observer c (number_of target))
    ∙ by_sight (sees observer (cell_at c (number_of target))) refl
  where
    by_sight : (b : Bool) → sees observer (cell_at c (number_of target)) ≡ b
        → visit (hide_asked observer asked) target (hide_onward observer onward) (met target (erase_cell observer (cell_at c (number_of target))).state) ≡ Some (hide_move observer move)
    by_sight true is =
        ap (λ (cell : Cell). visit (hide_asked observer asked) target (hide_onward observer onward) (met target cell.state)) (erase_cell-seen observer (cell_at c (number_of target)) is)
        ∙ visit-seen observer asked target onward (cell_at c (number_of target)).state move moves
    by_sight false is = blind (waits asked) refl
      where
        blind : (w : Bool) → waits asked ≡ w → visit (hide_asked observer asked) target (hide_onward observer onward) (met target (erase_cell observer (cell_at c (number_of target))).state) ≡ Some (hide_move observer move)
        blind false still = visit-blind observer asked target onward (met target (cell_at c (number_of target)).state) (met target (erase_cell observer (cell_at c (number_of target))).state) move still moves
        blind true waiting =
            let (label, has, below) = guarded.below waiting in
            let seen : sees observer (cell_at c (number_of target)) ≡ true = ap (λ (l : Option Label). option_map_or (λ x. flows x observer) l false) has ∙ flow_is_transitive label task.label observer below visible in
            absurd (cc)

-- where nothing is no handle names a cell, and nothing is ready for what waits
met-absent : (target : Target) → met target Absent ≡ Absent
met-absent (Node Reference handle) = refl
met-absent target = refl

absent-unready : (asked : Act) → waits asked ≡ true → ready Absent asked ≡ false
unfolding ready
absent-unready act.Read is = refl
absent-unready act.Take is = refl
absent-unready (act.Put value) is = refl
absent-unready act.Wait is = refl
absent-unready asked is = absurd (cc)

halted : (b : Bool) (own : Move) → (if b then None else Some own) ≡ None → b ≡ true
halted true own is = refl
halted false own is = absurd (cc)

both-first : (a b : Bool) → (a && b) ≡ true → a ≡ true
both-first true b is = refl
both-first false b is = absurd (cc)

-- a task that can't move can't move in the erased calculus either
pub low-still : (observer : Label) (c : Configuration) (p : Plan) → move_of (cell_at c) p ≡ None → move_of (cell_at (erase observer c)) (hide_plan observer p) ≡ None
low-still observer c Over still = refl
low-still observer c (Own asked reply onward) still = absurd (cc)
low-still observer c (Visit asked target onward) still =
    ap (λ (x : Cell). low_visit (met target x.state)) (cell_at-erased observer c (number_of target)) ∙ by_sight (sees observer cell) refl
  where
    cell : Cell
    cell = cell_at c (number_of target)

    here : State
    here = met target cell.state

    low_visit : State → Option Move
    low_visit state = visit (hide_asked observer asked) target (hide_onward observer onward) state

    held_up : (state : State) → (waits (hide_asked observer asked) && not (ready state (hide_asked observer asked))) ≡ true → low_visit state ≡ None
    held_up state is = ap (λ (b : Bool). if b then None else Some (record { act = hide_asked observer asked; target = Some target; reply = answer state (hide_asked observer asked); onward = hide_onward observer onward })) is

    waiting : (waits asked && not (ready here asked)) ≡ true
    waiting = halted (waits asked && not (ready here asked)) (record { act = asked; target = Some target; reply = answer here asked; onward = onward }) still

    by_sight : (b : Bool) → sees observer cell ≡ b → low_visit (met target (erase_cell observer cell).state) ≡ None
    by_sight true is =
        ap (λ (x : Cell). low_visit (met target x.state)) (erase_cell-seen observer cell is) ∙ ap low_visit (met-hidden observer target cell.state)
        ∙ held_up (hide_state observer here)
        (ap (λ (w : Bool). w && not (ready (hide_state observer here) (hide_asked observer asked))) (waits-hidden observer asked) ∙ ap (λ (r : Bool). waits asked && not r) (ready-hidden observer here asked) ∙ waiting)
    by_sight false is =
        let low_waits : waits (hide_asked observer asked) ≡ true = waits-hidden observer asked ∙ both-first (waits asked) (not (ready here asked)) waiting in
        ap (λ (x : Cell). low_visit (met target x.state)) (erase_cell-unseen observer cell is) ∙ ap low_visit (met-absent target)
        ∙ held_up Absent
        (ap (λ (w : Bool). w && not (ready Absent (hide_asked observer asked))) low_waits ∙ ap not (absent-unready (hide_asked observer asked) low_waits))
