-- A turn of a task above the observer changes nothing below.
use Rattle.std.proofs.Common.{◌≡◌, ◌∙◌, refl, sym, ap, subst, ℕ, Bool, true, false, ◌&&◌, not, if◌then◌else◌, List, Option, Some, None, option_and_then}
use Rattle.std.specs.Prelude.{IsTrue}
use Rattle.std.specs.Option.{option_map, option_map_or}
use Rattle.std.proofs.Common.{get_or-set_other}
use Rattle.std.proofs.Math.Seq.{map-set_same}
use Rattle.lio_labels.specs.declared.label.Label.{Label}
use Rattle.lio_labels.specs.Flow.{flows}
use Rattle.lio_labels.proofs.FlowLemmas.{flow_is_reflexive, flow_is_transitive}
use Rattle.lio_values.specs.declared.value.Content.{Content}
use Rattle.lio_values.specs.declared.value.Content.TheVariants.{Kept, Faulted, Hidden}
use Rattle.lio_values.specs.declared.act.Act.{Act}
use Rattle.lio_values.specs.declared.act.Reply.{Reply}
use Rattle.lio_values.specs.declared.act.Reply.TheVariants.{Done, Got, Told, Refused}
use Rattle.lio_calculus.specs.Task.{TaskState}
use Rattle.lio_calculus.specs.Going.{Onward, Unlabel, Expose, BindReply, released, given, replied, gone, gone_on}
use Rattle.lio_values.specs.declared.act.Act.TheVariants as act
use Rattle.lio_cells.specs.State.{label_of, ready, answer, state_after}
use Rattle.lio_calculus.specs.Plan.{Program, Plan, Over, Own, Visit, Target, Node, New, plan}
use Rattle.lio_calculus.specs.Step.{Cell, Configuration, blank, cell_at, with_cell, number_of, is_met, met, waits, move_of, met_after, task_after, target_after, actor_after, after, Move, Turn, entry_of, turn_of, step}
use Rattle.lio_calculus.specs.Erased.{label_of_cell, sees, hide_cell, erase_cell, erase}
use Rattle.lio_calculus.specs.Guarded.{label_after, changes, IsBefore, IsVisitGuarded, IsGuarded}

given-label : (task : TaskState) (name : List ℕ) (content : Content) → (given task name content).label ≡ task.label
given-label task name (Kept plain) = refl
given-label task name (Faulted fault) = refl
given-label task name Hidden = refl

replied-label : (task : TaskState) (name : List ℕ) (reply : Reply) → (replied task name reply).label ≡ task.label
replied-label task name (Got value) = refl
replied-label task name (Told content) = given-label task name content
replied-label task name Done = refl
replied-label task name (Refused fault) = refl

gone-label : (task : TaskState) (onward : Onward) (act : Act) (reply : Reply) → (gone task onward act reply).label ≡ label_after onward task.label
gone-label task (Unlabel name label source content) act reply = given-label (record task { label = label }) name content
gone-label task (Expose name label) act reply = given-label (record task { label = label }) name (released act)
gone-label task (BindReply name) act reply = replied-label task name reply
gone-label task onward act reply = refl

-- the current label after a turn
pub gone_on-label : (task : TaskState) (onward : Onward) (act : Act) (reply : Reply) → (gone_on task onward act reply).label ≡ label_after onward task.label
unfolding gone_on
gone_on-label task onward act reply = gone-label _ onward act reply

-- a cell that isn't seen is left out
pub erase_cell-unseen : (observer : Label) (cell : Cell) → sees observer cell ≡ false → erase_cell observer cell ≡ blank
unfolding erase_cell
erase_cell-unseen observer cell unseen = rw unseen refl

pub erase_cell-seen : (observer : Label) (cell : Cell) → sees observer cell ≡ true → erase_cell observer cell ≡ hide_cell observer cell
unfolding erase_cell
erase_cell-seen observer cell seen = rw seen refl

-- a label above one that isn't seen isn't seen
pub unseen-above : (observer low high : Label) → flows low observer ≡ false → IsTrue (flows low high) → flows high observer ≡ false
unseen-above observer low high unseen above = decided (flows high observer) refl
  where
    decided : (b : Bool) → flows high observer ≡ b → flows high observer ≡ false
    decided false is = is
    decided true is = let seen : IsTrue (flows low observer) = flow_is_transitive low high observer above is in absurd (cc)

-- a job is seen where its task's label flows to the observer
pub sees-task : (observer : Label) (cell : Cell) (task : TaskState) → cell.task ≡ Some task → sees observer cell ≡ flows task.label observer
sees-task observer cell task is = ap (λ (t : Option TaskState). option_map_or (λ label. flows label observer) (option_map_or (λ u. Some u.label) t (label_of cell.state)) false) is

unseen-label : (observer : Label) (low : Label) (label : Option Label) → flows low observer ≡ false → ((high : Label) → label ≡ Some high → IsTrue (flows low high)) → option_map_or (λ l. flows l observer) label false ≡ false
unseen-label observer low None unseen above = refl
unseen-label observer low (Some high) unseen above = unseen-above observer low high unseen (above high refl)

-- the actor's cell is left out before and after
actor-unseen : (observer : Label) (c : Configuration) (k : ℕ) (task : TaskState) (move : Move) → (cell_at c k).task ≡ Some task → flows task.label observer ≡ false → IsTrue (flows task.label (label_after move.onward task.label))
    → erase observer (with_cell c k (actor_after task move (cell_at c k))) ≡ erase observer c
actor-unseen observer c k task move is unseen rises =
    let cell : Cell = actor_after task move (cell_at c k) in
    let label : flows (gone_on task move.onward move.act move.reply).label observer ≡ false = rw (gone_on-label task move.onward move.act move.reply) (unseen-above observer task.label (label_after move.onward task.label) unseen rises) in
    let now : erase_cell observer cell ≡ blank = erase_cell-unseen observer cell label in
    let past : erase_cell observer (cell_at c k) ≡ blank = erase_cell-unseen observer (cell_at c k) (sees-task observer (cell_at c k) task is ∙ unseen) in
    ap (λ (cells : List Cell). let d : Configuration = record { program = c.program; cells = cells } in d) (map-set_same (erase_cell observer) c.cells k cell blank (now ∙ sym past))

-- a cell that an act meets without changing it
unchanged : (program : Program) (label : Label) (asked : Act) (cell : Cell) → changes asked ≡ false → met_after program label asked cell ≡ cell
unfolding state_after
unchanged program label act.Read cell is = λ i. record { state = cell.state; task = kept cell.task i }
  where
    kept : (task : Option TaskState) → task_after task None ≡ task
    kept None = refl
    kept (Some task) = refl
unchanged program label act.Wait cell is = λ i. record { state = cell.state; task = kept cell.task i }
  where
    kept : (task : Option TaskState) → task_after task None ≡ task
    kept None = refl
    kept (Some task) = refl
unchanged program label asked cell is = absurd (cc)

-- what a turn meets was left out before it, where it is left out after it
unseen-before : (observer : Label) (t : Target) (cell next : Cell) → IsBefore t cell next → sees observer next ≡ false → erase_cell observer cell ≡ blank
unseen-before observer (Node kind handle) cell next same now = erase_cell-unseen observer cell (ap (λ (l : Option Label). option_map_or (λ label. flows label observer) l false) same ∙ now)
unseen-before observer (New number) cell next empty now = ap (erase_cell observer) empty ∙ erase_cell-unseen observer blank refl

-- the target's cell looks alike before and after
target-unseen : (observer : Label) (c : Configuration) (k : ℕ) (task : TaskState) (asked : Act) (target : Target) (onward : Onward) → flows task.label observer ≡ false → IsVisitGuarded c k task asked target onward
    → IsTrue (is_met target (cell_at c (number_of target)).state) → erase_cell observer (met_after c.program task.label asked (cell_at c (number_of target))) ≡ erase_cell observer (cell_at c (number_of target))
target-unseen observer c k task asked target onward unseen guarded meets = decided (changes asked) refl
  where
    decided : (b : Bool) → changes asked ≡ b → erase_cell observer (met_after c.program task.label asked (cell_at c (number_of target))) ≡ erase_cell observer (cell_at c (number_of target))
    decided false is = ap (erase_cell observer) (unchanged c.program task.label asked (cell_at c (number_of target)) is)
    decided true is =
        let now : sees observer (met_after c.program task.label asked (cell_at c (number_of target))) ≡ false =
        unseen-label observer task.label (label_of_cell (met_after c.program task.label asked (cell_at c (number_of target)))) unseen (guarded.above is meets) in
        erase_cell-unseen observer _ now ∙ sym (unseen-before observer target (cell_at c (number_of target)) (met_after c.program task.label asked (cell_at c (number_of target))) guarded.before now)

met-unseen : (observer : Label) (c : Configuration) (k : ℕ) (task : TaskState) (asked : Act) (target : Target) (onward : Onward) → flows task.label observer ≡ false → IsVisitGuarded c k task asked target onward
    → erase observer (target_after c task.label asked (Some target)) ≡ erase observer c
met-unseen observer c k task asked target onward unseen guarded = decided (is_met target (cell_at c (number_of target)).state) refl
  where
    decided : (b : Bool) → is_met target (cell_at c (number_of target)).state ≡ b
        → erase observer (if b then with_cell c (number_of target) (met_after c.program task.label asked (cell_at c (number_of target))) else c) ≡ erase observer c
    decided false is = refl
    decided true is =
        ap (λ (cells : List Cell). let d : Configuration = record { program = c.program; cells = cells } in d)
        (map-set_same (erase_cell observer) c.cells (number_of target) (met_after c.program task.label asked (cell_at c (number_of target))) blank (target-unseen observer c k task asked target onward unseen guarded is))

-- the actor's own cell isn't the target's
pub other-cell : (c : Configuration) (k : ℕ) (label : Label) (asked : Act) (target : Target) → (k ≡ number_of target → ⊥) → cell_at (target_after c label asked (Some target)) k ≡ cell_at c k
other-cell c k label asked target other = decided (is_met target (cell_at c (number_of target)).state)
  where
    decided : (b : Bool) → cell_at (if b then with_cell c (number_of target) (met_after c.program label asked (cell_at c (number_of target))) else c) k ≡ cell_at c k
    decided false = refl
    decided true = get_or-set_other c.cells (number_of target) k (met_after c.program label asked (cell_at c (number_of target))) blank other

-- the move of a visit is that of its plan
pub visit-move : (asked : Act) (target : Target) (onward : Onward) (b : Bool) (move seen : Move) → (if b then None else Some move) ≡ Some seen → move ≡ seen
visit-move asked target onward true move seen is = absurd (cc)
visit-move asked target onward false move seen is = cc

turn-unseen : (observer : Label) (c : Configuration) (k : ℕ) (task : TaskState) (p : Plan) (move : Move) → (cell_at c k).task ≡ Some task → flows task.label observer ≡ false → IsGuarded c k task p → move_of (cell_at c) p ≡ Some move
    → erase observer (after c k task move) ≡ erase observer c
turn-unseen observer c k task Over move is unseen guarded moves = absurd (cc)
turn-unseen observer c k task (Own asked reply onward) move is unseen guarded moves =
    let own : Move = record { act = asked; target = None; reply = reply; onward = onward } in
    let same : own ≡ move = cc in
    subst (λ (m : Move). erase observer (after c k task m) ≡ erase observer c) same (actor-unseen observer c k task own is unseen guarded.rises)
turn-unseen observer c k task (Visit asked target onward) move is unseen guarded moves =
    let own : Move = record { act = asked; target = Some target; reply = answer (met target (cell_at c (number_of target)).state) asked; onward = onward } in
    let same : own ≡ move = visit-move asked target onward (waits asked && not (ready (met target (cell_at c (number_of target)).state) asked)) own move moves in
    let between : Configuration = target_after c task.label asked (Some target) in
    let cell : cell_at between k ≡ cell_at c k = other-cell c k task.label asked target guarded.other in
    let rises : IsTrue (flows task.label (label_after onward task.label)) = rw guarded.stays (flow_is_reflexive task.label) in
    subst (λ (m : Move). erase observer (after c k task m) ≡ erase observer c) same
    (actor-unseen observer between k task own (ap (λ (d : Cell). d.task) cell ∙ is) unseen rises ∙ met-unseen observer c k task asked target onward unseen guarded)

-- a turn of a task above the observer changes nothing below
pub step-unseen : (observer : Label) (ticket : ℕ) (c : Configuration) (k : ℕ) (task : TaskState) (turn : Turn) → (cell_at c k).task ≡ Some task → flows task.label observer ≡ false → IsGuarded c k task (plan c.program task) → step ticket c k ≡ Some turn
    → erase observer turn.next ≡ erase observer c
unfolding step
step-unseen observer ticket c k task turn is unseen guarded steps =
    let taken : turn_of ticket c k task ≡ Some turn = sym (ap (λ (t : Option TaskState). option_and_then (turn_of ticket c k) t) is) ∙ steps in
    moved (move_of (cell_at c) (plan c.program task)) refl taken
  where
    moved : (m : Option Move) → move_of (cell_at c) (plan c.program task) ≡ m → option_map (λ move. record { entry = entry_of ticket k task move; next = after c k task move }) m ≡ Some turn → erase observer turn.next ≡ erase observer c
    moved None moves taken = absurd (cc)
    moved (Some move) moves taken =
        let made : Turn = record { entry = entry_of ticket k task move; next = after c k task move } in
        let same : made ≡ turn = cc in
        subst (λ (t : Turn). erase observer t.next ≡ erase observer c) same (turn-unseen observer c k task (plan c.program task) move is unseen guarded moves)
