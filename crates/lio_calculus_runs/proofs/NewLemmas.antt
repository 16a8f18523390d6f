-- Who is born in a turn of a well-formed configuration stands where nothing was, and tasks stay.
use Rattle.std.proofs.Common.{◌≡◌, ◌∙◌, refl, sym, ap, subst, ℕ, ◌<◌, ◌≤◌, inl, inr, true, ◌&&◌, not, if◌then◌else◌, List, length, Option, Some, None, is_some, true≢false, arith}
use Rattle.std.specs.Option.{option_map}
use Rattle.std.proofs.lemmas.List.{get_or-set_same, get_or-set_other}
use Rattle.lio_values.specs.declared.act.Act.{Act}
use Rattle.lio_values.specs.declared.act.Act.TheVariants as act
use Rattle.lio_values.specs.declared.act.Birth.{Birth}
use Rattle.lio_cells.specs.State.{ready, answer}
use Rattle.lio_calculus.specs.Task.{TaskState}
use Rattle.lio_calculus.specs.Going.{Onward, Fork, Spawn}
use Rattle.lio_calculus.specs.Plan.{Plan, Over, Own, Visit, Target, Node, New, plan}
use Rattle.lio_calculus.specs.Step.{Cell, Configuration, blank, cell_at, with_cell, number_of, is_met, met, waits, child_of, born, task_after, met_after, Move, move_of, actor_after, target_after, after, Turn, step}
use Rattle.lio_calculus.specs.Sound.{IsTaskOf, IsSound}
use Rattle.lio_calculus.proofs.InvisibleLemmas.{visit-move}
use Rattle.lio_calculus.proofs.PlanKept.{Suits, Kept, KeptPlan, NewSuits, is_visit, plan-kept}
use Rattle.lio_calculus_runs.specs.Round.{born_at, born_in}
use Rattle.lio_calculus_runs.proofs.TurnLemmas.{Parts, parts}
use Rattle.lio_calculus_runs.proofs.AfterLemmas.{Changed, Here, Elsewhere, changed, task-met}
use Rattle.lio_calculus_runs.proofs.BirthLemmas.{Among}

-- a cell that has a task after a turn, and had none before it
pub record IsNew (c d : Configuration) (n : ℕ) : Type 0 where
  pub absent : (cell_at c n).task ≡ None
  pub there : is_some (cell_at d n).task ≡ true

-- a child of a task, at the first number of the task's range
child-new : (c : Configuration) (k : ℕ) (task : TaskState) (asked : Act) (child : TaskState) (move : Move) → IsSound c → IsTaskOf c k task → 1 ≤ task.cells → born c.program task.label asked ≡ Some child
    → move.act ≡ asked → move.target ≡ Some (New task.first) → IsNew c (after c k task move) task.first
child-new c k task asked child move sound is room births acts meets =
    let t : ℕ = task.first in
    let empty : cell_at c t ≡ blank = sound.free k t task is (record { from = omega arith; below = omega (arith, room) }) in
    let within : t < length c.cells = omega (arith, sound.ranges k task is, room) in
    let differ : t ≡ k → ⊥ = λ e. let none : Some task ≡ None = sym is ∙ ap (λ (x : Cell). x.task) (ap (cell_at c) (sym e) ∙ empty) in cc in
    let cell : Cell = met_after c.program task.label asked (cell_at c t) in
    let between : Configuration = target_after c task.label move.act move.target in
    let met : between ≡ with_cell c t cell =
    ap (λ (a : Act). target_after c task.label a move.target) acts ∙ ap (λ (m : Option Target). target_after c task.label asked m) meets
    ∙ ap (λ (x : Cell). if is_met (New t) x.state then with_cell c t cell else c) empty in
    let at_t : cell_at between t ≡ cell = ap (λ (d : Configuration). cell_at d t) met ∙ get_or-set_same c.cells t cell blank within in
    let stays : cell_at (after c k task move) t ≡ cell_at between t = get_or-set_other between.cells k t (actor_after task move (cell_at between k)) blank differ in
    let has : (cell_at (after c k task move) t).task ≡ Some child = ap (λ (x : Cell). x.task) (stays ∙ at_t) ∙ ap (λ (x : Cell). task_after x.task (born c.program task.label asked)) empty ∙ births in
    record { absent = ap (λ (x : Cell). x.task) empty; there = ap is_some has }

none-born : (asked : Act) (n : ℕ) → Among n (born_at asked None) → ⊥
none-born (act.Fork birth) n among = among
none-born (act.Spawn birth) n among = among
none-born asked n among = among

visit-born : (asked : Act) (t n : ℕ) → is_visit asked ≡ true → Among n (born_at asked (Some t)) → ⊥
visit-born (act.Fork birth) t n visit among = true≢false (sym visit)
visit-born (act.Spawn birth) t n visit among = true≢false (sym visit)
visit-born asked t n visit among = among

fork-room : (task : TaskState) (name : List ℕ) (birth : Birth) → Suits task (Fork name birth.result birth.cells birth.turns) → 1 ≤ task.cells
fork-room task name birth suits = omega (arith, suits)

spawn-room : (task : TaskState) (birth : Birth) → Suits task (Spawn birth.cells birth.turns) → 1 ≤ task.cells
spawn-room task birth suits = omega (arith, suits)

-- whom a move at a new number gives birth to
new-born : (c : Configuration) (k : ℕ) (task : TaskState) (asked : Act) (number : ℕ) (onward : Onward) (move : Move) → IsSound c → IsTaskOf c k task → Kept task onward → number ≡ task.first → NewSuits task asked onward
    → move.act ≡ asked → move.target ≡ Some (New number) → (n : ℕ) → Among n (born_at asked (Some number)) → IsNew c (after c k task move) n
new-born c k task (act.Fork birth) number onward move sound is kept first suits acts meets n (inl e) =
    let room : 1 ≤ task.cells = fork-room task suits.1 birth (subst (Suits task) suits.2 kept.suits) in
    let there : IsNew c (after c k task move) task.first = child-new c k task (act.Fork birth) (child_of c.program task.label birth) move sound is room refl acts (meets ∙ ap (λ (m : ℕ). Some (New m)) first) in
    subst (IsNew c (after c k task move)) (sym (e ∙ first)) there
new-born c k task (act.Spawn birth) number onward move sound is kept first suits acts meets n (inl e) =
    let room : 1 ≤ task.cells = spawn-room task birth (subst (Suits task) suits.1 kept.suits) in
    let there : IsNew c (after c k task move) task.first = child-new c k task (act.Spawn birth) (child_of c.program task.label birth) move sound is room refl acts (meets ∙ ap (λ (m : ℕ). Some (New m)) first) in
    subst (IsNew c (after c k task move)) (sym (e ∙ first)) there
new-born c k task (act.Fork birth) number onward move sound is kept first suits acts meets n (inr none) = absurd none
new-born c k task (act.Spawn birth) number onward move sound is kept first suits acts meets n (inr none) = absurd none
new-born c k task asked number onward move sound is kept first suits acts meets n among = absurd among

move-born : (c : Configuration) (k : ℕ) (task : TaskState) (p : Plan) (move : Move) → IsSound c → IsTaskOf c k task → KeptPlan task p → move_of (cell_at c) p ≡ Some move
    → (n : ℕ) → Among n (born_at move.act (option_map number_of move.target)) → IsNew c (after c k task move) n
move-born c k task Over move sound is kept moves n among = absurd (cc)
move-born c k task (Own asked reply onward) move sound is kept moves n among =
    let own : Move = record { act = asked; target = None; reply = reply; onward = onward } in
    let same : own ≡ move = cc in
    absurd (none-born asked n (subst (λ (m : Move). Among n (born_at m.act (option_map number_of m.target))) (sym same) among))
move-born c k task (Visit asked (Node kind handle) onward) move sound is kept moves n among =
    let s = (met (Node kind handle) (cell_at c handle.number).state) in
    let own : Move = record { act = asked; target = Some (Node kind handle); reply = answer s asked; onward = onward } in
    let same : own ≡ move = visit-move asked (Node kind handle) onward (waits asked && not (ready s asked)) own move moves in
    absurd (visit-born asked handle.number n kept.1.0 (subst (λ (m : Move). Among n (born_at m.act (option_map number_of m.target))) (sym same) among))
move-born c k task (Visit asked (New number) onward) move sound is kept moves n among =
    let s = (met (New number) (cell_at c number).state) in
    let own : Move = record { act = asked; target = Some (New number); reply = answer s asked; onward = onward } in
    let same : own ≡ move = visit-move asked (New number) onward (waits asked && not (ready s asked)) own move moves in
    new-born c k task asked number onward move sound is kept.0 kept.1.0 kept.1.1 (sym (ap (λ (m : Move). m.act) same)) (sym (ap (λ (m : Move). m.target) same)) n
    (subst (λ (m : Move). Among n (born_at m.act (option_map number_of m.target))) (sym same) among)

-- who is born in a turn is new
pub turn-born : (ticket : ℕ) (c : Configuration) (k : ℕ) (turn : Turn) → IsSound c → step ticket c k ≡ Some turn → (n : ℕ) → Among n (born_in turn.entry) → IsNew c turn.next n
turn-born ticket c k turn sound steps =
    let p = parts ticket c k turn steps in
    subst (λ (t : Turn). (n : ℕ) → Among n (born_in t.entry) → IsNew c t.next n) p.is_turn
    (move-born c k p.task (plan c.program p.task) p.move sound p.is_task (plan-kept c.program p.task (sound.clearance k p.task p.is_task) (sound.literals k p.task p.is_task) sound.program) p.moves)

-- a task stays a task
pub turn-stays : (ticket : ℕ) (c : Configuration) (k : ℕ) (turn : Turn) → step ticket c k ≡ Some turn → (n : ℕ) → is_some (cell_at c n).task ≡ true → is_some (cell_at turn.next n).task ≡ true
turn-stays ticket c k turn steps =
    let p = parts ticket c k turn steps in
    subst (λ (t : Turn). (n : ℕ) → is_some (cell_at c n).task ≡ true → is_some (cell_at t.next n).task ≡ true) p.is_turn (λ n some. found p n (cell_at c n).task refl some)
  where
    between : Parts ticket c k turn → Configuration
    between p = target_after c p.task.label p.move.act p.move.target

    stays : (p : Parts ticket c k turn) (n : ℕ) (x : TaskState) → IsTaskOf c n x → Changed (between p) k (actor_after p.task p.move (cell_at (between p) k)) n → is_some (cell_at (after c k p.task p.move) n).task ≡ true
    stays p n x is (Here e h) = ap (λ (y : Cell). is_some y.task) h
    stays p n x is (Elsewhere h) = ap (λ (y : Cell). is_some y.task) h ∙ ap is_some (task-met c n x p.task.label p.move.act p.move.target is)

    found : (p : Parts ticket c k turn) (n : ℕ) (t : Option TaskState) → (cell_at c n).task ≡ t → is_some t ≡ true → is_some (cell_at (after c k p.task p.move) n).task ≡ true
    found p n None e some = absurd (true≢false (sym some))
    found p n (Some x) e some = stays p n x e (changed (between p) k (actor_after p.task p.move (cell_at (between p) k)) n)
