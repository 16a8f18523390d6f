-- The label of a task floats up; so a task that an observer doesn't see stays unseen.
use Rattle.std.proofs.Common.{◌≡◌, ◌∙◌, refl, sym, ap, subst, ℕ, Bool, true, false, ◌&&◌, not, IsTrue, Option, Some, None, is_some, true≢false}
use Rattle.lio_labels.specs.declared.label.Label.{Label}
use Rattle.lio_labels.specs.Flow.{flows}
use Rattle.lio_labels.proofs.FlowLemmas.{flow_is_reflexive}
use Rattle.lio_cells.specs.State.{ready, answer}
use Rattle.lio_calculus.specs.Task.{TaskState}
use Rattle.lio_calculus.specs.Going.{gone_on}
use Rattle.lio_calculus.specs.Plan.{Plan, Over, Own, Visit, plan}
use Rattle.lio_calculus.specs.Step.{Cell, Configuration, cell_at, number_of, met, waits, Move, move_of, actor_after, target_after, after, Turn, step}
use Rattle.lio_calculus.specs.Erased.{erase}
use Rattle.lio_calculus.specs.Guarded.{label_after, IsGuarded}
use Rattle.lio_calculus.specs.Sound.{IsTaskOf, IsSound}
use Rattle.lio_calculus.proofs.InvisibleLemmas.{gone_on-label, unseen-above, visit-move}
use Rattle.lio_calculus.proofs.StepGuarded.{turn-guarded}
use Rattle.lio_calculus.proofs.EnabledLemmas.{task-seen, task-unseen, task-absent}
use Rattle.lio_calculus_runs.specs.Round.{born_in}
use Rattle.lio_calculus_runs.proofs.TurnLemmas.{Parts, parts}
use Rattle.lio_calculus_runs.proofs.AfterLemmas.{Changed, Here, Elsewhere, changed, task-met}
use Rattle.lio_calculus_runs.proofs.BirthLemmas.{Among}
use Rattle.lio_calculus_runs.proofs.NewLemmas.{turn-born, turn-stays}

-- the actor's label rises
move-rises : (c : Configuration) (k : ℕ) (task : TaskState) (p : Plan) (move : Move) → IsGuarded c k task p → move_of (cell_at c) p ≡ Some move → IsTrue (flows task.label (label_after move.onward task.label))
move-rises c k task Over move guarded moves = absurd (cc)
move-rises c k task (Own asked reply onward) move guarded moves =
    let own : Move = record { act = asked; target = None; reply = reply; onward = onward } in
    let same : own ≡ move = cc in
    subst (λ (m : Move). IsTrue (flows task.label (label_after m.onward task.label))) same guarded.rises
move-rises c k task (Visit asked target onward) move guarded moves =
    let own : Move = record { act = asked; target = Some target; reply = answer (met target (cell_at c (number_of target)).state) asked; onward = onward } in
    let same : own ≡ move = visit-move asked target onward (waits asked && not (ready (met target (cell_at c (number_of target)).state) asked)) own move moves in
    subst (λ (m : Move). IsTrue (flows task.label (label_after m.onward task.label))) same (subst (λ l. IsTrue (flows task.label l)) (sym guarded.stays) (flow_is_reflexive task.label))

-- a task whose label is above another
record Later (d : Configuration) (n : ℕ) (label : Label) : Type 0 where
  task : TaskState
  is : IsTaskOf d n task
  above : IsTrue (flows label task.label)

-- each task's label rises in a turn, or stays
turn-floats : (ticket : ℕ) (c : Configuration) (k : ℕ) (turn : Turn) → IsSound c → step ticket c k ≡ Some turn → (n : ℕ) (x : TaskState) → IsTaskOf c n x → Later turn.next n x.label
turn-floats ticket c k turn sound steps =
    let p = parts ticket c k turn steps in
    subst (λ (t : Turn). (n : ℕ) (x : TaskState) → IsTaskOf c n x → Later t.next n x.label) p.is_turn
    (λ n x is. by p n x is (changed (target_after c p.task.label p.move.act p.move.target) k (actor_after p.task p.move (cell_at (target_after c p.task.label p.move.act p.move.target) k)) n))
  where
    acting : (p : Parts ticket c k turn) (n : ℕ) (x : TaskState) → IsTaskOf c n x → n ≡ k → IsTrue (flows x.label (gone_on p.task p.move.onward p.move.act p.move.reply).label)
    acting p n x is e =
        let there : Some x ≡ Some p.task = sym is ∙ ap (λ (m : ℕ). (cell_at c m).task) e ∙ p.is_task in
        let same : x ≡ p.task = cc in
        let rises : IsTrue (flows p.task.label (label_after p.move.onward p.task.label)) =
        move-rises c k p.task (plan c.program p.task) p.move (turn-guarded ticket c k p.task turn sound p.is_task steps) p.moves in
        subst (λ (y : TaskState). IsTrue (flows y.label (gone_on p.task p.move.onward p.move.act p.move.reply).label)) (sym same)
        (subst (λ (l : Label). IsTrue (flows p.task.label l)) (sym (gone_on-label p.task p.move.onward p.move.act p.move.reply)) rises)

    by : (p : Parts ticket c k turn) (n : ℕ) (x : TaskState) → IsTaskOf c n x
        → Changed (target_after c p.task.label p.move.act p.move.target) k (actor_after p.task p.move (cell_at (target_after c p.task.label p.move.act p.move.target) k)) n
        → Later (after c k p.task p.move) n x.label
    by p n x is (Here e h) = record {
      task = gone_on p.task p.move.onward p.move.act p.move.reply;
      is = ap (λ (y : Cell). y.task) h;
      above = acting p n x is e;
    }
    by p n x is (Elsewhere h) = record {
      task = x;
      is = ap (λ (y : Cell). y.task) h ∙ task-met c n x p.task.label p.move.act p.move.target is;
      above = flow_is_reflexive x.label;
    }

-- a number is a task's
abbrev pub IsTask : Configuration → ℕ → Type 0
IsTask c n = is_some (cell_at c n).task ≡ true

-- no task stands at a number in the erased configuration
abbrev pub IsAbove : Label → Configuration → ℕ → Type 0
IsAbove observer c n = is_some (cell_at (erase observer c) n).task ≡ false

-- a task is seen where its label flows to the observer's
pub stands-task : (observer : Label) (c : Configuration) (n : ℕ) (x : TaskState) → IsTaskOf c n x → is_some (cell_at (erase observer c) n).task ≡ flows x.label observer
stands-task observer c n x is = by (flows x.label observer) refl
  where
    by : (b : Bool) → flows x.label observer ≡ b → is_some (cell_at (erase observer c) n).task ≡ flows x.label observer
    by true e = ap (λ (t : Option TaskState). is_some t) (task-seen observer c n x is e) ∙ sym e
    by false e = ap (λ (t : Option TaskState). is_some t) (task-unseen observer c n x is e) ∙ sym e

-- what is a task stays one, and where it isn't seen it stays unseen
pub record Onwards (observer : Label) (c d : Configuration) : Type 0 where
  pub stays : (n : ℕ) → IsTask c n → IsTask d n
  pub above : (n : ℕ) → IsTask c n → IsAbove observer c n → IsAbove observer d n

pub turn-onwards : (observer : Label) (ticket : ℕ) (c : Configuration) (k : ℕ) (turn : Turn) → IsSound c → step ticket c k ≡ Some turn → Onwards observer c turn.next
turn-onwards observer ticket c k turn sound steps = record {
  stays = turn-stays ticket c k turn steps;
  above = λ n some unseen. by n unseen (cell_at c n).task refl some;
}
  where
    by : (n : ℕ) → IsAbove observer c n → (t : Option TaskState) → (cell_at c n).task ≡ t → is_some t ≡ true → IsAbove observer turn.next n
    by n unseen None e some = absurd (true≢false (sym some))
    by n unseen (Some x) e some =
        let later = turn-floats ticket c k turn sound steps n x e in
        stands-task observer turn.next n later.task later.is ∙ unseen-above observer x.label later.task.label (sym (stands-task observer c n x e) ∙ unseen) later.above

-- whom a task above the observer gives birth to isn't seen
pub born-above : (observer : Label) (ticket : ℕ) (c : Configuration) (k : ℕ) (turn : Turn) → IsSound c → step ticket c k ≡ Some turn → erase observer turn.next ≡ erase observer c
    → (n : ℕ) → Among n (born_in turn.entry) → IsAbove observer turn.next n
born-above observer ticket c k turn sound steps still n among =
    ap (λ (d : Configuration). is_some (cell_at d n).task) still
    ∙ ap (λ (t : Option TaskState). is_some t) (task-absent observer c n (turn-born ticket c k turn sound steps n among).absent)
