-- A task that lacks a content goes on lacking it in a run with none left.
use Rattle.std.proofs.Common.{◌≡◌, ◌∙◌, refl, sym, ap, subst, ℕ, ◌+◌, Bool, true, false, if◌then◌else◌, true≢false, not, ◌&&◌, List, [], ◌∷◌, ◌++◌, Option, Some, None, is_some, option_and_then}
use Rattle.std.specs.Option.{option_map}
use Rattle.lio_labels.specs.declared.label.Label.{Label}
use Rattle.lio_labels.specs.Flow.{flows}
use Rattle.lio_values.specs.declared.value.Content.{Content}
use Rattle.lio_values.specs.declared.act.Act.{Act}
use Rattle.lio_values.specs.declared.act.Act.TheVariants as act
use Rattle.lio_cells.specs.State.{answer, ready}
use Rattle.lio_calculus.specs.Task.{TaskState}
use Rattle.lio_calculus.specs.Going.{Onward}
use Rattle.lio_calculus.specs.Hiding.{hide_task}
use Rattle.lio_calculus.specs.Plan.{Own, Over, Plan, Program, Target, Visit, plan}
use Rattle.lio_calculus.specs.Step.{Cell, Configuration, Move, actor_after, after, can, cell_at, is_met, met, met_after, move_of, number_of, target_after, waits, with_cell}
use Rattle.lio_calculus.specs.Erased.{LowTurn, Opened, erase, low, low_turn, low_with, opened}
use Rattle.lio_calculus.specs.Run.{LowRan, low_run}
use Rattle.lio_calculus.specs.Sound.{IsTaskOf}
use Rattle.lio_calculus.proofs.ConfigLemmas.{erase-twice}
use Rattle.lio_calculus.proofs.EnabledLemmas.{can-absent, can-task, task-seen, task-unseen}
use Rattle.lio_calculus.proofs.InvisibleLemmas.{visit-move}
use Rattle.lio_calculus_runs.specs.Rounds.{IsComplete}
use Rattle.lio_calculus_runs.proofs.AfterLemmas.{Changed, Elsewhere, Here, changed, task-met}
use Rattle.lio_calculus_runs.proofs.LowTurnLemmas.{LowParts, low-none, low-parts}
use Rattle.lio_erasure.specs.Turn.{LacksRelease}
use Rattle.lio_erasure.proofs.CellLemmas.{cell-erased, task-hidden}
use Rattle.lio_audit.proofs.LowRunLemmas.{low-first, low_run-nothing}
use Rattle.lio_audit.proofs.ToldLemmas.{low-takes}

-- a plan has a move that needs a content, over these cells
record Needs (observer : Label) (look : ℕ → Cell) (p : Plan) : Type 0 where
  move : Move
  moves : move_of look p ≡ Some move
  needs : opened observer move.act move.reply [] ≡ None

-- an act that is no release and no exposure needs none
needs-release : (observer : Label) (look other : ℕ → Cell) (asked : Act) (target : Target) (onward : Onward) → opened observer asked (answer (met target (look (number_of target)).state) asked) [] ≡ None → Needs observer other (Visit asked target onward)
unfolding opened answer
needs-release observer look other (act.Release source to power content) target onward needs = record {
  move = record { act = act.Release source to power content; target = Some target; reply = answer (met target (other (number_of target)).state) (act.Release source to power content); onward = onward };
  moves = refl;
  needs = needs;
}
needs-release observer look other (act.Expose source to power content) target onward needs = record {
  move = record { act = act.Expose source to power content; target = Some target; reply = answer (met target (other (number_of target)).state) (act.Expose source to power content); onward = onward };
  moves = refl;
  needs = needs;
}
needs-release observer look other asked target onward needs = absurd (cc)

-- whether a move needs a content doesn't depend on the cells
needs-elsewhere : (observer : Label) (look other : ℕ → Cell) (p : Plan) → Needs observer look p → Needs observer other p
needs-elsewhere observer look other Over n = let none : None ≡ Some n.move = n.moves in absurd (cc)
needs-elsewhere observer look other (Own asked reply onward) n = record { move = n.move; moves = n.moves; needs = n.needs }
needs-elsewhere observer look other (Visit asked target onward) n =
    let made : Move = record { act = asked; target = Some target; reply = answer (met target (look (number_of target)).state) asked; onward = onward } in
    let same : made ≡ n.move = visit-move asked target onward (waits asked && not (ready (met target (look (number_of target)).state) asked)) made n.move n.moves in
    needs-release observer look other asked target onward (ap (λ (m : Move). opened observer m.act m.reply []) same ∙ n.needs)

-- a task lacks a content
record Lacking (observer : Label) (c : Configuration) (k : ℕ) : Type 0 where
  task : TaskState
  is_task : IsTaskOf c k task
  needs : Needs observer (cell_at c) (plan c.program task)

lacking : (observer : Label) (c : Configuration) (k : ℕ) → can c k ≡ true → low observer 0 c k [] ≡ None → Lacking observer c k
unfolding low
lacking observer c k moves none = by (cell_at c k).task refl
  where
    opening : (task : TaskState) (move : Move) (o : Option Opened) → IsTaskOf c k task → move_of (cell_at c) (plan c.program task) ≡ Some move → opened observer move.act move.reply [] ≡ o
        → option_map (low_with observer 0 c k task move) o ≡ None → Lacking observer c k
    opening task move None is m e n = record { task = task; is_task = is; needs = record { move = move; moves = m; needs = e } }
    opening task move (Some o) is m e n = absurd (cc)

    moving : (task : TaskState) (m : Option Move) → IsTaskOf c k task → move_of (cell_at c) (plan c.program task) ≡ m
        → option_and_then (λ move. option_map (low_with observer 0 c k task move) (opened observer move.act move.reply [])) m ≡ None → Lacking observer c k
    moving task None is m n = absurd (true≢false (sym moves ∙ can-task c k task is ∙ ap (λ (x : Option Move). is_some x) m))
    moving task (Some move) is m n = opening task move (opened observer move.act move.reply []) is m refl n

    by : (t : Option TaskState) → (cell_at c k).task ≡ t → Lacking observer c k
    by None is = absurd (true≢false (sym moves ∙ can-absent c k is))
    by (Some task) is =
        moving task (move_of (cell_at c) (plan c.program task)) is refl (sym (ap (λ (t : Option TaskState). option_and_then (low_turn observer 0 c k []) t) is) ∙ none)

-- it takes no turn with none left
lacking-none : (observer : Label) (c : Configuration) (k : ℕ) → Lacking observer c k → low observer 0 c k [] ≡ None
unfolding low
lacking-none observer c k l =
    ap (option_and_then (low_turn observer 0 c k [])) l.is_task
    ∙ ap (option_and_then (λ m. option_map (low_with observer 0 c k l.task m) (opened observer m.act m.reply []))) l.needs.moves
    ∙ ap (option_map (low_with observer 0 c k l.task l.needs.move)) l.needs.needs

-- but it can
lacking-can : (observer : Label) (c : Configuration) (k : ℕ) → Lacking observer c k → can c k ≡ true
lacking-can observer c k l = can-task c k l.task l.is_task ∙ ap (λ (x : Option Move). is_some x) l.needs.moves

-- the task of another number after a move
other-after : (c : Configuration) (j k : ℕ) (actor task : TaskState) (move : Move) → (k ≡ j → ⊥) → IsTaskOf c k task → IsTaskOf (after c j actor move) k task
other-after c j k actor task move apart is = by (changed between j (actor_after actor move (cell_at between j)) k)
  where
    between : Configuration
    between = target_after c actor.label move.act move.target

    by : Changed between j (actor_after actor move (cell_at between j)) k → IsTaskOf (after c j actor move) k task
    by (Here e h) = absurd (apart e)
    by (Elsewhere h) = ap (λ (x : Cell). x.task) h ∙ task-met c k task actor.label move.act move.target is

same-program : (c : Configuration) (label : Label) (asked : Act) (target : Option Target) → (target_after c label asked target).program ≡ c.program
same-program c label asked None = refl
same-program c label asked (Some target) = by (is_met target (cell_at c (number_of target)).state)
  where
    by : (b : Bool) → (if b then with_cell c (number_of target) (met_after c.program label asked (cell_at c (number_of target))) else c).program ≡ c.program
    by true = refl
    by false = refl

-- a task that an observer sees in an erased configuration is as the observer sees it
hidden-task : (observer : Label) (c : Configuration) (k : ℕ) (task : TaskState) → erase observer c ≡ c → IsTaskOf c k task → (flows task.label observer ≡ true) × (hide_task observer task ≡ task)
hidden-task observer c k task erased is =
    let cell : option_map (hide_task observer) (cell_at c k).task ≡ (cell_at c k).task = ap (λ (x : Cell). x.task) (task-hidden observer (cell_at c k) task (cell-erased observer c k erased) is) in
    let same : Some (hide_task observer task) ≡ Some task = ap (option_map (hide_task observer)) (sym is) ∙ cell ∙ is in
    let hidden : hide_task observer task ≡ task = cc in
    (seen (flows task.label observer) refl, hidden)
  where
    seen : (b : Bool) → flows task.label observer ≡ b → flows task.label observer ≡ true
    seen true e = e
    seen false e =
        let none : Some task ≡ None = sym is ∙ ap (λ (d : Configuration). (cell_at d k).task) (sym erased) ∙ task-unseen observer c k task is e in
        absurd (cc)

-- a turn of another task, with no content left
lacking-after : (observer : Label) (ticket : ℕ) (c : Configuration) (j k : ℕ) (turn : LowTurn) → erase observer c ≡ c → low observer ticket c j [] ≡ Some turn → Lacking observer c k → Lacking observer turn.next k
lacking-after observer ticket c j k turn erased takes l = subst (λ (t : LowTurn). Lacking observer t.next k) p.is_turn (record {
  task = l.task;
  is_task = there;
  needs = subst (λ (q : Plan). Needs observer (cell_at (low_with observer ticket c j p.task p.move p.o).next) q)
      (ap (λ (g : Program). plan g l.task) (sym (same-program c p.task.label p.o.act p.move.target)))
      (needs-elsewhere observer (cell_at c) (cell_at (low_with observer ticket c j p.task p.move p.o).next) (plan c.program l.task) l.needs);
})
  where
    p : LowParts observer ticket c j [] turn
    p = low-parts observer ticket c j [] turn takes

    apart : k ≡ j → ⊥
    apart e =
        let stays : low observer ticket c j [] ≡ None = low-none observer 0 ticket c j [] (subst (λ (n : ℕ). low observer 0 c n [] ≡ None) e (lacking-none observer c k l)) in
        let clash : None ≡ Some turn = sym stays ∙ takes in
        absurd (cc)

    moved : Configuration
    moved = after c j p.task (record p.move { act = p.o.act })

    two : (flows l.task.label observer ≡ true) × (hide_task observer l.task ≡ l.task)
    two = hidden-task observer c k l.task erased l.is_task

    there : IsTaskOf (erase observer moved) k l.task
    there =
        task-seen observer moved k l.task (other-after c j k p.task l.task (record p.move { act = p.o.act }) apart l.is_task) two.0
        ∙ ap (λ (t : TaskState). Some t) two.1

next-erased : (observer : Label) (ticket : ℕ) (c : Configuration) (k : ℕ) (contents : List Content) (turn : LowTurn) → low observer ticket c k contents ≡ Some turn → erase observer turn.next ≡ turn.next
next-erased observer ticket c k contents turn takes =
    let p = low-parts observer ticket c k contents turn takes in
    subst (λ (t : LowTurn). erase observer t.next ≡ t.next) p.is_turn (erase-twice observer (after c k p.task (record p.move { act = p.o.act })))

nil-last : (xs ys : List Content) → [] ≡ xs ++ ys → ys ≡ []
nil-last [] ys is = sym is
nil-last (x ∷ xs) ys is = absurd (cc)

-- so to the end of a run with none left it can take its turn
lacking-last : (observer : Label) (ticket : ℕ) (c : Configuration) (ks : List ℕ) (k : ℕ) (ran : LowRan) → erase observer c ≡ c → low_run observer ticket c ks [] ≡ Some ran → Lacking observer c k → can ran.last k ≡ true
lacking-last observer ticket c [] k ran erased is l =
    let none : LowRan = record { entries = []; last = c; left = [] } in
    let begun : Some none ≡ Some ran = sym (low_run-nothing observer ticket c []) ∙ is in
    let same : none ≡ ran = cc in
    subst (λ (r : LowRan). can r.last k ≡ true) same (lacking-can observer c k l)
lacking-last observer ticket c (j ∷ ks) k ran erased is l =
    let f = low-first observer ticket c j ks [] ran is in
    let t = low-takes observer ticket c j [] f.turn f.is_step in
    let left : f.turn.left ≡ [] = nil-last t.0 f.turn.left t.1 in
    let rest : low_run observer (ticket + 1) f.turn.next ks [] ≡ Some f.rest = subst (λ (cs : List Content). low_run observer (ticket + 1) f.turn.next ks cs ≡ Some f.rest) left f.is_rest in
    subst (λ (r : LowRan). can r.last k ≡ true) (sym f.is_run)
    (lacking-last observer (ticket + 1) f.turn.next ks k f.rest (next-erased observer ticket c j [] f.turn f.is_step) rest (lacking-after observer ticket c j k f.turn erased f.is_step l))

-- a run of two parts: the first is the same wherever it ends
record Further (observer : Label) (ticket : ℕ) (one : LowRan) (later : List ℕ) (ran : LowRan) : Type 0 where
  rest : LowRan
  goes : low_run observer ticket one.last later one.left ≡ Some rest
  last : ran.last ≡ rest.last

further : (observer : Label) (ticket : ℕ) (c : Configuration) (before later : List ℕ) (contents : List Content) (one ran : LowRan) → low_run observer ticket c before contents ≡ Some one
    → low_run observer ticket c (before ++ later) contents ≡ Some ran → (n : ℕ) × Further observer n one later ran
further observer ticket c [] later contents one ran first whole =
    let none : LowRan = record { entries = []; last = c; left = contents } in
    let begun : Some none ≡ Some one = sym (low_run-nothing observer ticket c contents) ∙ first in
    let same : none ≡ one = cc in
    (ticket, subst (λ (o : LowRan). Further observer ticket o later ran) same (record { rest = ran; goes = whole; last = refl }))
further observer ticket c (k ∷ before) later contents one ran first whole =
    let f = low-first observer ticket c k before contents one first in
    let g = low-first observer ticket c k (before ++ later) contents ran whole in
    let both : Some f.turn ≡ Some g.turn = sym f.is_step ∙ g.is_step in
    let same : f.turn ≡ g.turn = cc in
    let rest : low_run observer (ticket + 1) f.turn.next (before ++ later) f.turn.left ≡ Some g.rest =
    subst (λ (t : LowTurn). low_run observer (ticket + 1) t.next (before ++ later) t.left ≡ Some g.rest) (sym same) g.is_rest in
    let more = further observer (ticket + 1) f.turn.next before later f.turn.left f.rest g.rest f.is_rest rest in (
      more.0,
      subst (λ (o : LowRan). Further observer more.0 o later ran) (sym f.is_run) (record {
        rest = more.1.rest;
        goes = more.1.goes;
        last = ap (λ (r : LowRan). r.last) g.is_run ∙ more.1.last;
      }),
    )

run-erased : (observer : Label) (ticket : ℕ) (c : Configuration) (ks : List ℕ) (contents : List Content) (ran : LowRan) → erase observer c ≡ c → low_run observer ticket c ks contents ≡ Some ran → erase observer ran.last ≡ ran.last
run-erased observer ticket c [] contents ran erased is =
    let none : LowRan = record { entries = []; last = c; left = contents } in
    let begun : Some none ≡ Some ran = sym (low_run-nothing observer ticket c contents) ∙ is in
    let same : none ≡ ran = cc in
    subst (λ (r : LowRan). erase observer r.last ≡ r.last) same erased
run-erased observer ticket c (k ∷ ks) contents ran erased is =
    let f = low-first observer ticket c k ks contents ran is in
    subst (λ (r : LowRan). erase observer r.last ≡ r.last) (sym f.is_run)
    (run-erased observer (ticket + 1) f.turn.next ks f.turn.left f.rest (next-erased observer ticket c k contents f.turn f.is_step) f.is_rest)

-- so in a run to the end no task lacks a content before
pub complete-lacks_none : (observer : Label) (c : Configuration) (before later : List ℕ) (contents : List Content) (one ran : LowRan) (k : ℕ) → erase observer c ≡ c → low_run observer 0 c before contents ≡ Some one
    → low_run observer 0 c (before ++ later) contents ≡ Some ran → IsComplete ran.last → LacksRelease observer one.last k one.left → ⊥
complete-lacks_none observer c before later contents one ran k erased first whole complete lacks =
    let more = further observer 0 c before later contents one ran first whole in
    let none : low observer 0 one.last k [] ≡ None = subst (λ (cs : List Content). low observer 0 one.last k cs ≡ None) lacks.none_left lacks.no_turn in
    let goes : low_run observer more.0 one.last later [] ≡ Some more.1.rest = subst (λ (cs : List Content). low_run observer more.0 one.last later cs ≡ Some more.1.rest) lacks.none_left more.1.goes in
    let still : can more.1.rest.last k ≡ true =
    lacking-last observer more.0 one.last later k more.1.rest (run-erased observer 0 c before contents one erased first) goes (lacking observer one.last k lacks.can_move none) in
    absurd (true≢false (sym still ∙ ap (λ (d : Configuration). can d k) (sym more.1.last) ∙ complete k))
