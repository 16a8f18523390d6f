-- A turn of a task below the observer is the erased turn, with the released content threaded.
use Rattle.std.proofs.Common.{◌≡◌, ◌∙◌, refl, sym, ap, subst, ℕ, Bool, true, false, ◌&&◌, not, if◌then◌else◌, List, ◌++◌, Option, Some, None, option_and_then}
use Rattle.std.specs.Option.{option_map, option_map_or}
use Rattle.std.proofs.Math.Seq.{map-set_same}
use Rattle.lio_labels.specs.declared.label.Label.{Label}
use Rattle.lio_labels.specs.Flow.{flows}
use Rattle.lio_values.specs.declared.value.Content.{Content}
use Rattle.lio_values.specs.declared.value.Handle.{Handle}
use Rattle.lio_values.specs.declared.act.Act.{Act}
use Rattle.lio_values.specs.declared.act.Act.TheVariants as act
use Rattle.lio_values.specs.declared.act.Reply.{Reply}
use Rattle.lio_values.specs.Erasure.{erase_reply, erase_entry}
use Rattle.lio_cells.specs.State.{Kind, Reference, ready, answer}
use Rattle.lio_calculus.specs.Task.{TaskState}
use Rattle.lio_calculus.specs.Plan.{Program, Plan, Over, Own, Visit, Target, Node, New, plan}
use Rattle.lio_calculus.specs.Hiding.{hide_task, hide_asked, hide_onward}
use Rattle.lio_calculus.specs.Step.{Cell, Configuration, blank, cell_at, with_cell, number_of, is_met, met, waits, Move, move_of, met_after, target_after, actor_after, after, Turn, entry_of, turn_of, step}
use Rattle.lio_events.specs.Views.{released_to}
use Rattle.lio_calculus.specs.Erased.{label_of_cell, sees, hide_cell, erase_cell, erase, opened, low_with, low_turn, low}
use Rattle.lio_calculus.specs.Guarded.{IsBefore, IsShown, IsAllowed, IsNoRelease, IsVisitGuarded, IsGuarded}
use Rattle.lio_calculus.proofs.PlanHidden.{plan-hidden}
use Rattle.lio_calculus.proofs.CellLemmas.{is_met-hidden, met_after-hidden}
use Rattle.lio_calculus.proofs.InvisibleLemmas.{sees-task, erase_cell-unseen, erase_cell-seen, other-cell, visit-move}
use Rattle.lio_calculus.proofs.VisibleLemmas.{Appears, Taken, taken, erase_reply-twice}
use Rattle.lio_calculus.proofs.ActorLemmas.{actor-alike}
use Rattle.lio_calculus.proofs.ConfigLemmas.{erase_cell-hidden, erase_cell-blank, erase-twice, cell_at-erased, with_cell-alike}
use Rattle.lio_calculus.proofs.VisitLemmas.{hide_move, low-move}

-- no handle names a cell where nothing is
absent-unnamed : (kind : Kind) (handle : Handle) → is_met (Node kind handle) blank.state ≡ false
absent-unnamed Reference handle = refl
absent-unnamed kind handle = refl

-- a cell that looks as it did
with_cell-same : (observer : Label) (c : Configuration) (n : ℕ) (cell : Cell) → erase_cell observer cell ≡ erase_cell observer (cell_at c n) → erase observer (with_cell c n cell) ≡ erase observer c
with_cell-same observer c n cell same = ap (λ (cells : List Cell). let d : Configuration = record { program = c.program; cells = cells } in d) (map-set_same (erase_cell observer) c.cells n cell blank same)

-- what a cell becomes that is met with hidden values, and looks as what it becomes
met-alike : (observer : Label) (program : Program) (label : Label) (asked : Act) (cell : Cell) → erase_cell observer (met_after program label (hide_asked observer asked) (hide_cell observer cell)) ≡ erase_cell observer (met_after program label asked cell)
met-alike observer program label asked cell = ap (erase_cell observer) (met_after-hidden observer program label asked cell) ∙ erase_cell-hidden observer (met_after program label asked cell)

-- a visit of a new cell
new-alike : (observer : Label) (c : Configuration) (label : Label) (asked : Act) (n : ℕ) → cell_at c n ≡ blank
    → erase observer (target_after (erase observer c) label (hide_asked observer asked) (Some (New n))) ≡ erase observer (target_after c label asked (Some (New n)))
new-alike observer c label asked n empty =
    let low : cell_at (erase observer c) n ≡ blank = cell_at-erased observer c n ∙ ap (erase_cell observer) empty ∙ erase_cell-blank observer in
    ap (λ (x : Cell). erase observer (low_after x)) low
    ∙ with_cell-alike observer (erase observer c) c n (met_after c.program label (hide_asked observer asked) blank) (met_after c.program label asked blank) (erase-twice observer c) (met-alike observer c.program label asked blank)
    ∙ ap (λ (x : Cell). erase observer (real_after x)) (sym empty)
  where
    low_after : Cell → Configuration
    low_after x = if is_met (New n) x.state then with_cell (erase observer c) n (met_after c.program label (hide_asked observer asked) x) else erase observer c

    real_after : Cell → Configuration
    real_after x = if is_met (New n) x.state then with_cell c n (met_after c.program label asked x) else c

-- a visit of a node
node-alike : (observer : Label) (c : Configuration) (label : Label) (asked : Act) (kind : Kind) (handle : Handle) → label_of_cell (cell_at c handle.number) ≡ label_of_cell (met_after c.program label asked (cell_at c handle.number))
    → erase observer (target_after (erase observer c) label (hide_asked observer asked) (Some (Node kind handle))) ≡ erase observer (target_after c label asked (Some (Node kind handle)))
node-alike observer c label asked kind handle keeps =
    ap (λ (x : Cell). erase observer (low_after (is_met (Node kind handle) x.state) x)) (cell_at-erased observer c n) ∙ by_sight (sees observer cell) refl
  where
    n : ℕ
    n = handle.number

    cell : Cell
    cell = cell_at c n

    low_after : Bool → Cell → Configuration
    low_after b x = if b then with_cell (erase observer c) n (met_after c.program label (hide_asked observer asked) x) else erase observer c

    real_after : Bool → Configuration
    real_after b = if b then with_cell c n (met_after c.program label asked cell) else c

    seen : (b : Bool) → erase observer (low_after b (hide_cell observer cell)) ≡ erase observer (real_after b)
    seen false = erase-twice observer c
    seen true = with_cell-alike observer (erase observer c) c n (met_after c.program label (hide_asked observer asked) (hide_cell observer cell)) (met_after c.program label asked cell) (erase-twice observer c) (met-alike observer c.program label asked cell)

    unseen : sees observer cell ≡ false → (b : Bool) → erase observer (real_after b) ≡ erase observer c
    unseen is false = refl
    unseen is true =
        let after_is : sees observer (met_after c.program label asked cell) ≡ false = ap (λ (l : Option Label). option_map_or (λ x. flows x observer) l false) (sym keeps) ∙ is in
        with_cell-same observer c n (met_after c.program label asked cell) (erase_cell-unseen observer (met_after c.program label asked cell) after_is ∙ sym (erase_cell-unseen observer cell is))

    by_sight : (b : Bool) → sees observer cell ≡ b → erase observer (low_after (is_met (Node kind handle) (erase_cell observer cell).state) (erase_cell observer cell)) ≡ erase observer (real_after (is_met (Node kind handle) cell.state))
    by_sight true is =
        ap (λ (x : Cell). erase observer (low_after (is_met (Node kind handle) x.state) x)) (erase_cell-seen observer cell is)
        ∙ ap (λ (b : Bool). erase observer (low_after b (hide_cell observer cell))) (is_met-hidden observer (Node kind handle) cell.state)
        ∙ seen (is_met (Node kind handle) cell.state)
    by_sight false is =
        ap (λ (x : Cell). erase observer (low_after (is_met (Node kind handle) x.state) x)) (erase_cell-unseen observer cell is)
        ∙ ap (λ (b : Bool). erase observer (low_after b blank)) (absent-unnamed kind handle)
        ∙ erase-twice observer c ∙ sym (unseen is (is_met (Node kind handle) cell.state))

-- the target of a visit, in the erased calculus and in the calculus
target-alike : (observer : Label) (c : Configuration) (label : Label) (asked : Act) (target : Target)
    → IsBefore target (cell_at c (number_of target)) (met_after c.program label asked (cell_at c (number_of target)))
    → erase observer (target_after (erase observer c) label (hide_asked observer asked) (Some target)) ≡ erase observer (target_after c label asked (Some target))
target-alike observer c label asked (New n) before = new-alike observer c label asked n before
target-alike observer c label asked (Node kind handle) before = node-alike observer c label asked kind handle before

-- the actor's cell in an erased configuration
actor-seen : (observer : Label) (c : Configuration) (k : ℕ) (task : TaskState) → (cell_at c k).task ≡ Some task → flows task.label observer ≡ true → cell_at (erase observer c) k ≡ hide_cell observer (cell_at c k)
actor-seen observer c k task is visible = cell_at-erased observer c k ∙ erase_cell-seen observer (cell_at c k) (sees-task observer (cell_at c k) task is ∙ visible)

-- a move as the erased calculus takes it
abbrev low_move : Label → Move → Act → Move
low_move observer move seen = record { act = seen; target = move.target; reply = erase_reply observer move.reply; onward = hide_onward observer move.onward }

own-alike : (observer : Label) (c : Configuration) (k : ℕ) (task : TaskState) (move : Move) (seen : Act) → (cell_at c k).task ≡ Some task → flows task.label observer ≡ true → IsAllowed move.act move.onward → Appears observer move.act seen → move.target ≡ None
    → erase observer (after (erase observer c) k (hide_task observer task) (low_move observer move seen)) ≡ erase observer (after c k task move)
own-alike observer c k task move seen is visible allowed appears own =
    ap (λ (t : Option Target). let d : Configuration = target_after (erase observer c) task.label seen t in erase observer (with_cell d k (actor_after (hide_task observer task) (low_move observer move seen) (cell_at d k)))) own
    ∙ with_cell-alike observer (erase observer c) c k (actor_after (hide_task observer task) (low_move observer move seen) (cell_at (erase observer c) k)) (actor_after task move (cell_at c k)) (erase-twice observer c)
    (ap (λ (x : Cell). erase_cell observer (actor_after (hide_task observer task) (low_move observer move seen) x)) (actor-seen observer c k task is visible)
    ∙ actor-alike observer task move (low_move observer move seen) (cell_at c k) allowed appears refl refl)
    ∙ sym (ap (λ (t : Option Target). let d : Configuration = target_after c task.label move.act t in erase observer (with_cell d k (actor_after task move (cell_at d k)))) own)

visit-alike : (observer : Label) (c : Configuration) (k : ℕ) (task : TaskState) (move : Move) (target : Target) → (cell_at c k).task ≡ Some task → flows task.label observer ≡ true → IsVisitGuarded c k task move.act target move.onward → Appears observer move.act (hide_asked observer move.act) → move.target ≡ Some target
    → erase observer (after (erase observer c) k (hide_task observer task) (low_move observer move (hide_asked observer move.act))) ≡ erase observer (after c k task move)
visit-alike observer c k task move target is visible guarded appears to =
    let seen : Act = hide_asked observer move.act in
    let low : Configuration = target_after (erase observer c) task.label seen (Some target) in
    let real : Configuration = target_after c task.label move.act (Some target) in
    let low_cell : cell_at low k ≡ hide_cell observer (cell_at c k) = other-cell (erase observer c) k task.label seen target guarded.other ∙ actor-seen observer c k task is visible in
    let real_cell : cell_at real k ≡ cell_at c k = other-cell c k task.label move.act target guarded.other in
    ap (λ (t : Option Target). let d : Configuration = target_after (erase observer c) task.label seen t in erase observer (with_cell d k (actor_after (hide_task observer task) (low_move observer move seen) (cell_at d k)))) to
    ∙ with_cell-alike observer low real k (actor_after (hide_task observer task) (low_move observer move seen) (cell_at low k)) (actor_after task move (cell_at real k)) (target-alike observer c task.label move.act target guarded.before)
    (ap (λ (x : Cell). erase_cell observer (actor_after (hide_task observer task) (low_move observer move seen) x)) low_cell
    ∙ actor-alike observer task move (low_move observer move seen) (cell_at c k) guarded.allowed appears refl refl
    ∙ ap (λ (x : Cell). erase_cell observer (actor_after task move x)) (sym real_cell))
    ∙ sym (ap (λ (t : Option Target). let d : Configuration = target_after c task.label move.act t in erase observer (with_cell d k (actor_after task move (cell_at d k)))) to)

-- the configuration after a task's turn, as the observer sees it
pub next-alike : (observer : Label) (c : Configuration) (k : ℕ) (task : TaskState) (p : Plan) (move : Move) (seen : Act) → (cell_at c k).task ≡ Some task → flows task.label observer ≡ true → IsGuarded c k task p → move_of (cell_at c) p ≡ Some move
    → Appears observer move.act seen → (IsNoRelease move.act → seen ≡ hide_asked observer move.act)
    → erase observer (after (erase observer c) k (hide_task observer task) (low_move observer move seen)) ≡ erase observer (after c k task move)
next-alike observer c k task Over move seen is visible guarded moves appears same = absurd (cc)
next-alike observer c k task (Own asked reply onward) move seen is visible guarded moves appears same =
    let made : Move = record { act = asked; target = None; reply = reply; onward = onward } in
    let equal : made ≡ move = cc in
    own-alike observer c k task move seen is visible (subst (λ (m : Move). IsAllowed m.act m.onward) equal guarded.allowed) appears (sym (ap (λ (m : Move). m.target) equal))
next-alike observer c k task (Visit asked target onward) move seen is visible guarded moves appears same =
    let made : Move = record { act = asked; target = Some target; reply = answer (met target (cell_at c (number_of target)).state) asked; onward = onward } in
    let equal : made ≡ move = visit-move asked target onward (waits asked && not (ready (met target (cell_at c (number_of target)).state) asked)) made move moves in
    let quiet : IsNoRelease move.act = subst (λ (m : Move). IsNoRelease m.act) equal guarded.quiet in
    let asked_is : seen ≡ hide_asked observer move.act = same quiet in
    subst (λ (a : Act). erase observer (after (erase observer c) k (hide_task observer task) (low_move observer move a)) ≡ erase observer (after c k task move)) (sym asked_is)
    (visit-alike observer c k task move target is visible (subst (λ (m : Move). IsVisitGuarded c k task m.act target m.onward) equal guarded) (subst (λ (a : Act). Appears observer move.act a) asked_is appears) (sym (ap (λ (m : Move). m.target) equal)))

-- what is no release and no exposure shows nothing
quiet-shown : (asked : Act) (reply : Reply) → IsNoRelease asked → IsShown asked reply
quiet-shown (act.Release source target power content) reply quiet = absurd quiet
quiet-shown (act.Expose source target power content) reply quiet = absurd quiet
quiet-shown asked reply quiet = tt

-- what a turn shows of a release
shown-of : (c : Configuration) (k : ℕ) (task : TaskState) (p : Plan) (move : Move) → IsGuarded c k task p → move_of (cell_at c) p ≡ Some move → IsShown move.act move.reply
shown-of c k task Over move guarded moves = absurd (cc)
shown-of c k task (Own asked reply onward) move guarded moves =
    let made : Move = record { act = asked; target = None; reply = reply; onward = onward } in
    let equal : made ≡ move = cc in
    subst (λ (m : Move). IsShown m.act m.reply) equal guarded.shown
shown-of c k task (Visit asked target onward) move guarded moves =
    let made : Move = record { act = asked; target = Some target; reply = answer (met target (cell_at c (number_of target)).state) asked; onward = onward } in
    let equal : made ≡ move = visit-move asked target onward (waits asked && not (ready (met target (cell_at c (number_of target)).state) asked)) made move moves in
    subst (λ (m : Move). IsShown m.act m.reply) equal (quiet-shown asked made.reply guarded.quiet)

-- a turn of a task below the observer is the erased turn: it shows the erased entry, leads to the erased configuration, and takes the content that it releases
pub step-visible : (observer : Label) (ticket : ℕ) (c : Configuration) (k : ℕ) (task : TaskState) (turn : Turn) (rest : List Content) → (cell_at c k).task ≡ Some task → flows task.label observer ≡ true → IsGuarded c k task (plan c.program task) → step ticket c k ≡ Some turn
    → low observer ticket (erase observer c) k (released_to observer turn.entry.act turn.entry.reply ++ rest) ≡ Some (record { entry = erase_entry observer turn.entry; next = erase observer turn.next; left = rest })
unfolding step low
step-visible observer ticket c k task turn rest is visible guarded steps =
    let got : turn_of ticket c k task ≡ Some turn = sym (ap (λ (t : Option TaskState). option_and_then (turn_of ticket c k) t) is) ∙ steps in
    let low_task : (cell_at (erase observer c) k).task ≡ Some (hide_task observer task) = ap (λ (x : Cell). x.task) (actor-seen observer c k task is visible) ∙ ap (option_map (hide_task observer)) is in
    moved (move_of (cell_at c) (plan c.program task)) refl got low_task
  where
    moved : (m : Option Move) → move_of (cell_at c) (plan c.program task) ≡ m → option_map (λ move. record { entry = entry_of ticket k task move; next = after c k task move }) m ≡ Some turn → (cell_at (erase observer c) k).task ≡ Some (hide_task observer task)
        → option_and_then (low_turn observer ticket (erase observer c) k (released_to observer turn.entry.act turn.entry.reply ++ rest)) (cell_at (erase observer c) k).task ≡ Some (record { entry = erase_entry observer turn.entry; next = erase observer turn.next; left = rest })
    moved None moves got low_task = absurd (cc)
    moved (Some move) moves got low_task =
        let made : Turn = record { entry = entry_of ticket k task move; next = after c k task move } in
        let equal : made ≡ turn = cc in
        let opens : Taken observer move.act move.reply rest = taken observer move.act move.reply rest (shown-of c k task (plan c.program task) move guarded moves) in
        let contents : List Content = released_to observer move.act move.reply ++ rest in
        let seen : Move = low_move observer move opens.seen in
        subst (λ (t : Turn). option_and_then (low_turn observer ticket (erase observer c) k (released_to observer t.entry.act t.entry.reply ++ rest)) (cell_at (erase observer c) k).task ≡ Some (record { entry = erase_entry observer t.entry; next = erase observer t.next; left = rest })) equal
        (ap (option_and_then (low_turn observer ticket (erase observer c) k contents)) low_task
        ∙ ap (λ (p : Plan). option_and_then (λ m. option_map (low_with observer ticket (erase observer c) k (hide_task observer task) m) (opened observer m.act m.reply contents)) (move_of (cell_at (erase observer c)) p)) (plan-hidden c.program observer task)
        ∙ ap (λ (m : Option Move). option_and_then (λ n. option_map (low_with observer ticket (erase observer c) k (hide_task observer task) n) (opened observer n.act n.reply contents)) m) (low-move observer c k task (plan c.program task) move visible guarded moves)
        ∙ ap (option_map (low_with observer ticket (erase observer c) k (hide_task observer task) (hide_move observer move))) opens.opens
        ∙ ap Some (λ i. record {
          entry = record { ticket = ticket; actor = k; target = option_map number_of move.target; at = task.label; act = opens.appears.entry i; reply = erase_reply-twice observer move.reply i };
          next = next-alike observer c k task (plan c.program task) move opens.seen is visible guarded moves opens.appears opens.same i;
          left = rest;
        }))
