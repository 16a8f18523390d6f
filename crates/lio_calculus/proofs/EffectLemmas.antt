-- What a turn makes of each cell, and the step of an entry.
use Rattle.std.proofs.Common.{◌≡◌, ◌∙◌, refl, sym, ap, subst, ℕ, ◌<◌, ◌==◌, ◌⊎◌, inl, inr, arith, Bool, true, false, true≢false, ◌||◌, ◌&&◌, not, if◌then◌else◌, length, Option, Some, None}
use Rattle.std.specs.Prelude.{option_and_then, option_map}
use Rattle.std.specs.Option.{option_map_or}
use Rattle.std.proofs.lemmas.Bool.Decides.{nat_tests}
use Rattle.std.proofs.lemmas.List.{ext_get_or, get_or-set_same, get_or-set_other, length-set, set_comm}
use Rattle.lio_values.specs.declared.act.Act.{Act}
use Rattle.lio_values.specs.declared.entry.Entry.{Entry}
use Rattle.lio_cells.specs.declared.state.State.TheVariants.{Absent}
use Rattle.lio_cells.specs.State.{ready}
use Rattle.lio_calculus.specs.Task.{TaskState}
use Rattle.lio_calculus.specs.Going.{Onward, gone_on}
use Rattle.lio_calculus.specs.Plan.{Program, Plan, Over, Own, Visit, Target, plan}
use Rattle.lio_calculus.specs.Step.{Cell, Configuration, Move, Turn, actor_after, after, blank, cell_at, entry_of, met, move_of, number_of, step, turn_of, waits, with_cell}
use Rattle.lio_calculus.specs.Sound.{IsSound, IsTaskOf}
use Rattle.lio_calculus.specs.Locality.{ChangesTwoCells}
use Rattle.lio_calculus.specs.Meeting.{MeetsNode}
use Rattle.lio_calculus.specs.Effect.{StepIsItsEntry, acted, entered, entry_in, is_target, resumed_by, served}
use Rattle.lio_calculus.proofs.LocalityLemmas.{step_changes_two_cells}
use Rattle.lio_calculus.proofs.MeetingLemmas.{visit_meets_node}
use Rattle.lio_calculus.proofs.SoundLemmas.{inside, task-there}
use Rattle.lio_calculus.proofs.TurnParts.{made_of, over-moves, own-moves, own_move, parts, visit-moves, visit_move}

is-same : (i j : ℕ) → i ≡ j → (i == j) ≡ true
is-same i j e = grind (arith, nat_tests)

is-other : (i j : ℕ) → (i ≡ j → ⊥) → (i == j) ≡ false
is-other i j e = grind (arith, nat_tests)

same-or-other : (i j : ℕ) → (i ≡ j) ⊎ (i ≡ j → ⊥)
same-or-other i j = grind (arith, nat_tests)

-- a cell by what the entry shows of its number
at-actor : (program : Program) (n : ℕ) (entry : Entry) (cell : Cell) → (entry.actor == n) ≡ true → acted program entry cell ≡ entered program n entry cell
unfolding entered
at-actor program n entry cell e = by (entry.actor == n) (is_target n entry) e
  where
    by : (actor target : Bool) → actor ≡ true → acted program entry cell ≡ (if actor || target then (if actor then acted program entry cell else served program entry cell) else cell)
    by true target e = refl
    by false target e = absurd (true≢false (sym e))

at-target : (program : Program) (n : ℕ) (entry : Entry) (cell : Cell) → (entry.actor == n) ≡ false → is_target n entry ≡ true → served program entry cell ≡ entered program n entry cell
unfolding entered
at-target program n entry cell other e = by (entry.actor == n) (is_target n entry) other e
  where
    by : (actor target : Bool) → actor ≡ false → target ≡ true → served program entry cell ≡ (if actor || target then (if actor then acted program entry cell else served program entry cell) else cell)
    by true target other e = absurd (true≢false other)
    by false true other e = refl
    by false false other e = absurd (true≢false (sym e))

elsewhere : (program : Program) (n : ℕ) (entry : Entry) (cell : Cell) → (entry.actor == n) ≡ false → is_target n entry ≡ false → cell ≡ entered program n entry cell
unfolding entered
elsewhere program n entry cell other e = by (entry.actor == n) (is_target n entry) other e
  where
    by : (actor target : Bool) → actor ≡ false → target ≡ false → cell ≡ (if actor || target then (if actor then acted program entry cell else served program entry cell) else cell)
    by true target other e = absurd (true≢false other)
    by false true other e = absurd (true≢false e)
    by false false other e = refl

shown-as : (n : ℕ) (entry : Entry) (target : Option ℕ) → entry.target ≡ target → is_target n entry ≡ option_map_or (λ m. m == n) target false
shown-as n entry target e = ap (λ (t : Option ℕ). option_map_or (λ m. m == n) t false) e

-- the configuration after an entry that shows its actor alone
pub alone-enters : (c : Configuration) (k n : ℕ) (entry : Entry) (cell : Cell) → k < length c.cells → entry.actor ≡ k → entry.target ≡ None → cell ≡ acted c.program entry (cell_at c k)
    → cell_at (with_cell c k cell) n ≡ entered c.program n entry (cell_at c n)
alone-enters c k n entry cell within actor target is = by (same-or-other n k)
  where
    by : (n ≡ k) ⊎ (n ≡ k → ⊥) → cell_at (with_cell c k cell) n ≡ entered c.program n entry (cell_at c n)
    by (inl e) =
        ap (cell_at (with_cell c k cell)) e ∙ get_or-set_same c.cells k cell blank within ∙ is
        ∙ ap (λ (m : ℕ). acted c.program entry (cell_at c m)) (sym e)
        ∙ at-actor c.program n entry (cell_at c n) (is-same entry.actor n (actor ∙ sym e))
    by (inr other) =
        get_or-set_other c.cells k n cell blank other
        ∙ elsewhere c.program n entry (cell_at c n) (is-other entry.actor n (λ e. other (sym e ∙ actor))) (shown-as n entry None target)

-- and after one that shows a target
pub meeting-enters : (c : Configuration) (k m n : ℕ) (entry : Entry) (one other : Cell) → k < length c.cells → m < length c.cells → (k ≡ m → ⊥) → entry.actor ≡ k → entry.target ≡ Some m
    → one ≡ acted c.program entry (cell_at c k) → other ≡ served c.program entry (cell_at c m) → cell_at (with_cell (with_cell c k one) m other) n ≡ entered c.program n entry (cell_at c n)
meeting-enters c k m n entry one other k_within m_within differ actor target one_is other_is = by (same-or-other n k) (same-or-other n m)
  where
    next : Configuration
    next = with_cell (with_cell c k one) m other

    by : (n ≡ k) ⊎ (n ≡ k → ⊥) → (n ≡ m) ⊎ (n ≡ m → ⊥) → cell_at (with_cell (with_cell c k one) m other) n ≡ entered c.program n entry (cell_at c n)
    by (inl e) o =
        get_or-set_other (with_cell c k one).cells m n other blank (λ f. differ (sym e ∙ f))
        ∙ ap (cell_at (with_cell c k one)) e ∙ get_or-set_same c.cells k one blank k_within ∙ one_is
        ∙ ap (λ (i : ℕ). acted c.program entry (cell_at c i)) (sym e)
        ∙ at-actor c.program n entry (cell_at c n) (is-same entry.actor n (actor ∙ sym e))
    by (inr away) (inl e) =
        ap (cell_at (with_cell (with_cell c k one) m other)) e
        ∙ get_or-set_same (with_cell c k one).cells m other blank (subst (λ (l : ℕ). m < l) (sym (length-set c.cells k one)) m_within) ∙ other_is
        ∙ ap (λ (i : ℕ). served c.program entry (cell_at c i)) (sym e)
        ∙ at-target c.program n entry (cell_at c n) (is-other entry.actor n (λ f. away (sym f ∙ actor))) (shown-as n entry (Some m) target ∙ is-same m n (sym e))
    by (inr away) (inr apart) =
        get_or-set_other (with_cell c k one).cells m n other blank apart ∙ get_or-set_other c.cells k n one blank away
        ∙ elsewhere c.program n entry (cell_at c n) (is-other entry.actor n (λ f. away (sym f ∙ actor))) (shown-as n entry (Some m) target ∙ is-other m n (λ f. apart (sym f)))

-- the actor's cell after a move is what the entry makes of it
actor-acted : (c : Configuration) (k ticket : ℕ) (task : TaskState) (move : Move) → IsTaskOf c k task → resumed_by task move.act move.reply (plan c.program task) ≡ gone_on task move.onward move.act move.reply
    → actor_after task move (cell_at c k) ≡ acted c.program (entry_of ticket k task move) (cell_at c k)
actor-acted c k ticket task move is goes =
    let cell : Option TaskState → Cell = λ t. record (actor_after task move (cell_at c k)) { task = t } in
    ap (λ (t : TaskState). cell (Some t)) (sym goes)
    ∙ ap (λ (t : Option TaskState). cell (option_map (λ (u : TaskState). resumed_by u move.act move.reply (plan c.program u)) t)) (sym is)

-- a visit that is a move finds its node ready
visit-ready : (asked : Act) (state_ready waiting : Bool) (move move' : Move) → (waiting ≡ false → state_ready ≡ true) → (if waiting && not state_ready then None else Some move) ≡ Some move' → state_ready ≡ true
visit-ready asked true waiting move move' else_ready moves = refl
visit-ready asked false true move move' else_ready moves = absurd (cc)
visit-ready asked false false move move' else_ready moves = else_ready refl

visit-enters : (c : Configuration) (k ticket n : ℕ) (task : TaskState) (asked : Act) (target : Target) (onward : Onward) (move : Move) → IsSound c → IsTaskOf c k task → plan c.program task ≡ Visit asked target onward
    → move_of (cell_at c) (Visit asked target onward) ≡ Some move → cell_at (after c k task (visit_move c asked target onward)) n ≡ entered c.program n (entry_of ticket k task (visit_move c asked target onward)) (cell_at c n)
visit-enters c k ticket n task asked target onward move sound is plans moves =
    let m : ℕ = number_of target in
    let step : Move = visit_move c asked target onward in
    let entry : Entry = entry_of ticket k task step in
    let there : MeetsNode c k asked target = visit_meets_node c k task asked target onward sound is plans in
    let met_is : met target (cell_at c m).state ≡ (cell_at c m).state = ap (λ (b : Bool). if b then (cell_at c m).state else Absent) there.met in
    let is_ready : ready (cell_at c m).state asked ≡ true =
    ap (λ s. ready s asked) (sym met_is)
    ∙ visit-ready asked (ready (met target (cell_at c m).state) asked) (waits asked) step move (λ e. ap (λ s. ready s asked) met_is ∙ there.ready e) moves in
    let differ : k ≡ m → ⊥ = there.other is_ready in
    let one : Cell = actor_after task step (cell_at c k) in
    let other : Cell = served c.program entry (cell_at c m) in
    let between : Configuration = with_cell c m other in
    let goes : resumed_by task asked step.reply (plan c.program task) ≡ gone_on task onward asked step.reply = ap (resumed_by task asked step.reply) plans in
    ap (λ (b : Bool). let d : Configuration = if b then between else c in cell_at (with_cell d k (actor_after task step (cell_at d k))) n) there.met
    ∙ ap (λ (cell : Cell). cell_at (with_cell between k (actor_after task step cell)) n) (get_or-set_other c.cells m k other blank differ)
    ∙ ap (λ cells. let d : Configuration = record c { cells = cells } in cell_at d n) (set_comm c.cells m k other one (λ e. differ (sym e)))
    ∙ meeting-enters c k m n entry one other (inside c k (task-there c k task is)) there.within differ refl refl (actor-acted c k ticket task step is goes) refl

pub step_is_its_entry : StepIsItsEntry
step_is_its_entry ticket c k turn sound steps n =
    let p = parts ticket c k turn steps in
    subst (λ (t : Turn). cell_at t.next n ≡ entered c.program n t.entry (cell_at c n)) p.made (by p.task p.is p.move (plan c.program p.task) refl p.moves)
  where
    by : (task : TaskState) → IsTaskOf c k task → (move : Move) → (p : Plan) → plan c.program task ≡ p → move_of (cell_at c) p ≡ Some move
        → cell_at (after c k task move) n ≡ entered c.program n (entry_of ticket k task move) (cell_at c n)
    by task is move Over plans moves = absurd (over-moves c move moves)
    by task is move (Own asked reply onward) plans moves =
        subst (λ (m : Move). cell_at (after c k task m) n ≡ entered c.program n (entry_of ticket k task m) (cell_at c n)) (own-moves c asked reply onward move moves)
        (alone-enters c k n (entry_of ticket k task (own_move asked reply onward)) (actor_after task (own_move asked reply onward) (cell_at c k)) (inside c k (task-there c k task is)) refl refl
        (actor-acted c k ticket task (own_move asked reply onward) is (ap (resumed_by task asked reply) plans)))
    by task is move (Visit asked target onward) plans moves =
        subst (λ (m : Move). cell_at (after c k task m) n ≡ entered c.program n (entry_of ticket k task m) (cell_at c n)) (visit-moves c asked target onward move moves)
        (visit-enters c k ticket n task asked target onward move sound is plans moves)

-- the entry of a task's move
pub entry-of-move : (c : Configuration) (k ticket : ℕ) (task : TaskState) (move : Option Move) → IsTaskOf c k task → move_of (cell_at c) (plan c.program task) ≡ move
    → entry_in c.program (cell_at c) ticket k ≡ option_map (entry_of ticket k task) move
unfolding entry_in
entry-of-move c k ticket task move is moves =
    ap (option_and_then (λ (t : TaskState). option_map (entry_of ticket k t) (move_of (cell_at c) (plan c.program t)))) is ∙ ap (option_map (entry_of ticket k task)) moves

-- a step shows an entry exactly where there is one
entry-shown : (ticket : ℕ) (c : Configuration) (k : ℕ) → entry_in c.program (cell_at c) ticket k ≡ option_map (λ turn. turn.entry) (step ticket c k)
unfolding step entry_in
entry-shown ticket c k = by (cell_at c k).task
  where
    moved : (task : TaskState) (m : Option Move) → option_map (entry_of ticket k task) m ≡ option_map (λ (turn : Turn). turn.entry) (option_map (made_of ticket c k task) m)
    moved task None = refl
    moved task (Some move) = refl

    by : (t : Option TaskState) → option_and_then (λ (task : TaskState). option_map (entry_of ticket k task) (move_of (cell_at c) (plan c.program task))) t
        ≡ option_map (λ (turn : Turn). turn.entry) (option_and_then (turn_of ticket c k) t)
    by None = refl
    by (Some task) = moved task (move_of (cell_at c) (plan c.program task))

some-same : (a b : Entry) → Some a ≡ Some b → a ≡ b
some-same a b e = cc

-- where there is an entry, and each cell is what it makes of it, the step is taken
pub step-of-entry : (ticket : ℕ) (c next : Configuration) (k : ℕ) (entry : Entry) → IsSound c → entry_in c.program (cell_at c) ticket k ≡ Some entry → next.program ≡ c.program → length next.cells ≡ length c.cells
    → ((n : ℕ) → cell_at next n ≡ entered c.program n entry (cell_at c n)) → step ticket c k ≡ Some (record { entry = entry; next = next })
step-of-entry ticket c next k entry sound shown program size cells = by (step ticket c k) refl (sym (entry-shown ticket c k) ∙ shown)
  where
    by : (t : Option Turn) → step ticket c k ≡ t → option_map (λ (turn : Turn). turn.entry) t ≡ Some entry → step ticket c k ≡ Some (record { entry = entry; next = next })
    by None steps e = absurd (cc)
    by (Some turn) steps e =
        let is : turn.entry ≡ entry = some-same turn.entry entry e in
        let changes : ChangesTwoCells c k turn = step_changes_two_cells ticket c k turn steps in
        let same : turn.next.cells ≡ next.cells = ext_get_or blank turn.next.cells next.cells (changes.size ∙ sym size)
        (λ n within. step_is_its_entry ticket c k turn sound steps n ∙ ap (λ (shows : Entry). entered c.program n shows (cell_at c n)) is ∙ sym (cells n)) in
        let here : turn.next.program ≡ next.program = changes.program ∙ sym program in
        steps ∙ (λ i. let next : Configuration = record { program = here i; cells = same i } in let t : Turn = record { entry = is i; next = next } in Some t)
