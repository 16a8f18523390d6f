-- What a turn touches.
use Rattle.std.proofs.Common.{◌≡◌, ◌∙◌, refl, sym, ap, subst, ℕ, zero, suc, ◌⊎◌, inl, inr, arith, Bool, true, false, if◌then◌else◌, List, [], ◌∷◌, length, Option, Some, None}
use Rattle.std.specs.Prelude.{option_and_then, option_map}
use Rattle.std.specs.Option.{option_map_or}
use Rattle.std.specs.List.{slice_set, slice_index_or}
use Rattle.std.proofs.lemmas.List.{length-set, get_or-set_same, get_or-set_other}
use Rattle.lio_labels.specs.declared.label.Label.{Label}
use Rattle.lio_values.specs.declared.fault.Fault.{Fault}
use Rattle.lio_values.specs.declared.value.Content.{Content}
use Rattle.lio_values.specs.declared.value.Value.{Value}
use Rattle.lio_values.specs.declared.act.Act.{Act}
use Rattle.lio_values.specs.declared.act.Act.TheVariants as act
use Rattle.lio_values.specs.declared.act.Reply.{Reply}
use Rattle.lio_values.specs.declared.act.Reply.TheVariants.{Done, Got, Told, Refused}
use Rattle.lio_values.specs.declared.entry.Entry.{Entry}
use Rattle.lio_cells.specs.declared.state.State.{State}
use Rattle.lio_cells.specs.State.{held, full_with, result_of, answer}
use Rattle.lio_syntax.specs.Items.{Item}
use Rattle.lio_calculus.specs.Task.{TaskState}
use Rattle.lio_calculus.specs.Going.{Onward, Throw, gone_on}
use Rattle.lio_calculus.specs.Plan.{Program, Plan, Over, Own, Visit, Target, plan}
use Rattle.lio_calculus.specs.Step.{Cell, Configuration, blank, cell_at, with_cell, number_of, is_met, met, visit, Move, move_of, met_after, actor_after, target_after, after, Turn, entry_of, turn_of, step}
use Rattle.lio_calculus.specs.Sound.{IsTaskOf}
use Rattle.lio_calculus.specs.Locality.{ChangesTwoCells, StepChangesTwoCells, visited, SameWhereItLooks, StepLooksAtTwoCells, StepMakesTheSameCells, after_refusal, ChangesActorAlone, RefusedTurnChangesActorAlone}
use Rattle.lio_calculus.proofs.Outcome.{Reads}
use Rattle.lio_calculus.proofs.Outcome as out
use Rattle.lio_calculus.proofs.PlanCases.{ItemsCase, IsMistyped, Does, Visits, plan-by}
use Rattle.lio_calculus.proofs.SoundLemmas.{inside, task-there}
use Rattle.lio_calculus.proofs.PlanKept.{KeptPlan, is_ended, plan-kept}
use Rattle.lio_calculus.proofs.MeetingLemmas.{actor-unchanged}
use Rattle.lio_calculus.proofs.TurnParts.{made_of, parts, own_move, own-moves, visit-moves, over-moves}

-- cells that the target's isn't
target-elsewhere : (c : Configuration) (label : Label) (asked : Act) (target : Option Target) (n : ℕ) → (option_map number_of target ≡ Some n → ⊥) → cell_at (target_after c label asked target) n ≡ cell_at c n
target-elsewhere c label asked None n other = refl
target-elsewhere c label asked (Some target) n other = by (is_met target (cell_at c (number_of target)).state)
  where
    by : (b : Bool) → cell_at (if b then with_cell c (number_of target) (met_after c.program label asked (cell_at c (number_of target))) else c) n ≡ cell_at c n
    by true = get_or-set_other c.cells (number_of target) n _ blank (λ e. other (ap Some (sym e)))
    by false = refl

target-size : (c : Configuration) (label : Label) (asked : Act) (target : Option Target) → length (target_after c label asked target).cells ≡ length c.cells
target-size c label asked None = refl
target-size c label asked (Some target) = by (is_met target (cell_at c (number_of target)).state)
  where
    by : (b : Bool) → (let d : Configuration = if b then with_cell c (number_of target) (met_after c.program label asked (cell_at c (number_of target))) else c in length d.cells ≡ length c.cells)
    by true = length-set c.cells (number_of target) _
    by false = refl

target-program : (c : Configuration) (label : Label) (asked : Act) (target : Option Target) → (target_after c label asked target).program ≡ c.program
target-program c label asked None = refl
target-program c label asked (Some target) = by (is_met target (cell_at c (number_of target)).state)
  where
    by : (b : Bool) → (let d : Configuration = if b then with_cell c (number_of target) (met_after c.program label asked (cell_at c (number_of target))) else c in d.program ≡ c.program)
    by true = refl
    by false = refl

-- a node refuses nothing
found-unrefused : {X : Type 0} (into : X → Reply) (o : Option X) (fault : Fault) → ((x : X) → into x ≡ Refused fault → ⊥) → option_map_or into o Done ≡ Refused fault → ⊥
found-unrefused into None fault none e = cc
found-unrefused into (Some x) fault none e = none x e

got-unrefused : (fault : Fault) (value : Value) → Got value ≡ Refused fault → ⊥
got-unrefused fault value e = cc

told-unrefused : (fault : Fault) (content : Content) → Told content ≡ Refused fault → ⊥
told-unrefused fault content e = cc

answer-unrefused : (state : State) (asked : Act) (fault : Fault) → answer state asked ≡ Refused fault → ⊥
unfolding answer
answer-unrefused state act.Read fault e = found-unrefused Got (held state) fault (got-unrefused fault) e
answer-unrefused state act.Take fault e = found-unrefused Got (full_with state) fault (got-unrefused fault) e
answer-unrefused state act.Wait fault e = found-unrefused Told (result_of state) fault (told-unrefused fault) e
answer-unrefused state asked fault e = absurd (cc)

move-untargeted : (c : Configuration) (p : Plan) (move : Move) (fault : Fault) → move_of (cell_at c) p ≡ Some move → move.reply ≡ Refused fault → option_map number_of move.target ≡ None
move-untargeted c Over move fault moves refused = absurd (over-moves c move moves)
move-untargeted c (Own asked reply onward) move fault moves refused =
    ap (λ (m : Move). option_map number_of m.target) (sym (own-moves c asked reply onward move moves))
move-untargeted c (Visit asked target onward) move fault moves refused =
    absurd (answer-unrefused (met target (cell_at c (number_of target)).state) asked fault (ap (λ (m : Move). m.reply) (visit-moves c asked target onward move moves) ∙ refused))

move-changes : (ticket : ℕ) (c : Configuration) (k : ℕ) (task : TaskState) (move : Move) → move_of (cell_at c) (plan c.program task) ≡ Some move → ChangesTwoCells c k (made_of ticket c k task move)
move-changes ticket c k task move moves =
    let between : Configuration = target_after c task.label move.act move.target in
    record {
      elsewhere = λ n p q. get_or-set_other between.cells k n (actor_after task move (cell_at between k)) blank p ∙ target-elsewhere c task.label move.act move.target n q;
      actor = refl;
      program = target-program c task.label move.act move.target;
      size = length-set between.cells k (actor_after task move (cell_at between k)) ∙ target-size c task.label move.act move.target;
      refused = λ fault e. move-untargeted c (plan c.program task) move fault moves e;
    }

pub step_changes_two_cells : StepChangesTwoCells
step_changes_two_cells ticket c k turn steps =
    let p = parts ticket c k turn steps in
    subst (ChangesTwoCells c k) p.made (move-changes ticket c k p.task p.move p.moves)

-- the move goes by the cell that is visited
move-same : (c d : Configuration) (p : Plan) → ((n : ℕ) → visited p ≡ Some n → cell_at c n ≡ cell_at d n) → move_of (cell_at c) p ≡ move_of (cell_at d) p
move-same c d Over same = refl
move-same c d (Own asked reply onward) same = refl
move-same c d (Visit asked target onward) same = ap (λ (cell : Cell). visit asked target onward (met target cell.state)) (same (number_of target) refl)

-- the entry of a step
abbrev entry : Turn → Entry
entry turn = turn.entry

entry-task : (ticket : ℕ) (c : Configuration) (k : ℕ) (task : TaskState) → IsTaskOf c k task → option_map (λ turn. turn.entry) (step ticket c k) ≡ option_map (entry_of ticket k task) (move_of (cell_at c) (plan c.program task))
unfolding step
entry-task ticket c k task is =
    ap (λ (t : Option TaskState). option_map entry (option_and_then (turn_of ticket c k) t)) is ∙ by (move_of (cell_at c) (plan c.program task))
  where
    by : (m : Option Move) → option_map entry (option_map (made_of ticket c k task) m) ≡ option_map (entry_of ticket k task) m
    by None = refl
    by (Some move) = refl

entry-absent : (ticket : ℕ) (c : Configuration) (k : ℕ) → (cell_at c k).task ≡ None → option_map (λ turn. turn.entry) (step ticket c k) ≡ None
unfolding step
entry-absent ticket c k is = ap (λ (t : Option TaskState). option_map entry (option_and_then (turn_of ticket c k) t)) is

pub step_looks_at_two_cells : StepLooksAtTwoCells
step_looks_at_two_cells ticket c d k same = by (cell_at c k).task refl
  where
    there : (t : Option TaskState) → (cell_at c k).task ≡ t → (cell_at d k).task ≡ t
    there t is = sym (ap (λ (cell : Cell). cell.task) same.actor) ∙ is

    by : (t : Option TaskState) → (cell_at c k).task ≡ t → option_map (λ turn. turn.entry) (step ticket c k) ≡ option_map (λ turn. turn.entry) (step ticket d k)
    by None is = entry-absent ticket c k is ∙ sym (entry-absent ticket d k (there None is))
    by (Some task) is =
        entry-task ticket c k task is
        ∙ ap (option_map (entry_of ticket k task)) (move-same c d (plan c.program task) (λ n e. same.target task n is e) ∙ ap (λ (program : Program). move_of (cell_at d) (plan program task)) same.program)
        ∙ sym (entry-task ticket d k task (there (Some task) is))

-- two lists of cells with the same cell under one number
set-same : (xs ys : List Cell) (i n : ℕ) (x y : Cell) → length xs ≡ length ys → x ≡ y → ((n ≡ i → ⊥) → slice_index_or xs n blank ≡ slice_index_or ys n blank)
    → slice_index_or (slice_set xs i x) n blank ≡ slice_index_or (slice_set ys i y) n blank
set-same [] [] i n x y size same other = refl
set-same [] (b ∷ ys) i n x y size same other = absurd (cc)
set-same (a ∷ xs) [] i n x y size same other = absurd (cc)
set-same (a ∷ xs) (b ∷ ys) zero zero x y size same other = same
set-same (a ∷ xs) (b ∷ ys) zero (suc n) x y size same other = other (λ e. suc-zero n e)
  where
    suc-zero : (n : ℕ) → suc n ≡ zero → ⊥
    suc-zero n e = cc
set-same (a ∷ xs) (b ∷ ys) (suc i) zero x y size same other = other (λ e. zero-suc i e)
  where
    zero-suc : (n : ℕ) → zero ≡ suc n → ⊥
    zero-suc n e = cc
set-same (a ∷ xs) (b ∷ ys) (suc i) (suc n) x y size same other = set-same xs ys i n x y (omega (arith, size)) same (λ differ. other (λ e. differ (omega (arith, e))))

target-same : (c d : Configuration) (label : Label) (asked : Act) (target : Option Target) (n : ℕ) → c.program ≡ d.program → length c.cells ≡ length d.cells
    → ((m : ℕ) → option_map number_of target ≡ Some m → cell_at c m ≡ cell_at d m) → cell_at c n ≡ cell_at d n → cell_at (target_after c label asked target) n ≡ cell_at (target_after d label asked target) n
target-same c d label asked None n program size met_same same = same
target-same c d label asked (Some target) n program size met_same same =
    by (is_met target (cell_at c (number_of target)).state) ∙ ap (λ (cell : Cell). cell_at (if is_met target cell.state then with_cell d (number_of target) (met_after d.program label asked (cell_at d (number_of target))) else d) n) here
  where
    here : cell_at c (number_of target) ≡ cell_at d (number_of target)
    here = met_same (number_of target) refl

    made : met_after c.program label asked (cell_at c (number_of target)) ≡ met_after d.program label asked (cell_at d (number_of target))
    made = ap (λ (p : Program). met_after p label asked (cell_at c (number_of target))) program ∙ ap (met_after d.program label asked) here

    by : (b : Bool) → cell_at (if b then with_cell c (number_of target) (met_after c.program label asked (cell_at c (number_of target))) else c) n
        ≡ cell_at (if b then with_cell d (number_of target) (met_after d.program label asked (cell_at d (number_of target))) else d) n
    by true = set-same c.cells d.cells (number_of target) n _ _ size made (λ differ. same)
    by false = same

after-same : (c d : Configuration) (k : ℕ) (task : TaskState) (move : Move) (n : ℕ) → c.program ≡ d.program → length c.cells ≡ length d.cells → cell_at c k ≡ cell_at d k
    → ((m : ℕ) → option_map number_of move.target ≡ Some m → cell_at c m ≡ cell_at d m) → cell_at c n ≡ cell_at d n → cell_at (after c k task move) n ≡ cell_at (after d k task move) n
after-same c d k task move n program size actor met_same same =
    let one : Configuration = target_after c task.label move.act move.target in
    let two : Configuration = target_after d task.label move.act move.target in
    set-same one.cells two.cells k n (actor_after task move (cell_at one k)) (actor_after task move (cell_at two k))
    (target-size c task.label move.act move.target ∙ size ∙ sym (target-size d task.label move.act move.target))
    (ap (actor_after task move) (target-same c d task.label move.act move.target k program size met_same actor))
    (λ differ. target-same c d task.label move.act move.target n program size met_same same)

-- the move meets the node that the plan visits
move-visits : (c : Configuration) (p : Plan) (move : Move) → move_of (cell_at c) p ≡ Some move → option_map number_of move.target ≡ visited p
move-visits c Over move moves = absurd (over-moves c move moves)
move-visits c (Own asked reply onward) move moves = ap (λ (m : Move). option_map number_of m.target) (sym (own-moves c asked reply onward move moves))
move-visits c (Visit asked target onward) move moves = ap (λ (m : Move). option_map number_of m.target) (sym (visit-moves c asked target onward move moves))

moves-same : (ticket : ℕ) (c d : Configuration) (k : ℕ) (task : TaskState) (one two : Move) → SameWhereItLooks c d k → length c.cells ≡ length d.cells → IsTaskOf c k task
    → move_of (cell_at c) (plan c.program task) ≡ Some one → move_of (cell_at d) (plan d.program task) ≡ Some two
    → (n : ℕ) → (n ≡ k) ⊎ (option_map number_of one.target ≡ Some n) → cell_at (after c k task one) n ≡ cell_at (after d k task two) n
moves-same ticket c d k task one two same size is moves others n place =
    let equal : one ≡ two = some-same (sym moves ∙ move-same c d (plan c.program task) (λ m e. same.target task m is e) ∙ ap (λ (program : Program). move_of (cell_at d) (plan program task)) same.program ∙ others) in
    subst (λ (move : Move). cell_at (after c k task one) n ≡ cell_at (after d k task move) n) equal
    (after-same c d k task one n same.program size same.actor at_target (here place))
  where
    some-same : {a b : Move} → Some a ≡ Some b → a ≡ b
    some-same e = cc

    at_target : (m : ℕ) → option_map number_of one.target ≡ Some m → cell_at c m ≡ cell_at d m
    at_target m e = same.target task m is (sym (move-visits c (plan c.program task) one moves) ∙ e)

    here : (n ≡ k) ⊎ (option_map number_of one.target ≡ Some n) → cell_at c n ≡ cell_at d n
    here (inl e) = subst (λ (m : ℕ). cell_at c m ≡ cell_at d m) (sym e) same.actor
    here (inr e) = at_target n e

pub step_makes_the_same_cells : StepMakesTheSameCells
step_makes_the_same_cells ticket c d k one two same size steps others n place =
    let p = parts ticket c k one steps in
    let q = parts ticket d k two others in
    let task : q.task ≡ p.task = some-task (sym q.is ∙ sym (ap (λ (cell : Cell). cell.task) same.actor) ∙ p.is) in
    let move : move_of (cell_at d) (plan d.program p.task) ≡ Some q.move = subst (λ (t : TaskState). move_of (cell_at d) (plan d.program t) ≡ Some q.move) task q.moves in
    let made : made_of ticket d k p.task q.move ≡ two = subst (λ (t : TaskState). made_of ticket d k t q.move ≡ two) task q.made in
    sym (ap (λ (t : Turn). cell_at t.next n) p.made) ∙ moves-same ticket c d k p.task p.move q.move same size p.is p.moves move n (shown p.task p.move place p.made) ∙ ap (λ (t : Turn). cell_at t.next n) made
  where
    some-task : {a b : TaskState} → Some a ≡ Some b → a ≡ b
    some-task e = cc

    shown : (task : TaskState) (move : Move) → (n ≡ k) ⊎ (one.entry.target ≡ Some n) → made_of ticket c k task move ≡ one → (n ≡ k) ⊎ (option_map number_of move.target ≡ Some n)
    shown task move (inl e) made = inl e
    shown task move (inr e) made = inr (ap (λ (t : Turn). t.entry.target) made ∙ e)

-- a plan whose act is refused throws the fault
abbrev ThrowsRefused : Plan → Type 0
ThrowsRefused (Own asked (Refused fault) onward) = onward ≡ Throw fault
ThrowsRefused plan = Unit {0}

items-throws : {program : Program} {task : TaskState} {items : List Item} {p : Plan} → ItemsCase program task items p → ThrowsRefused p
items-throws IsMistyped = refl
items-throws (Does out.Mistyped) = refl
items-throws (Does (out.Refused asks e)) = refl
items-throws (Does (out.LacksCells asks)) = refl
items-throws (Does (out.LacksTurns asks)) = refl
items-throws (Does (out.Fails1 e f)) = refl
items-throws (Does (out.Fails2 e f g)) = refl
items-throws (Does out.IsTooDeep) = refl
items-throws (Does (out.Throws e pure)) = refl
items-throws (Visits (Reads e)) = tt
items-throws (Visits r) = tt
items-throws o = tt

plan-throws : (program : Program) (task : TaskState) → ThrowsRefused (plan program task)
plan-throws program task = plan-by ThrowsRefused program task tt tt (λ p going o. items-throws o)

-- a refused move: it has no target, throws the fault, and ends no task
move-refused : (c : Configuration) (task : TaskState) (p : Plan) (move : Move) (fault : Fault) → ThrowsRefused p → move_of (cell_at c) p ≡ Some move → move.reply ≡ Refused fault
    → (move.target ≡ None) × (move.onward ≡ Throw fault) × (KeptPlan task p → is_ended move.act ≡ false)
move-refused c task Over move fault throws moves refused = absurd (over-moves c move moves)
move-refused c task (Own asked reply onward) move fault throws moves refused =
    let same : own_move asked reply onward ≡ move = own-moves c asked reply onward move moves in
    let reply_is : reply ≡ Refused fault = ap (λ (m : Move). m.reply) same ∙ refused in
    let throw : onward ≡ Throw fault = subst (λ (r : Reply). ThrowsRefused (Own asked r onward)) reply_is throws in (
      sym (ap (λ (m : Move). m.target) same),
      sym (ap (λ (m : Move). m.onward) same) ∙ throw,
      λ kept. subst (λ (m : Move). is_ended m.act ≡ false) same (subst (λ (o : Onward). KeptPlan task (Own asked reply o)) throw kept).1,
    )
move-refused c task (Visit asked target onward) move fault throws moves refused =
    absurd (answer-unrefused (met target (cell_at c (number_of target)).state) asked fault (ap (λ (m : Move). m.reply) (visit-moves c asked target onward move moves) ∙ refused))

actor-refused : (c : Configuration) (k : ℕ) (task : TaskState) (move : Move) (fault : Fault) → IsTaskOf c k task → move.target ≡ None → cell_at (after c k task move) k ≡ actor_after task move (cell_at c k)
actor-refused c k task move fault is none =
    let same : target_after c task.label move.act move.target ≡ c = ap (target_after c task.label move.act) none in
    subst (λ (d : Configuration). cell_at (with_cell d k (actor_after task move (cell_at d k))) k ≡ actor_after task move (cell_at c k)) (sym same)
    (get_or-set_same c.cells k (actor_after task move (cell_at c k)) blank (inside c k (task-there c k task is)))

thrown-on : (task : TaskState) (fault : Fault) (asked : Act) (reply : Reply) → gone_on task (Throw fault) asked reply ≡ after_refusal task fault
unfolding gone_on
thrown-on task fault asked reply = refl

move-alone : (ticket : ℕ) (c : Configuration) (k : ℕ) (task : TaskState) (move : Move) (fault : Fault) → IsTaskOf c k task → move_of (cell_at c) (plan c.program task) ≡ Some move → move.reply ≡ Refused fault
    → ChangesActorAlone c k task fault (made_of ticket c k task move)
move-alone ticket c k task move fault is moves refused =
    let r = move-refused c task (plan c.program task) move fault (plan-throws c.program task) moves refused in
    let changes = move-changes ticket c k task move moves in
    let none : option_map number_of move.target ≡ None = ap (option_map number_of) r.0 in
    let cell : cell_at (after c k task move) k ≡ actor_after task move (cell_at c k) = actor-refused c k task move fault is r.0 in
    record {
      elsewhere = λ n p. changes.elsewhere n p (λ e. let clash : None ≡ Some n = sym none ∙ e in cc);
      actor = ap (λ (x : Cell). x.task) cell ∙ ap (λ (o : Onward). Some (gone_on task o move.act move.reply)) r.1 ∙ ap Some (thrown-on task fault move.act move.reply);
      keeps = record { label = refl; clearance = refl; first = refl; cells = refl; ended = refl };
      state = λ sound. ap (λ (x : Cell). x.state) cell ∙ actor-unchanged c k task move.act sound is (r.2 (plan-kept c.program task (sound.clearance k task is) (sound.literals k task is) sound.program));
    }

pub refused_turn_changes_actor_alone : RefusedTurnChangesActorAlone
refused_turn_changes_actor_alone ticket c k task turn fault is steps refused =
    let p = parts ticket c k turn steps in
    let same : p.task ≡ task = some-same (sym p.is ∙ is) in
    subst (ChangesActorAlone c k task fault) (subst (λ (t : TaskState). made_of ticket c k t p.move ≡ turn) same p.made)
    (move-alone ticket c k task p.move fault is (subst (λ (t : TaskState). move_of (cell_at c) (plan c.program t) ≡ Some p.move) same p.moves) (ap (λ (t : Turn). t.entry.reply) p.made ∙ refused))
  where
    some-same : {a b : TaskState} → Some a ≡ Some b → a ≡ b
    some-same e = cc
