-- Each turn keeps a configuration well-formed.
use Rattle.std.proofs.Common.{◌≡◌, ◌≢◌, ◌∙◌, refl, sym, ap, subst, ℕ, ◌+◌, ◌<◌, ◌≤◌, ◌⊎◌, inl, inr, Bool, true, false, ◌&&◌, not, if◌then◌else◌, IsTrue, List, [], length, All, Option, Some, None, is_some, true≢false, arith}
use Rattle.std.specs.Prelude.{option_and_then, option_map, slice_get, slice_set}
use Rattle.std.specs.Option.{option_map_or}
use Rattle.std.proofs.lemmas.Bool.Decides.{Decides-eqb, eqb_tells}
use Rattle.std.proofs.lemmas.List.{get_or_past, length-set, get_or-set_same, get_or-set_other}
use Rattle.std.proofs.lemmas.List.Elements.{All-nil}
use Rattle.std.proofs.lemmas.Slice.Eq.{slice_eq-Decides}
use Rattle.std.proofs.Math.Dec.{eqb}
use Rattle.lio_labels.specs.declared.label.Label.{Label}
use Rattle.lio_labels.specs.Equality.{same_formula, same_label}
use Rattle.lio_labels.specs.Flow.{flows}
use Rattle.lio_values.specs.declared.value.Handle.{Handle}
use Rattle.lio_values.specs.declared.value.Value.{Value}
use Rattle.lio_values.specs.declared.act.Act.{Act}
use Rattle.lio_values.specs.declared.act.Act.TheVariants as act
use Rattle.lio_values.specs.declared.act.Birth.{Birth}
use Rattle.lio_values.specs.declared.act.Reply.{Reply}
use Rattle.lio_syntax.specs.Statements.{Procedure}
use Rattle.lio_cells.specs.declared.state.State.{State}
use Rattle.lio_cells.specs.declared.state.State.TheVariants.{Absent, Ref, Var, Chan, Job}
use Rattle.lio_cells.specs.State.{Kind, Reference, Variable, Result, is_of, is_job, label_of, result_of, ready, answer, state_after}
use Rattle.lio_syntax.specs.Items.{open_calls}
use Rattle.lio_calculus.specs.Task.{TaskState}
use Rattle.lio_calculus.specs.Going.{Onward, HoldReference, HoldVariable, Fork, Spawn, End, gone_on}
use Rattle.lio_calculus.specs.Plan.{Program, Plan, Over, Own, Visit, Target, Node, New, plan}
use Rattle.lio_calculus.specs.Step.{Cell, Configuration, blank, cell_at, with_cell, is_named, has_label, is_met, met, waits, Move, move_of, visit, body_of, parameters_of, child_of, born, task_after, met_after, after, Turn, entry_of, turn_of, step}
use Rattle.lio_calculus.specs.Guarded.{IsGuarded}
use Rattle.lio_calculus.specs.Sound.{Names, ValueNames, IsOpen, EachInItem, EachInState, IsNoAccess, block_says, IsTaskOf, IsInRange, IsSound}
use Rattle.lio_calculus.proofs.Closed.{names-closed, open-closed}
use Rattle.lio_calculus.proofs.Lists.{All-slice_get}
use Rattle.lio_calculus.proofs.PlanEach.{EachInOnward, EachInAct, EachInPlan, bind_all-each, plan-each}
use Rattle.lio_calculus.proofs.PlanKept.{Suits, Kept, KeptPlan, NewSuits, IsBorn, is_ended, is_end, is_quiet, is_visit, is_taking, plan-kept}
use Rattle.lio_calculus.proofs.PlacesKept.{enter-all, enter-says, enter-calls}
use Rattle.lio_calculus.proofs.GoneKept.{EachInReply, EachHandle, taken, none-raised}
use Rattle.lio_calculus.proofs.NodeKept.{Alike, named-after, reference-after, variable-after, channel-after, job-after, each-after, answer-each}
use Rattle.lio_calculus.proofs.SoundLemmas.{task-job, inside, task-there, absent-unnamed, named-there}
use Rattle.lio_calculus.proofs.SoundAfter.{state-map, Extends, value-extends, Fine, fine-of, fine-extends, Changes, IsChild, sound-after}
use Rattle.lio_calculus.proofs.ActorKept.{silent-each, taken-fits, job-stays, job-holds, range-inside, actor-fine}
use Rattle.lio_calculus.proofs.StepGuarded.{turn-guarded}
use Rattle.lio_calculus.proofs.InvisibleLemmas.{visit-move}

-- what a property of values gives of an act's values
act-map : (P Q : Value → Type 0) → ((v : Value) → P v → Q v) → (asked : Act) → EachInAct P asked → EachInAct Q asked
act-map P Q implies (act.Write v) p = implies v p
act-map P Q implies (act.Put v) p = implies v p
act-map P Q implies (act.NewRef l v) p = implies v p
act-map P Q implies (act.NewVar l (Some v)) p = implies v p
act-map P Q implies (act.Fork birth) p = λ i d within. implies _ (p i d within)
act-map P Q implies (act.Spawn birth) p = λ i d within. implies _ (p i d within)
act-map P Q implies (act.Ended content) p = λ label. implies _ (p label)
act-map P Q implies asked p = tt

-- no handle for a task that takes nothing
silent-handle : (P : Value → Type 0) (task : TaskState) (onward : Onward) → is_taking onward ≡ false → EachHandle P task onward
silent-handle P task (HoldReference name label) e = absurd (true≢false e)
silent-handle P task (HoldVariable name label) e = absurd (true≢false e)
silent-handle P task (Fork name label cells turns) e = absurd (true≢false e)
silent-handle P task (Spawn cells turns) e = absurd (true≢false e)
silent-handle P task onward e = tt

-- what the actor's cell is after its turn
abbrev actor : Configuration → ℕ → TaskState → Act → Onward → Reply → Cell
actor c k task asked onward reply = record { state = state_after (cell_at c k).state asked; task = Some (gone_on task onward asked reply) }

-- names are kept where a cell changes by acts
named-changes : (c d : Configuration) (k t : ℕ) (task : TaskState) (asked : Act) (onward : Onward) (reply : Reply) (other : Cell) → Changes c d k t (actor c k task asked onward reply) other
    → ((kind : Kind) (handle : Handle) → IsTrue (is_named kind handle (cell_at c t).state) → IsTrue (is_named kind handle other.state)) → Extends c d
unfolding Extends
named-changes c d k t task asked onward reply other changes keeps kind handle names = by (eqb_tells handle.number k) (eqb_tells handle.number t)
  where
    by : (((eqb handle.number k ≡ true) × (handle.number ≡ k)) ⊎ ((eqb handle.number k ≡ false) × (handle.number ≢ k))) → (((eqb handle.number t ≡ true) × (handle.number ≡ t)) ⊎ ((eqb handle.number t ≡ false) × (handle.number ≢ t)))
        → IsTrue (is_named kind handle (cell_at d handle.number).state)
    by (inl p) q =
        subst (λ (x : Cell). IsTrue (is_named kind handle x.state)) (sym (ap (cell_at d) p.1 ∙ changes.at_k))
        (named-after kind handle (cell_at c k).state asked (subst (λ (n : ℕ). IsTrue (is_named kind handle (cell_at c n).state)) p.1 names))
    by (inr p) (inl q) =
        subst (λ (x : Cell). IsTrue (is_named kind handle x.state)) (sym (ap (cell_at d) q.1 ∙ changes.at_t))
        (keeps kind handle (subst (λ (n : ℕ). IsTrue (is_named kind handle (cell_at c n).state)) q.1 names))
    by (inr p) (inr q) = subst (λ (x : Cell). IsTrue (is_named kind handle x.state)) (sym (changes.elsewhere handle.number p.1 q.1)) names

-- a turn that changes the actor's cell alone
alone : (c : Configuration) (k : ℕ) (task : TaskState) (asked : Act) (onward : Onward) (reply : Reply) → IsTaskOf c k task
    → Changes c (with_cell c k (actor c k task asked onward reply)) k (length c.cells) (actor c k task asked onward reply) blank
alone c k task asked onward reply is =
    let within : k < length c.cells = inside c k (task-there c k task is) in
    record {
      program = refl;
      size = length-set c.cells k _;
      apart = λ e. absurd (omega (arith, within, e));
      at_k = get_or-set_same c.cells k _ blank within;
      at_t = get_or_past (slice_set c.cells k _) (length c.cells) blank (omega (arith, length-set c.cells k (actor c k task asked onward reply)));
      elsewhere = λ n p q. get_or-set_other c.cells k n _ blank p;
    }

own-kept : (c : Configuration) (k : ℕ) (task : TaskState) (asked : Act) (onward : Onward) (reply : Reply) → IsSound c → IsTaskOf c k task → task.ended ≡ false → Kept task onward → is_ended asked ≡ is_end onward
    → EachInAct (ValueNames c) asked → EachInOnward (ValueNames c) asked onward → EachInAct IsOpen asked → EachInOnward IsOpen asked onward → EachInReply (ValueNames c) reply → EachInReply IsOpen reply → is_taking onward ≡ false
    → IsSound (with_cell c k (actor c k task asked onward reply))
own-kept c k task asked onward reply sound is going kept ends act_names names act_open open_ reply_names reply_open quiet =
    let d : Configuration = with_cell c k (actor c k task asked onward reply) in
    let changes = alone c k task asked onward reply is in
    let extends : Extends c d = named-changes c d k (length c.cells) task asked onward reply blank changes
    (λ kind handle named. absurd (absent-unnamed kind handle (subst (λ (x : Cell). IsTrue (is_named kind handle x.state)) (get_or_past c.cells (length c.cells) blank (omega arith)) named))) in
    let job = task-job c k task sound is in
    sound-after c d k (length c.cells) task (gone_on task onward asked reply) (state_after (cell_at c k).state asked) blank sound is changes (record {
      job = job-stays (cell_at c k).state asked job;
      fine = actor-fine c d k task asked onward reply sound is going extends changes.size kept ends names open_ reply_names reply_open (silent-handle (ValueNames d) task onward quiet);
      inside = λ n r. (range-inside task onward asked reply kept.suits n r).0;
      beyond = λ r. let i = (range-inside task onward asked reply kept.suits (length c.cells) r).0 in absurd (omega (arith, i.below, sound.ranges k task is));
      node_names = job-holds (ValueNames d) (cell_at c k).state asked job (state-map (ValueNames c) (ValueNames d) (value-extends c d extends) (cell_at c k).state (sound.node_names k)) (act-map (ValueNames c) (ValueNames d) (value-extends c d extends) asked act_names);
      node_shown = job-holds IsOpen (cell_at c k).state asked job (sound.node_shown k) act_open;
      other_job = refl;
      other_task = λ x e. absurd (cc);
      other_names = tt;
      other_shown = tt;
      nobody = λ n x i p r. absurd (omega (arith, r.below, sound.ranges n x i));
      extends = extends;
    })

-- a node that was there, after an act on it
alike-after : (kind : Kind) (handle : Handle) (state : State) (asked : Act) → IsTrue (is_named kind handle state) → Alike state (state_after state asked)
alike-after kind handle Absent asked named = absurd (absent-unnamed kind handle named)
alike-after kind handle (Ref label v) asked named = reference-after label v asked
alike-after kind handle (Var label v) asked named = variable-after label v asked
alike-after kind handle (Chan label bytes) asked named = channel-after label bytes asked
alike-after kind handle (Job label r) asked named = job-after label r asked

unborn : (program : Program) (label : Label) (asked : Act) → is_visit asked ≡ true → born program label asked ≡ None
unborn program label act.Read visit = refl
unborn program label (act.Write v) visit = refl
unborn program label act.Take visit = refl
unborn program label (act.Put v) visit = refl
unborn program label act.Wait visit = refl
unborn program label (act.Send text) visit = refl
unborn program label asked visit = absurd (true≢false (sym visit))

unended : (asked : Act) → is_visit asked ≡ true → is_ended asked ≡ false
unended (act.Ended content) visit = absurd (true≢false (sym visit))
unended asked visit = refl

quiet-end : (onward : Onward) → is_quiet onward ≡ true → is_end onward ≡ false
quiet-end End quiet = absurd (true≢false (sym quiet))
quiet-end onward quiet = refl

quiet-taking : (onward : Onward) → is_quiet onward ≡ true → is_taking onward ≡ false
quiet-taking (HoldReference name label) quiet = absurd (true≢false (sym quiet))
quiet-taking (HoldVariable name label) quiet = absurd (true≢false (sym quiet))
quiet-taking (Fork name label cells turns) quiet = absurd (true≢false (sym quiet))
quiet-taking (Spawn cells turns) quiet = absurd (true≢false (sym quiet))
quiet-taking onward quiet = refl

-- a job keeps its result as another task's act meets it
visit-result : (state : State) (asked : Act) → is_visit asked ≡ true → is_some (result_of (state_after state asked)) ≡ is_some (result_of state)
unfolding state_after
visit-result state act.Read visit = refl
visit-result state act.Wait visit = refl
visit-result Absent (act.Write v) visit = refl
visit-result (Ref l w) (act.Write v) visit = refl
visit-result (Var l w) (act.Write v) visit = refl
visit-result (Chan l b) (act.Write v) visit = refl
visit-result (Job l r) (act.Write v) visit = refl
visit-result Absent act.Take visit = refl
visit-result (Ref l w) act.Take visit = refl
visit-result (Var l w) act.Take visit = refl
visit-result (Chan l b) act.Take visit = refl
visit-result (Job l r) act.Take visit = refl
visit-result Absent (act.Put v) visit = refl
visit-result (Ref l w) (act.Put v) visit = refl
visit-result (Var l w) (act.Put v) visit = refl
visit-result (Chan l b) (act.Put v) visit = refl
visit-result (Job l r) (act.Put v) visit = refl
visit-result Absent (act.Send text) visit = refl
visit-result (Ref l w) (act.Send text) visit = refl
visit-result (Var l w) (act.Send text) visit = refl
visit-result (Chan l b) (act.Send text) visit = refl
visit-result (Job l r) (act.Send text) visit = refl
visit-result state asked visit = absurd (true≢false (sym visit))

-- a turn that changes the actor's cell and another one that lies in the list
both : (c : Configuration) (k t : ℕ) (task : TaskState) (asked : Act) (onward : Onward) (reply : Reply) (other : Cell) → IsTaskOf c k task → (k ≡ t → ⊥) → t < length c.cells
    → (let between : Configuration = with_cell c t other in Changes c (with_cell between k (actor between k task asked onward reply)) k t (actor c k task asked onward reply) other)
both c k t task asked onward reply other is differ within =
    let between : Configuration = with_cell c t other in
    let k_there : k < length c.cells = inside c k (task-there c k task is) in
    let size : length between.cells ≡ length c.cells = length-set c.cells t other in
    let same : cell_at between k ≡ cell_at c k = get_or-set_other c.cells t k other blank differ in
    record {
      program = refl;
      size = length-set between.cells k (actor between k task asked onward reply) ∙ size;
      apart = differ;
      at_k = get_or-set_same between.cells k (actor between k task asked onward reply) blank (omega (arith, k_there, size))
          ∙ ap (λ (x : Cell). let a : Cell = record { state = state_after x.state asked; task = Some (gone_on task onward asked reply) } in a) same;
      at_t = get_or-set_other between.cells k t (actor between k task asked onward reply) blank (λ e. differ (sym e)) ∙ get_or-set_same c.cells t other blank within;
      elsewhere = λ n p q. get_or-set_other between.cells k n (actor between k task asked onward reply) blank p ∙ get_or-set_other c.cells t n other blank q;
    }

-- an act on a node that a handle names
visit-kept : (c : Configuration) (k : ℕ) (task : TaskState) (asked : Act) (kind : Kind) (handle : Handle) (onward : Onward) (reply : Reply) → IsSound c → IsTaskOf c k task → task.ended ≡ false → Names c kind handle → (k ≡ handle.number → ⊥)
    → Kept task onward → is_visit asked ≡ true → is_quiet onward ≡ true → EachInAct (ValueNames c) asked → EachInOnward (ValueNames c) asked onward → EachInAct IsOpen asked → EachInOnward IsOpen asked onward
    → EachInReply (ValueNames c) reply → EachInReply IsOpen reply
    → (let between : Configuration = with_cell c handle.number (met_after c.program task.label asked (cell_at c handle.number)) in IsSound (with_cell between k (actor between k task asked onward reply)))
visit-kept c k task asked kind handle onward reply sound is going named differ kept visit quiet act_names names act_open open_ reply_names reply_open =
    let t : ℕ = handle.number in
    let other : Cell = met_after c.program task.label asked (cell_at c t) in
    let between : Configuration = with_cell c t other in
    let d : Configuration = with_cell between k (actor between k task asked onward reply) in
    let within : t < length c.cells = inside c t (named-there c kind handle named) in
    let changes = both c k t task asked onward reply other is differ within in
    let extends : Extends c d = named-changes c d k t task asked onward reply other changes (λ l h n. named-after l h (cell_at c t).state asked n) in
    let job = task-job c k task sound is in
    let alike : Alike (cell_at c t).state (state_after (cell_at c t).state asked) = alike-after kind handle (cell_at c t).state asked named in
    let same_task : other.task ≡ (cell_at c t).task = ap (task_after (cell_at c t).task) (unborn c.program task.label asked visit) ∙ task-none (cell_at c t).task in
    sound-after c d k t task (gone_on task onward asked reply) (state_after (cell_at c k).state asked) other sound is changes (record {
      job = job-stays (cell_at c k).state asked job;
      fine = actor-fine c d k task asked onward reply sound is going extends changes.size kept (unended asked visit ∙ sym (quiet-end onward quiet)) names open_ reply_names reply_open (silent-handle (ValueNames d) task onward (quiet-taking onward quiet));
      inside = λ n r. (range-inside task onward asked reply kept.suits n r).0;
      beyond = λ r. named-there c kind handle named (sound.free k t task is (range-inside task onward asked reply kept.suits t r).0);
      node_names = job-holds (ValueNames d) (cell_at c k).state asked job (state-map (ValueNames c) (ValueNames d) (value-extends c d extends) (cell_at c k).state (sound.node_names k)) (act-map (ValueNames c) (ValueNames d) (value-extends c d extends) asked act_names);
      node_shown = job-holds IsOpen (cell_at c k).state asked job (sound.node_shown k) act_open;
      other_job = ap is_some same_task ∙ sound.jobs t ∙ alike.kinds Result;
      other_task = λ x e. let i : IsTaskOf c t x = sym same_task ∙ e in
          inl (i, fine-extends c d (cell_at c t).state (state_after (cell_at c t).state asked) x extends changes.size (sym alike.label) (visit-result (cell_at c t).state asked visit) (fine-of c t x sound i));
      other_names = each-after (ValueNames d) (cell_at c t).state asked visit (state-map (ValueNames c) (ValueNames d) (value-extends c d extends) (cell_at c t).state (sound.node_names t)) (act-map (ValueNames c) (ValueNames d) (value-extends c d extends) asked act_names);
      other_shown = each-after IsOpen (cell_at c t).state asked visit (sound.node_shown t) act_open;
      nobody = λ n x i p r. named-there c kind handle named (sound.free n t x i r);
      extends = extends;
    })
  where
    task-none : (t : Option TaskState) → task_after t None ≡ t
    task-none None = refl
    task-none (Some x) = refl

-- labels are the same as themselves
same_label-refl : (label : Label) → same_label label label ≡ true
same_label-refl label = both_true (same_formula label.secrecy label.secrecy) (same_formula label.integrity label.integrity) (formulas label.secrecy) (formulas label.integrity)
  where
    formulas : (x : List (List ℕ)) → same_formula x x ≡ true
    formulas x = (slice_eq-Decides (λ (p q : List ℕ). slice_eq-Decides Decides-eqb p q _ refl) x x (same_formula x x) refl).1 refl

    both_true : (a b : Bool) → a ≡ true → b ≡ true → (a && b) ≡ true
    both_true a b e f = cc

-- a new node has its kind and its label
new-named : (kind : Kind) (handle : Handle) (state : State) → is_of kind state ≡ true → label_of state ≡ Some handle.label → IsTrue (is_named kind handle state)
new-named kind handle state of_kind label =
    ap (λ (b : Bool). b && has_label state handle.label) of_kind ∙ ap (λ (l : Option Label). option_map_or (λ x. same_label x handle.label) l false) label ∙ same_label-refl handle.label

-- a turn that makes a node at the first number of the actor's range; what the new cell has to be
record NewCell (c d : Configuration) (task kept : TaskState) (onward : Onward) (other : Cell) : Type 0 where
  job : is_some other.task ≡ is_job other.state
  tasks : (x : TaskState) → other.task ≡ Some x → IsChild d task.first task kept other.state x
  names : EachInState (ValueNames d) other.state
  shown : EachInState IsOpen other.state
  handle : EachHandle (ValueNames d) task onward

new-kept : (c : Configuration) (k : ℕ) (task : TaskState) (asked : Act) (onward : Onward) (reply : Reply) → IsSound c → IsTaskOf c k task → task.ended ≡ false → 1 ≤ taken onward
    → Kept task onward → is_ended asked ≡ is_end onward → EachInAct (ValueNames c) asked → EachInOnward (ValueNames c) asked onward → EachInAct IsOpen asked → EachInOnward IsOpen asked onward
    → EachInReply (ValueNames c) reply → EachInReply IsOpen reply
    → (let other : Cell = met_after c.program task.label asked (cell_at c task.first) in
    let between : Configuration = with_cell c task.first other in
    let d : Configuration = with_cell between k (actor between k task asked onward reply) in
    (Extends c d → Changes c d k task.first (actor c k task asked onward reply) other → NewCell c d task (gone_on task onward asked reply) onward other) → IsSound d)
new-kept c k task asked onward reply sound is going takes kept ends act_names names act_open open_ reply_names reply_open made =
    let t : ℕ = task.first in
    let other : Cell = met_after c.program task.label asked (cell_at c t) in
    let between : Configuration = with_cell c t other in
    let d : Configuration = with_cell between k (actor between k task asked onward reply) in
    let fits : taken onward ≤ task.cells = taken-fits task onward kept.suits in
    let first : IsInRange task t = record { from = omega arith; below = omega (arith, takes, fits) } in
    let empty : cell_at c t ≡ blank = sound.free k t task is first in
    let differ : k ≡ t → ⊥ = λ e. task-there c k task is (ap (cell_at c) e ∙ empty) in
    let within : t < length c.cells = omega (arith, sound.ranges k task is, takes, fits) in
    let changes = both c k t task asked onward reply other is differ within in
    let extends : Extends c d = named-changes c d k t task asked onward reply other changes
    (λ kind handle named. absurd (absent-unnamed kind handle (subst (λ (x : Cell). IsTrue (is_named kind handle x.state)) empty named))) in
    let job = task-job c k task sound is in
    let new = made extends changes in
    sound-after c d k t task (gone_on task onward asked reply) (state_after (cell_at c k).state asked) other sound is changes (record {
      job = job-stays (cell_at c k).state asked job;
      fine = actor-fine c d k task asked onward reply sound is going extends changes.size kept ends names open_ reply_names reply_open new.handle;
      inside = λ n r. (range-inside task onward asked reply kept.suits n r).0;
      beyond = λ r. absurd (omega (arith, (range-inside task onward asked reply kept.suits t r).1, takes));
      node_names = job-holds (ValueNames d) (cell_at c k).state asked job (state-map (ValueNames c) (ValueNames d) (value-extends c d extends) (cell_at c k).state (sound.node_names k)) (act-map (ValueNames c) (ValueNames d) (value-extends c d extends) asked act_names);
      node_shown = job-holds IsOpen (cell_at c k).state asked job (sound.node_shown k) act_open;
      other_job = new.job;
      other_task = λ x e. inr (new.tasks x e);
      other_names = new.names;
      other_shown = new.shown;
      nobody = λ n x i p r. p (sound.apart n k t x task i is r first);
      extends = extends;
    })

-- a child
child-fine : (c d : Configuration) (k : ℕ) (task : TaskState) (birth : Birth) (cells : ℕ) → IsSound c → IsTaskOf c k task → Extends c d → length d.cells ≡ length c.cells → IsBorn task birth → birth.cells + 1 ≤ task.cells
    → All (ValueNames c) birth.args → All IsOpen birth.args → Fine d (Job birth.result None) (child_of c.program task.label birth)
unfolding child_of open_calls block_says
child-fine c d k task birth cells sound is extends size birthed room names shown =
    let procedure : Option Procedure = slice_get c.program.procedures birth.proc_at in
    let says : IsTrue (block_says (body_of procedure)) = body-says procedure refl in
    record {
      range = omega (arith, birthed.first, room, sound.ranges k task is, size);
      names = record {
        environment = bind_all-each (ValueNames d) [] (parameters_of procedure) birth.args (All-nil _) (λ i e within. value-extends c d extends _ (names i e within));
        items = enter-all (EachInItem (ValueNames d)) (λ s. tt) (body_of procedure) [] (All-nil _);
      };
      clearance = birthed.label;
      result = λ l e. let same : birth.result ≡ l = cc in subst (λ (x : Label). IsTrue (flows birth.clearance x)) same birthed.result;
      ended = refl;
      accesses = none-raised (child_of c.program task.label birth) (enter-all IsNoAccess (λ s. tt) (body_of procedure) [] (All-nil _));
      literals = enter-says (body_of procedure) [] says (All-nil _);
      calls = omega (arith, enter-calls (body_of procedure) []);
      shown = record {
        environment = bind_all-each IsOpen [] (parameters_of procedure) birth.args (All-nil _) shown;
        items = enter-all (EachInItem IsOpen) (λ s. tt) (body_of procedure) [] (All-nil _);
      };
    }
  where
    body-says : (p : Option Procedure) → slice_get c.program.procedures birth.proc_at ≡ p → IsTrue (block_says (body_of p))
    body-says None e = refl
    body-says (Some q) e = All-slice_get (λ (x : Procedure). IsTrue (block_says x.body)) c.program.procedures birth.proc_at q sound.program e

is-child : (c d : Configuration) (k : ℕ) (task kept : TaskState) (birth : Birth) → IsSound c → IsTaskOf c k task → Extends c d → length d.cells ≡ length c.cells → IsBorn task birth → birth.cells + 1 ≤ task.cells
    → All (ValueNames c) birth.args → All IsOpen birth.args → ((n : ℕ) → IsInRange kept n → task.first + (birth.cells + 1) ≤ n) → IsChild d task.first task kept (Job birth.result None) (child_of c.program task.label birth)
unfolding child_of
is-child c d k task kept birth sound is extends size birthed room names shown above = record {
  fine = child-fine c d k task birth birth.cells sound is extends size birthed room names shown;
  inside = λ n r. record { from = omega (arith, birthed.first, r.from); below = omega (arith, birthed.first, r.below, room) };
  behind = λ r. absurd (omega (arith, birthed.first, r.from));
  apart = λ n r q. absurd (omega (arith, birthed.first, r.below, above n q));
}

-- the room that an act asks for
reference-room : (task : TaskState) (name : List ℕ) (label : Label) → Suits task (HoldReference name label) → 1 ≤ task.cells
reference-room task name label suits = suits

variable-room : (task : TaskState) (name : List ℕ) (label : Label) → Suits task (HoldVariable name label) → 1 ≤ task.cells
variable-room task name label suits = suits

fork-room : (task : TaskState) (name : List ℕ) (label : Label) (cells turns : ℕ) → Suits task (Fork name label cells turns) → cells + 1 ≤ task.cells
fork-room task name label cells turns suits = suits

spawn-room : (task : TaskState) (cells turns : ℕ) → Suits task (Spawn cells turns) → cells + 1 ≤ task.cells
spawn-room task cells turns suits = suits

variable-each : (P : Value → Type 0) (label : Label) (value : Option Value) → EachInAct P (act.NewVar label value) → EachInState P (Var label value)
variable-each P label None p = tt
variable-each P label (Some v) p = p

-- the four acts that make a node
made-kept : (c : Configuration) (k : ℕ) (task : TaskState) (asked : Act) (onward : Onward) (reply : Reply) → IsSound c → IsTaskOf c k task → task.ended ≡ false → NewSuits task asked onward
    → Kept task onward → EachInAct (ValueNames c) asked → EachInOnward (ValueNames c) asked onward → EachInAct IsOpen asked → EachInOnward IsOpen asked onward → EachInReply (ValueNames c) reply → EachInReply IsOpen reply
    → (let between : Configuration = with_cell c task.first (met_after c.program task.label asked (cell_at c task.first)) in IsSound (with_cell between k (actor between k task asked onward reply)))
unfolding state_after
made-kept c k task (act.NewRef label value) onward reply sound is going suits kept act_names names act_open open_ reply_names reply_open =
    let how : Onward = HoldReference suits.0 label in
    let cell : Cell = record { state = Ref label value; task = None } in
    let made : (d : Configuration) → Extends c d → Changes c d k task.first (actor c k task (act.NewRef label value) how reply) (met_after c.program task.label (act.NewRef label value) (cell_at c task.first)) → NewCell c d task (gone_on task how (act.NewRef label value) reply) how (met_after c.program task.label (act.NewRef label value) (cell_at c task.first))
    = λ d extends changes.
    let empty : cell_at c task.first ≡ blank = sound.free k task.first task is (record { from = omega arith; below = omega (arith, reference-room task suits.0 label (subst (Suits task) suits.1 kept.suits)) }) in
    let other_is : met_after c.program task.label (act.NewRef label value) (cell_at c task.first) ≡ cell = ap (met_after c.program task.label (act.NewRef label value)) empty in
    subst (λ (x : Cell). NewCell c d task (gone_on task how (act.NewRef label value) reply) how x) (sym other_is) (record {
      job = refl;
      tasks = λ x e. absurd (cc);
      names = value-extends c d extends value act_names;
      shown = act_open;
      handle = subst (λ (x : Cell). IsTrue (is_named Reference (record { number = task.first; label = label }) x.state)) (sym (changes.at_t ∙ other_is)) (new-named Reference (record { number = task.first; label = label }) (Ref label value) refl refl);
    }) in
    subst (λ (o : Onward). let between : Configuration = with_cell c task.first (met_after c.program task.label (act.NewRef label value) (cell_at c task.first)) in IsSound (with_cell between k (actor between k task (act.NewRef label value) o reply))) (sym suits.1)
    (new-kept c k task (act.NewRef label value) how reply sound is going (omega arith) (subst (Kept task) suits.1 kept) refl act_names tt act_open tt reply_names reply_open (made _))
made-kept c k task (act.NewVar label value) onward reply sound is going suits kept act_names names act_open open_ reply_names reply_open =
    let how : Onward = HoldVariable suits.0 label in
    let cell : Cell = record { state = Var label value; task = None } in
    let made : (d : Configuration) → Extends c d → Changes c d k task.first (actor c k task (act.NewVar label value) how reply) (met_after c.program task.label (act.NewVar label value) (cell_at c task.first)) → NewCell c d task (gone_on task how (act.NewVar label value) reply) how (met_after c.program task.label (act.NewVar label value) (cell_at c task.first))
    = λ d extends changes.
    let empty : cell_at c task.first ≡ blank = sound.free k task.first task is (record { from = omega arith; below = omega (arith, variable-room task suits.0 label (subst (Suits task) suits.1 kept.suits)) }) in
    let other_is : met_after c.program task.label (act.NewVar label value) (cell_at c task.first) ≡ cell = ap (met_after c.program task.label (act.NewVar label value)) empty in
    subst (λ (x : Cell). NewCell c d task (gone_on task how (act.NewVar label value) reply) how x) (sym other_is) (record {
      job = refl;
      tasks = λ x e. absurd (cc);
      names = variable-each (ValueNames d) label value (act-map (ValueNames c) (ValueNames d) (value-extends c d extends) (act.NewVar label value) act_names);
      shown = variable-each IsOpen label value act_open;
      handle = subst (λ (x : Cell). IsTrue (is_named Variable (record { number = task.first; label = label }) x.state)) (sym (changes.at_t ∙ other_is)) (new-named Variable (record { number = task.first; label = label }) (Var label value) refl refl);
    }) in
    subst (λ (o : Onward). let between : Configuration = with_cell c task.first (met_after c.program task.label (act.NewVar label value) (cell_at c task.first)) in IsSound (with_cell between k (actor between k task (act.NewVar label value) o reply))) (sym suits.1)
    (new-kept c k task (act.NewVar label value) how reply sound is going (omega arith) (subst (Kept task) suits.1 kept) refl act_names tt act_open tt reply_names reply_open (made _))
made-kept c k task (act.Fork birth) onward reply sound is going suits kept act_names names act_open open_ reply_names reply_open =
    let how : Onward = Fork suits.1 birth.result birth.cells birth.turns in
    let room : birth.cells + 1 ≤ task.cells = fork-room task suits.1 birth.result birth.cells birth.turns (subst (Suits task) suits.2 kept.suits) in
    let cell : Cell = record { state = Job birth.result None; task = Some (child_of c.program task.label birth) } in
    let suited : Suits task how = subst (Suits task) suits.2 kept.suits in
    let made : (d : Configuration) → Extends c d → Changes c d k task.first (actor c k task (act.Fork birth) how reply) (met_after c.program task.label (act.Fork birth) (cell_at c task.first)) → NewCell c d task (gone_on task how (act.Fork birth) reply) how (met_after c.program task.label (act.Fork birth) (cell_at c task.first))
    = λ d extends changes.
    let empty : cell_at c task.first ≡ blank = sound.free k task.first task is (record { from = omega arith; below = omega (arith, room) }) in
    let other_is : met_after c.program task.label (act.Fork birth) (cell_at c task.first) ≡ cell = ap (met_after c.program task.label (act.Fork birth)) empty in
    subst (λ (x : Cell). NewCell c d task (gone_on task how (act.Fork birth) reply) how x) (sym other_is) (record {
      job = refl;
      tasks = λ x e. let same : child_of c.program task.label birth ≡ x = cc in subst (IsChild d task.first task (gone_on task how (act.Fork birth) reply) (Job birth.result None)) same
          (is-child c d k task (gone_on task how (act.Fork birth) reply) birth sound is extends changes.size suits.0 room act_names act_open (λ n r. (range-inside task how (act.Fork birth) reply suited n r).1));
      names = tt;
      shown = tt;
      handle = subst (λ (x : Cell). IsTrue (is_named Result (record { number = task.first; label = birth.result }) x.state)) (sym (changes.at_t ∙ other_is)) (new-named Result (record { number = task.first; label = birth.result }) (Job birth.result None) refl refl);
    }) in
    subst (λ (o : Onward). let between : Configuration = with_cell c task.first (met_after c.program task.label (act.Fork birth) (cell_at c task.first)) in IsSound (with_cell between k (actor between k task (act.Fork birth) o reply))) (sym suits.2)
    (new-kept c k task (act.Fork birth) how reply sound is going (omega arith) (subst (Kept task) suits.2 kept) refl act_names tt act_open tt reply_names reply_open (made _))
made-kept c k task (act.Spawn birth) onward reply sound is going suits kept act_names names act_open open_ reply_names reply_open =
    let how : Onward = Spawn birth.cells birth.turns in
    let room : birth.cells + 1 ≤ task.cells = spawn-room task birth.cells birth.turns (subst (Suits task) suits.1 kept.suits) in
    let cell : Cell = record { state = Job birth.result None; task = Some (child_of c.program task.label birth) } in
    let suited : Suits task how = subst (Suits task) suits.1 kept.suits in
    let made : (d : Configuration) → Extends c d → Changes c d k task.first (actor c k task (act.Spawn birth) how reply) (met_after c.program task.label (act.Spawn birth) (cell_at c task.first)) → NewCell c d task (gone_on task how (act.Spawn birth) reply) how (met_after c.program task.label (act.Spawn birth) (cell_at c task.first))
    = λ d extends changes.
    let empty : cell_at c task.first ≡ blank = sound.free k task.first task is (record { from = omega arith; below = omega (arith, room) }) in
    let other_is : met_after c.program task.label (act.Spawn birth) (cell_at c task.first) ≡ cell = ap (met_after c.program task.label (act.Spawn birth)) empty in
    subst (λ (x : Cell). NewCell c d task (gone_on task how (act.Spawn birth) reply) how x) (sym other_is) (record {
      job = refl;
      tasks = λ x e. let same : child_of c.program task.label birth ≡ x = cc in subst (IsChild d task.first task (gone_on task how (act.Spawn birth) reply) (Job birth.result None)) same
          (is-child c d k task (gone_on task how (act.Spawn birth) reply) birth sound is extends changes.size suits.0 room act_names act_open (λ n r. (range-inside task how (act.Spawn birth) reply suited n r).1));
      names = tt;
      shown = tt;
      handle = tt;
    }) in
    subst (λ (o : Onward). let between : Configuration = with_cell c task.first (met_after c.program task.label (act.Spawn birth) (cell_at c task.first)) in IsSound (with_cell between k (actor between k task (act.Spawn birth) o reply))) (sym suits.1)
    (new-kept c k task (act.Spawn birth) how reply sound is going (omega arith) (subst (Kept task) suits.1 kept) refl act_names tt act_open tt reply_names reply_open (made _))
made-kept c k task asked onward reply sound is going suits kept act_names names act_open open_ reply_names reply_open = absurd suits

-- the configuration after a turn, by its plan
after-kept : (c : Configuration) (k : ℕ) (task : TaskState) (p : Plan) (move : Move) → IsSound c → IsTaskOf c k task → task.ended ≡ false → IsGuarded c k task p → KeptPlan task p → EachInPlan (ValueNames c) p → EachInPlan IsOpen p
    → move_of (cell_at c) p ≡ Some move → IsSound (after c k task move)
after-kept c k task Over move sound is going guarded kept names shown moves = absurd (cc)
after-kept c k task (Own asked reply onward) move sound is going guarded kept names shown moves =
    let made : Move = record { act = asked; target = None; reply = reply; onward = onward } in
    let equal : made ≡ move = cc in
    subst (λ (m : Move). IsSound (after c k task m)) equal
    (own-kept c k task asked onward reply sound is going kept.0 kept.1 names.0 names.1 shown.0 shown.1 (silent-each (ValueNames c) reply kept.2) (silent-each IsOpen reply kept.2) kept.3)
after-kept c k task (Visit asked (New number) onward) move sound is going guarded kept names shown moves =
    let s : State = (cell_at c number).state in
    let made : Move = record { act = asked; target = Some (New number); reply = answer (met (New number) s) asked; onward = onward } in
    let equal : made ≡ move = visit-move asked (New number) onward (waits asked && not (ready (met (New number) s) asked)) made move moves in
    subst (λ (m : Move). IsSound (after c k task m)) equal
    (subst (λ (x : State). IsSound (made_at x)) (sym (ap (λ (cell : Cell). cell.state) guarded.before))
    (subst (λ (n : ℕ). let between : Configuration = with_cell c n (met_after c.program task.label asked (cell_at c n)) in IsSound (with_cell between k (actor between k task asked onward (answer Absent asked)))) (sym kept.1.0)
    (made-kept c k task asked onward (answer Absent asked) sound is going kept.1.1 kept.0 names.0 names.1 shown.0 shown.1
    (answer-each (ValueNames c) (names-closed c) Absent asked tt) (answer-each IsOpen open-closed Absent asked tt))))
  where
    made_at : State → Configuration
    made_at x =
        let between : Configuration = if is_met (New number) x then with_cell c number (met_after c.program task.label asked (cell_at c number)) else c in
        with_cell between k (actor between k task asked onward (answer (met (New number) x) asked))
after-kept c k task (Visit asked (Node kind handle) onward) move sound is going guarded kept names shown moves =
    let target : Target = Node kind handle in
    let s : State = (cell_at c handle.number).state in
    let made : Move = record { act = asked; target = Some target; reply = answer (met target s) asked; onward = onward } in
    let equal : made ≡ move = visit-move asked target onward (waits asked && not (ready (met target s) asked)) made move moves in
    subst (λ (m : Move). IsSound (after c k task m)) equal (by (is_met target s) refl)
  where
    made_at : Bool → Configuration
    made_at b =
        let n : ℕ = handle.number in
        let between : Configuration = if b then with_cell c n (met_after c.program task.label asked (cell_at c n)) else c in
        with_cell between k (actor between k task asked onward (answer (if b then (cell_at c n).state else Absent) asked))

    by : (b : Bool) → is_met (Node kind handle) (cell_at c handle.number).state ≡ b → IsSound (made_at b)
    by true e = visit-kept c k task asked kind handle onward (answer (cell_at c handle.number).state asked) sound is going e guarded.other kept.0 kept.1.0 kept.1.1 names.0 names.1 shown.0 shown.1
        (answer-each (ValueNames c) (names-closed c) (cell_at c handle.number).state asked (sound.node_names handle.number)) (answer-each IsOpen open-closed (cell_at c handle.number).state asked (sound.node_shown handle.number))
    by false e = own-kept c k task asked onward (answer Absent asked) sound is going kept.0 (unended asked kept.1.0 ∙ sym (quiet-end onward kept.1.1)) names.0 names.1 shown.0 shown.1
        (answer-each (ValueNames c) (names-closed c) Absent asked tt) (answer-each IsOpen open-closed Absent asked tt) (quiet-taking onward kept.1.1)

-- a task that moves hasn't ended
moving : (c : Configuration) (task : TaskState) (move : Move) → move_of (cell_at c) (plan c.program task) ≡ Some move → task.ended ≡ false
unfolding plan
moving c task move moves = by task.ended refl moves
  where
    by : (b : Bool) → task.ended ≡ b → move_of (cell_at c) (plan c.program task) ≡ Some move → task.ended ≡ false
    by false e m = e
    by true e m =
        let over : plan c.program task ≡ Over = rw e refl in
        let none : move_of (cell_at c) Over ≡ Some move = ap (move_of (cell_at c)) (sym over) ∙ m in absurd (cc)

-- a turn keeps a configuration well-formed
pub turn-kept : (ticket : ℕ) (c : Configuration) (k : ℕ) (task : TaskState) (turn : Turn) → IsSound c → IsTaskOf c k task → step ticket c k ≡ Some turn → IsSound turn.next
unfolding step
turn-kept ticket c k task turn sound is steps =
    let got : turn_of ticket c k task ≡ Some turn = sym (ap (λ (t : Option TaskState). option_and_then (turn_of ticket c k) t) is) ∙ steps in
    let guarded : IsGuarded c k task (plan c.program task) = turn-guarded ticket c k task turn sound is steps in
    by guarded (move_of (cell_at c) (plan c.program task)) refl got
  where
    by : IsGuarded c k task (plan c.program task) → (m : Option Move) → move_of (cell_at c) (plan c.program task) ≡ m → option_map (λ move. record { entry = entry_of ticket k task move; next = after c k task move }) m ≡ Some turn → IsSound turn.next
    by guarded None moves got = absurd (cc)
    by guarded (Some move) moves got =
        let made : Turn = record { entry = entry_of ticket k task move; next = after c k task move } in
        let equal : made ≡ turn = cc in
        subst (λ (t : Turn). IsSound t.next) equal
        (after-kept c k task (plan c.program task) move sound is (moving c task move moves) guarded
        (plan-kept c.program task (sound.clearance k task is) (sound.literals k task is) sound.program)
        (plan-each (ValueNames c) (names-closed c) c.program task (sound.names k task is) (sound.literals k task is))
        (plan-each IsOpen open-closed c.program task (sound.shown k task is) (sound.literals k task is)) moves)
