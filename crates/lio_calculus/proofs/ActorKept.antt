-- The actor's cell after a turn of a well-formed configuration.
use Rattle.std.proofs.Common.{◌≡◌, ◌∙◌, refl, sym, ap, subst, ℕ, ◌+◌, ◌-◌, ◌≤◌, true, false, IsTrue, length, Option, is_some, true≢false, arith}
use Rattle.lio_labels.specs.declared.label.Label.{Label}
use Rattle.lio_labels.specs.Flow.{flows}
use Rattle.lio_labels.proofs.FlowLemmas.{flow_is_transitive}
use Rattle.lio_values.specs.declared.value.Content.{Content}
use Rattle.lio_values.specs.declared.value.Value.{Value}
use Rattle.lio_values.specs.declared.act.Act.{Act}
use Rattle.lio_values.specs.declared.act.Act.TheVariants as act
use Rattle.lio_values.specs.declared.act.Reply.{Reply}
use Rattle.lio_values.specs.declared.act.Reply.TheVariants.{Done, Got, Told, Refused}
use Rattle.lio_cells.specs.declared.state.State.{State}
use Rattle.lio_cells.specs.declared.state.State.TheVariants.{Job}
use Rattle.lio_cells.specs.State.{Result, is_job, label_of, result_of, state_after}
use Rattle.lio_syntax.specs.Items.{rest_of}
use Rattle.lio_calculus.specs.Task.{TaskState}
use Rattle.lio_calculus.specs.Going.{Onward, Bind, Seal, Call, Return, Leave, Unlabel, Release, Expose, HoldReference, HoldVariable, Fork, Spawn, Throw, gone, gone_on}
use Rattle.lio_calculus.specs.Guarded.{label_after}
use Rattle.lio_calculus.specs.Step.{Configuration, cell_at}
use Rattle.lio_calculus.specs.Sound.{ValueNames, IsOpen, EachInTask, EachInState, EachInItem, ItemSays, IsTaskOf, IsInRange, IsSound}
use Rattle.lio_calculus.proofs.Closed.{names-closed, open-closed}
use Rattle.lio_calculus.proofs.PlanEach.{EachInOnward, EachInAct}
use Rattle.lio_calculus.proofs.PlanKept.{Suits, Kept, clearance_after, is_ended, is_end, is_silent}
use Rattle.lio_calculus.proofs.PlacesKept.{rest-all, rest-calls}
use Rattle.lio_calculus.proofs.GoneKept.{EachInReply, EachHandle, gone-each, gone-says, gone-accesses, gone-calls, taken, gone-label, gone-clearance, gone-first, gone-cells, gone-ended}
use Rattle.lio_calculus.proofs.NodeKept.{job-after}
use Rattle.lio_calculus.proofs.SoundLemmas.{task-job}
use Rattle.lio_calculus.proofs.SoundAfter.{bound-map, task-map, Extends, value-extends, Fine}

-- a property of a plan's values that follows from another
pub onward-map : (P Q : Value → Type 0) → ((v : Value) → P v → Q v) → (asked : Act) (onward : Onward) → EachInOnward P asked onward → EachInOnward Q asked onward
onward-map P Q implies asked (Bind name value) p = implies value p
onward-map P Q implies asked (Seal name label plain) p = (implies _ p.0, p.1)
onward-map P Q implies asked (Call name environment body) p = bound-map P Q implies environment p
onward-map P Q implies asked (Return value) p = implies value p
onward-map P Q implies asked (Leave caller name) p = bound-map P Q implies caller p
onward-map P Q implies asked (Unlabel name label source content) p = implies _ p
onward-map P Q implies asked (Release name label) p = implies _ p
onward-map P Q implies asked (Expose name label) p = implies _ p
onward-map P Q implies asked (Throw fault) p = implies _ p
onward-map P Q implies asked onward p = tt

pub reply-map : (P Q : Value → Type 0) → ((v : Value) → P v → Q v) → (reply : Reply) → EachInReply P reply → EachInReply Q reply
reply-map P Q implies (Got value) p = implies value p
reply-map P Q implies (Told content) p = λ label. implies _ (p label)
reply-map P Q implies Done p = tt
reply-map P Q implies (Refused fault) p = tt

pub silent-each : (P : Value → Type 0) (reply : Reply) → is_silent reply ≡ true → EachInReply P reply
silent-each P Done silent = tt
silent-each P (Refused fault) silent = tt
silent-each P (Got value) silent = absurd (true≢false (sym silent))
silent-each P (Told content) silent = absurd (true≢false (sym silent))

-- the numbers that a task takes are there
pub taken-fits : (task : TaskState) (onward : Onward) → Suits task onward → taken onward ≤ task.cells
taken-fits task (HoldReference name label) suits = suits
taken-fits task (HoldVariable name label) suits = suits
taken-fits task (Fork name label cells turns) suits = suits
taken-fits task (Spawn cells turns) suits = suits
taken-fits task onward suits = omega arith

-- the result of a job after its task's act
result-after : (label : Label) (r : Option Content) (asked : Act) → is_some r ≡ false → is_some (result_of (state_after (Job label r) asked)) ≡ is_ended asked
unfolding state_after
result-after label r (act.Ended content) none = refl
result-after label r asked none = none

-- and what it holds
job-each : (P : Value → Type 0) (label : Label) (r : Option Content) (asked : Act) → EachInState P (Job label r) → EachInAct P asked → EachInState P (state_after (Job label r) asked)
unfolding state_after
job-each P label r (act.Ended content) each p = p label
job-each P label r asked each p = each

-- the state of a job
pub record IsJobState (state : State) : Type 0 where
  pub label : Label
  pub result : Option Content
  pub is : state ≡ Job label result

pub job-state : (state : State) → is_job state ≡ true → IsJobState state
job-state (Job l r) job = record { label = l; result = r; is = refl }
job-state state job = absurd (true≢false (sym job))

pub job-stays : (state : State) (asked : Act) → is_job state ≡ true → is_job (state_after state asked) ≡ true
job-stays state asked job =
    let j = job-state state job in
    subst (λ (s : State). is_job (state_after s asked) ≡ true) (sym j.is) (sym ((job-after j.label j.result asked).kinds Result))

pub job-label : (state : State) (asked : Act) → is_job state ≡ true → label_of (state_after state asked) ≡ label_of state
job-label state asked job =
    let j = job-state state job in
    subst (λ (s : State). label_of (state_after s asked) ≡ label_of s) (sym j.is) (sym (job-after j.label j.result asked).label)

pub job-result : (state : State) (asked : Act) → is_job state ≡ true → is_some (result_of state) ≡ false → is_some (result_of (state_after state asked)) ≡ is_ended asked
job-result state asked job none =
    let j = job-state state job in
    subst (λ (s : State). is_some (result_of (state_after s asked)) ≡ is_ended asked) (sym j.is) (result-after j.label j.result asked (sym (ap (λ (s : State). is_some (result_of s)) j.is) ∙ none))

pub job-holds : (P : Value → Type 0) (state : State) (asked : Act) → is_job state ≡ true → EachInState P state → EachInAct P asked → EachInState P (state_after state asked)
job-holds P state asked job each p =
    let j = job-state state job in
    subst (λ (s : State). EachInState P (state_after s asked)) (sym j.is) (job-each P j.label j.result asked (subst (EachInState P) j.is each) p)

-- the range of a task that goes on is a part of the one that it had
pub range-inside : (task : TaskState) (onward : Onward) (asked : Act) (reply : Reply) → Suits task onward → (n : ℕ) → IsInRange (gone_on task onward asked reply) n → IsInRange task n × (task.first + taken onward ≤ n)
unfolding gone_on
range-inside task onward asked reply suits n r =
    let t : TaskState = record task { items = rest_of task.items; turns = task.turns - 1 } in
    let first = gone-first t onward asked reply in
    let cells = gone-cells t onward asked reply in
    let fits : taken onward ≤ task.cells = taken-fits task onward suits in
    (record { from = omega (arith, r.from, first); below = omega (arith, r.below, first, cells, fits) }, omega (arith, r.from, first))

-- the actor after its turn
pub actor-fine : (c d : Configuration) (k : ℕ) (task : TaskState) (asked : Act) (onward : Onward) (reply : Reply) → IsSound c → IsTaskOf c k task → task.ended ≡ false → Extends c d → length d.cells ≡ length c.cells
    → Kept task onward → is_ended asked ≡ is_end onward → EachInOnward (ValueNames c) asked onward → EachInOnward IsOpen asked onward → EachInReply (ValueNames c) reply → EachInReply IsOpen reply
    → EachHandle (ValueNames d) task onward → Fine d (state_after (cell_at c k).state asked) (gone_on task onward asked reply)
unfolding gone_on
actor-fine c d k task asked onward reply sound is going extends size kept ends names open_ reply_names reply_open handle =
    let t : TaskState = record task { items = rest_of task.items; turns = task.turns - 1 } in
    let job : is_job (cell_at c k).state ≡ true = task-job c k task sound is in
    let unended : is_some (result_of (cell_at c k).state) ≡ false = sound.ended k task is ∙ going in
    let before = sound.names k task is in
    let popped : EachInTask (ValueNames d) t = task-map (ValueNames c) (ValueNames d) (value-extends c d extends) t (record { environment = before.environment; items = rest-all (EachInItem (ValueNames c)) task.items before.items }) in
    let shown = sound.shown k task is in
    let fits : taken onward ≤ task.cells = taken-fits task onward kept.suits in
    record {
      range = omega (arith, gone-first t onward asked reply, gone-cells t onward asked reply, fits, sound.ranges k task is, size);
      names = gone-each (ValueNames d) (names-closed d) t onward asked reply popped (onward-map (ValueNames c) (ValueNames d) (value-extends c d extends) asked onward names) (reply-map (ValueNames c) (ValueNames d) (value-extends c d extends) reply reply_names) (handle-popped handle);
      clearance = subst (λ (l : Label). IsTrue (flows l (gone t onward asked reply).clearance)) (sym (gone-label t onward asked reply))
          (subst (λ (l : Label). IsTrue (flows (label_after onward task.label) l)) (sym (gone-clearance t onward asked reply)) kept.label);
      result = λ l e. subst (λ (x : Label). IsTrue (flows x l)) (sym (gone-clearance t onward asked reply))
          (flow_is_transitive (clearance_after onward task.clearance) task.clearance l kept.lowered (sound.result k task l is (sym (job-label (cell_at c k).state asked job) ∙ e)));
      ended = job-result (cell_at c k).state asked job unended ∙ ends ∙ sym (gone-ended t onward asked reply going);
      accesses = gone-accesses task t onward asked reply refl (sound.accesses k task is).behind kept.suits;
      literals = gone-says task t onward asked reply (rest-all ItemSays task.items (sound.literals k task is)) kept.suits;
      calls = gone-calls task t onward asked reply (rest-calls task.items) (sound.calls k task is) kept.suits;
      shown = gone-each IsOpen open-closed t onward asked reply (record { environment = shown.environment; items = rest-all (EachInItem IsOpen) task.items shown.items }) open_ reply_open (handle-open onward);
    }
  where
    handle-popped : EachHandle (ValueNames d) task onward → EachHandle (ValueNames d) (record task { items = rest_of task.items; turns = task.turns - 1 }) onward
    handle-popped h = handle-by onward h
      where
        handle-by : (o : Onward) → EachHandle (ValueNames d) task o → EachHandle (ValueNames d) (record task { items = rest_of task.items; turns = task.turns - 1 }) o
        handle-by (HoldReference name label) p = p
        handle-by (HoldVariable name label) p = p
        handle-by (Fork name label cells turns) p = p
        handle-by o p = tt

    handle-open : (o : Onward) → EachHandle IsOpen (record task { items = rest_of task.items; turns = task.turns - 1 }) o
    handle-open (HoldReference name label) = tt
    handle-open (HoldVariable name label) = tt
    handle-open (Fork name label cells turns) = tt
    handle-open o = tt
