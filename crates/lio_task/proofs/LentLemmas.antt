-- What the parts of a turn make of the holders that it is lent: a prepared turn, and what it records.
use Rattle.std.proofs.Common.{◌≡◌, ◌∙◌, refl, sym, ap, subst, ℕ, ◌<◌, inl, inr, Bool, not, true, false, true≢false, ◌||◌, IsTrue, if◌then◌else◌, List, [], All, Option, Some, None}
use Rattle.std.specs.Option.{is_some, option_map}
use Rattle.lio_labels.specs.declared.label.Label.{Label}
use Rattle.lio_values.specs.declared.act.Act.{Act}
use Rattle.lio_values.specs.declared.act.Act.TheVariants as act
use Rattle.lio_values.specs.declared.act.Reply.{Reply}
use Rattle.lio_values.specs.declared.entry.Entry.{Entry}
use Rattle.lio_cells.specs.Node.{IsReadyFor, MayServe, NodeState, served_node, takes_part}
use Rattle.lio_cells.specs.declared.waiter.Waiter.{Waiter}
use Rattle.lio_cells.specs.declared.state.State.{State}
use Rattle.lio_cells.specs.declared.state.State.TheVariants as state
use Rattle.lio_cells.specs.State.{ready as is_ready, answer, is_job, state_after}
use Rattle.lio_syntax.specs.Statements.{Procedure}
use Rattle.lio_syntax.specs.Lines.{script_lines}
use Rattle.lio_calculus.specs.Task.{TaskState}
use Rattle.lio_calculus.specs.Going as going
use Rattle.lio_calculus.specs.Going.{gone_on}
use Rattle.lio_calculus.specs.Plan.{Plan, Program, Visit, plan}
use Rattle.lio_calculus.specs.Step.{Cell, Configuration, Move, born, cell_at, move_of, number_of, task_after}
use Rattle.lio_calculus.specs.Sound.{IsTaskOf}
use Rattle.lio_calculus.specs.Effect.{acted, resumed, resumed_by, served}
use Rattle.lio_calculus.specs.Meeting.{MeetsNode}
use Rattle.lio_calculus.proofs.EffectLemmas.{entry-of-move}
use Rattle.lio_calculus.proofs.MeetingLemmas.{visit_meets_node}
use Rattle.lio_task_plan.specs.Planned.{simple_of}
use Rattle.lio_task_turns.specs.declared.turn.Onward.{Onward}
use Rattle.lio_task_turns.specs.Turns.{onward_of}
use Rattle.lio_task_turns.specs.StateOf.{program_of}
use Rattle.lio_task.specs.declared.config.Holder.{Holder}
use Rattle.lio_task.specs.declared.go.Way.{Way}
use Rattle.lio_task.specs.declared.go.Way.TheVariants as way
use Rattle.lio_task.specs.declared.task.Task.{Task}
use Rattle.lio_task.specs.Goes.{way_of}
use Rattle.lio_task.specs.StateOf.{state_in}
use Rattle.lio_task.specs.Configuration.{cell_of}
use Rattle.lio_task.specs.Takes.{PlansVisit}
use Rattle.lio_task.specs.Turns.{Gone, HasPrepared, IsAsBefore, IsChild, IsFilled, IsLabelOf, Prepared, PreparedMet, PreparesAlone, PreparesMeeting, Recorded, RecordedMet, Records, Serves, Stands, ends, gone_cell, looks, served_cell, woken}
use Rattle.lio_task.proofs.MoveLemmas.{visit-moves, visit-ready}

-- the task that was found
pub found-same : {task other : Task} {found : Option Task} → Some task ≡ found → found ≡ Some other → task ≡ other
found-same e f = cc

-- a task that has gone on from a state
gone : List Procedure → Way → Act → Reply → Task → TaskState
gone script w asked reply task = gone_on (state_in script task) (way_of (script_lines script) (state_in script task).items w) asked reply

-- a task goes on from a holder that stands for the same cell as before
pub gone-from : (script : List Procedure) (old mid went : Holder) (asked : Act) (reply : Reply) (w : Way) → mid.task ≡ old.task → cell_of script mid ≡ cell_of script old → Gone script mid went w asked reply → Gone script old went w asked reply
unfolding gone
gone-from script old mid went asked reply w task_kept kept goes = λ task is. goes task (task_kept ∙ is) ∙ ap (λ (cell : Cell). gone_cell cell.state (gone script w asked reply task)) kept

-- the task that stands under a number with a holder
task-stands : (script : List Procedure) (longest : ℕ) (c : Configuration) (k : ℕ) (holder : Holder) (task : Task) → Stands script longest c k holder → holder.task ≡ Some task → IsTaskOf c k (state_in script task)
task-stands script longest c k holder task stands is = ap (λ (cell : Cell). cell.task) stands.at ∙ ap (option_map (state_in script)) is

-- a task that has gone on as it plans is the one that its entry tells
resumes : (script : List Procedure) (program : Program) (old new : Holder) (task : Task) (asked : Act) (reply : Reply) (w : Way) (p : Plan) → old.task ≡ Some task → plan program (state_in script task) ≡ p
    → resumed_by (state_in script task) asked reply p ≡ gone_on (state_in script task) (way_of (script_lines script) (state_in script task).items w) asked reply → Gone script old new w asked reply
    → option_map (state_in script) new.task ≡ option_map (λ (t : TaskState). resumed program t asked reply) (option_map (state_in script) old.task)
resumes script program old new task asked reply w p is plans goes_by goes =
    let state : TaskState = state_in script task in
    ap (λ (cell : Cell). cell.task) (goes task is) ∙ ap Some (sym goes_by) ∙ ap (λ (q : Plan). Some (resumed_by state asked reply q)) (sym plans)
    ∙ ap (λ (t : Option Task). option_map (λ (u : TaskState). resumed program u asked reply) (option_map (state_in script) t)) (sym is)

-- the node of a task is changed by nothing but the task's end
pub state-kept : (state : State) (asked : Act) → is_job state ≡ true → ends asked ≡ false → state_after state asked ≡ state
unfolding state_after
state-kept (state.Job label result) (act.Ended content) job e = absurd (true≢false e)
state-kept (state.Job label result) act.Step job e = refl
state-kept (state.Job label result) (act.Seal l) job e = refl
state-kept (state.Job label result) (act.Raise op l) job e = refl
state-kept (state.Job label result) (act.Lower l) job e = refl
state-kept (state.Job label result) (act.Release source target power content) job e = refl
state-kept (state.Job label result) (act.Expose source target power content) job e = refl
state-kept (state.Job label result) (act.NewRef l value) job e = refl
state-kept (state.Job label result) (act.NewVar l value) job e = refl
state-kept (state.Job label result) (act.Fork birth) job e = refl
state-kept (state.Job label result) (act.Spawn birth) job e = refl
state-kept (state.Job label result) act.Read job e = refl
state-kept (state.Job label result) (act.Write value) job e = refl
state-kept (state.Job label result) act.Take job e = refl
state-kept (state.Job label result) (act.Put value) job e = refl
state-kept (state.Job label result) act.Wait job e = refl
state-kept (state.Job label result) (act.Send text) job e = refl
state-kept state.Absent asked job e = absurd (true≢false (sym job))
state-kept (state.Ref label value) asked job e = absurd (true≢false (sym job))
state-kept (state.Var label value) asked job e = absurd (true≢false (sym job))
state-kept (state.Chan label bytes) asked job e = absurd (true≢false (sym job))

-- it takes part in each act
pub job-part : (state : State) (asked : Act) → is_job state ≡ true → takes_part state asked ≡ true
job-part state asked job = by (is_ready state asked) (is_job state) job
  where
    by : (a b : Bool) → b ≡ true → (a || b) ≡ true
    by true b e = refl
    by false b e = e

-- what is told of the entry for which a node is ready holds of each for which it is
pub of-ready : (asks : Act → Bool) (node : NodeState) (found : Option Entry) (entry : Entry) (told : Bool) → found ≡ node.pending → found ≡ Some entry → told ≡ asks entry.act → (ready : Entry) → IsReadyFor node ready → told ≡ asks ready.act
of-ready asks node found entry told is some tells ready is_ready = tells ∙ ap (λ (e : Entry). asks e.act) (same found (is ∙ is_ready.pending) some)
  where
    same : (pending : Option Entry) → pending ≡ Some ready → pending ≡ Some entry → entry ≡ ready
    same pending e f = cc

-- and nothing of a node that is ready for none
pub of-none : (node : NodeState) (found : Option Entry) → found ≡ node.pending → found ≡ None → (ready : Entry) → IsReadyFor node ready → ⊥
of-none node found is none ready is_ready = no found (is ∙ is_ready.pending) none
  where
    no : (pending : Option Entry) → pending ≡ Some ready → pending ≡ None → ⊥
    no pending e f = cc

-- where a node is ready for a step, none for which it is ready is the end of its task
pub of-step : (node : NodeState) (entry ready : Entry) → IsReadyFor node entry → IsReadyFor node ready → entry.act ≡ act.Step → false ≡ ends ready.act
of-step node entry ready is_ready also steps = sym (ap ends (sym (ap (λ (e : Entry). e.act) (same node.pending is_ready.pending also.pending)) ∙ steps))
  where
    same : (pending : Option Entry) → pending ≡ Some entry → pending ≡ Some ready → entry ≡ ready
    same pending e f = cc

-- a node whose waiters are taken out where the act changes it may serve the turn for which it is ready
pub may-serve : (node now : NodeState) (ticket : ℕ) (entry : Entry) (changes : Bool) → IsReadyFor node entry → IsTrue (takes_part node.state entry.act) → All (λ before. before.ticket < ticket) node.log
    → (changes ≡ false → state_after node.state entry.act ≡ node.state) → now ≡ woken changes node → MayServe now ticket
may-serve node now ticket entry changes ready part later still is = subst (λ (n : NodeState). MayServe n ticket) (sym is) (by changes still)
  where
    by : (b : Bool) → (b ≡ false → state_after node.state entry.act ≡ node.state) → MayServe (woken b node) ticket
    by true still = record { entry = entry; is_ready = record { pending = ready.pending; room = ready.room }; takes_part = part; later = later; nobody = inr refl }
    by false still = record { entry = entry; is_ready = ready; takes_part = part; later = later; nobody = inl (still refl) }

-- a node whose waiters are taken out is ready for the same entry
woken-pending : (changes : Bool) (node mid : NodeState) (entry : Entry) → mid ≡ woken changes node → IsReadyFor node entry → mid.pending ≡ Some entry
woken-pending changes node mid entry wakes ready = ap (λ (n : NodeState). n.pending) wakes ∙ same changes ∙ ready.pending
  where
    same : (b : Bool) → (woken b node).pending ≡ node.pending
    same true = refl
    same false = refl

-- a holder whose node has served the turn of its task
served-alone : (old : Holder) (changes : Bool) (entry : Entry) (ticket : ℕ) → changes ≡ ends entry.act
    → Recorded old (record { node = served_node (woken changes old.node) entry ticket; task = old.task }) entry ticket (if changes then Some old.node.waiters else None)
served-alone old true entry ticket e = record {
  cell = λ script. refl;
  log = refl;
  taken = ap (λ (b : Bool). if b then Some old.node.waiters else None) e;
  waiters = ap (λ (b : Bool). if b then [] else old.node.waiters) e;
}
served-alone old false entry ticket e = record {
  cell = λ script. refl;
  log = refl;
  taken = ap (λ (b : Bool). if b then Some old.node.waiters else None) e;
  waiters = ap (λ (b : Bool). if b then [] else old.node.waiters) e;
}

pub recorded-alone : (old : Holder) (mid now : NodeState) (task : Option Task) (changes : Bool) (entry : Entry) (ticket : ℕ) (given : Option (List Waiter)) → changes ≡ ends entry.act
    → given ≡ (if changes then Some old.node.waiters else None) → mid ≡ woken changes old.node → task ≡ old.task → IsReadyFor old.node entry → (mid.pending ≡ Some entry → now ≡ served_node mid entry ticket)
    → Recorded old (record { node = now; task = task }) entry ticket given
recorded-alone old mid now task changes entry ticket given e gives wakes kept ready serves =
    let served : now ≡ served_node (woken changes old.node) entry ticket = serves (woken-pending changes old.node mid entry wakes ready) ∙ ap (λ (n : NodeState). served_node n entry ticket) wakes in
    let new : Holder = record { node = served_node (woken changes old.node) entry ticket; task = old.task } in
    let is : new ≡ record { node = now; task = task } = λ i. record { node = sym served i; task = sym kept i } in
    subst (λ (h : Holder). Recorded old h entry ticket given) is
    (subst (Recorded old new entry ticket) (sym gives) (served-alone old changes entry ticket e))

-- a holder whose node has served a turn that meets it
served-met : (old : Holder) (task : Option Task) (looked : Bool) (entry : Entry) (ticket : ℕ) (child : Option Task) → looked ≡ looks entry.act
    → ((script : List Procedure) → option_map (state_in script) task ≡ task_after (option_map (state_in script) old.task) (option_map (state_in script) child))
    → RecordedMet old (record { node = served_node (woken (not looked) old.node) entry ticket; task = task }) entry ticket child (if not looked then Some old.node.waiters else None)
served-met old task true entry ticket child e after = record {
  cell = λ script. ap (λ (t : Option TaskState). let cell : Cell = record { state = state_after old.node.state entry.act; task = t } in cell) (after script);
  log = refl;
  taken = ap (λ (b : Bool). if b then None else Some old.node.waiters) e;
  waiters = ap (λ (b : Bool). if b then old.node.waiters else []) e;
}
served-met old task false entry ticket child e after = record {
  cell = λ script. ap (λ (t : Option TaskState). let cell : Cell = record { state = state_after old.node.state entry.act; task = t } in cell) (after script);
  log = refl;
  taken = ap (λ (b : Bool). if b then None else Some old.node.waiters) e;
  waiters = ap (λ (b : Bool). if b then old.node.waiters else []) e;
}

pub recorded-met : (old : Holder) (mid now : NodeState) (task : Option Task) (looked : Bool) (entry : Entry) (ticket : ℕ) (child : Option Task) (given : Option (List Waiter)) → looked ≡ looks entry.act
    → given ≡ (if not looked then Some old.node.waiters else None) → mid ≡ woken (not looked) old.node
    → ((script : List Procedure) → option_map (state_in script) task ≡ task_after (option_map (state_in script) old.task) (option_map (state_in script) child))
    → IsReadyFor old.node entry → (mid.pending ≡ Some entry → now ≡ served_node mid entry ticket) → RecordedMet old (record { node = now; task = task }) entry ticket child given
recorded-met old mid now task looked entry ticket child given e gives wakes after ready serves =
    let served : now ≡ served_node (woken (not looked) old.node) entry ticket = serves (woken-pending (not looked) old.node mid entry wakes ready) ∙ ap (λ (n : NodeState). served_node n entry ticket) wakes in
    let new : Holder = record { node = served_node (woken (not looked) old.node) entry ticket; task = task } in
    let is : new ≡ record { node = now; task = task } = λ i. record { node = sym served i; task = task } in
    subst (λ (h : Holder). RecordedMet old h entry ticket child given) is
    (subst (RecordedMet old new entry ticket child) (sym gives) (served-met old task looked entry ticket child e after))

-- the task of a holder that had none is the child, and else it is the one that it had
pub after-none : (script : List Procedure) (old now child : Option Task) → now ≡ old → is_some now ≡ false → option_map (state_in script) child ≡ task_after (option_map (state_in script) old) (option_map (state_in script) child)
after-none script old now child kept none = subst (λ (t : Option Task). option_map (state_in script) child ≡ task_after (option_map (state_in script) t) (option_map (state_in script) child)) kept (by now none)
  where
    by : (t : Option Task) → is_some t ≡ false → option_map (state_in script) child ≡ task_after (option_map (state_in script) t) (option_map (state_in script) child)
    by None e = refl
    by (Some task) e = absurd (true≢false e)

pub after-some : (script : List Procedure) (old now child : Option Task) → now ≡ old → is_some now ≡ true → option_map (state_in script) now ≡ task_after (option_map (state_in script) old) (option_map (state_in script) child)
after-some script old now child kept some = subst (λ (t : Option Task). option_map (state_in script) now ≡ task_after (option_map (state_in script) t) (option_map (state_in script) child)) kept (by now some)
  where
    by : (t : Option Task) → is_some t ≡ true → option_map (state_in script) t ≡ task_after (option_map (state_in script) t) (option_map (state_in script) child)
    by None e = absurd (true≢false (sym e))
    by (Some task) e = refl

pub not-false : (b : Bool) → not b ≡ false → b ≡ true
not-false true e = refl
not-false false e = absurd (true≢false e)

-- an act that only looks at a node leaves it alone
pub state-looked_at : (state : State) (asked : Act) → looks asked ≡ true → state_after state asked ≡ state
unfolding state_after
state-looked_at state act.Read e = refl
state-looked_at state act.Wait e = refl
state-looked_at state (act.Ended content) e = absurd (true≢false (sym e))
state-looked_at state act.Step e = refl
state-looked_at state (act.Seal l) e = refl
state-looked_at state (act.Raise op l) e = refl
state-looked_at state (act.Lower l) e = refl
state-looked_at state (act.Release source target power content) e = refl
state-looked_at state (act.Expose source target power content) e = refl
state-looked_at state (act.NewRef l value) e = absurd (true≢false (sym e))
state-looked_at state (act.NewVar l value) e = absurd (true≢false (sym e))
state-looked_at state (act.Fork birth) e = absurd (true≢false (sym e))
state-looked_at state (act.Spawn birth) e = absurd (true≢false (sym e))
state-looked_at state (act.Write value) e = absurd (true≢false (sym e))
state-looked_at state act.Take e = absurd (true≢false (sym e))
state-looked_at state (act.Put value) e = absurd (true≢false (sym e))
state-looked_at state (act.Send text) e = absurd (true≢false (sym e))

-- a task has gone on, and its node is ready
pub has-prepared : (script : List Procedure) (old mid new : Holder) (w : Way) (entry : Entry) → mid.task ≡ old.task → IsAsBefore script old mid → IsReadyFor mid.node entry → Gone script mid new w entry.act entry.reply → new.node ≡ mid.node
    → HasPrepared script old new w entry
has-prepared script old mid new w entry task_kept same ready goes node = record {
  gone = gone-from script old mid new entry.act entry.reply w task_kept same.cell goes;
  state = ap (λ (n : NodeState). n.state) node ∙ ap (λ (cell : Cell). cell.state) same.cell;
  log = ap (λ (n : NodeState). n.log) node ∙ same.log;
  waiters = ap (λ (n : NodeState). n.waiters) node ∙ same.waiters;
  is_ready = subst (λ (n : NodeState). IsReadyFor n entry) (sym node) ready;
}

-- an entry that is filled, part by part
entry-of : ℕ → ℕ → Option ℕ → Label → Act → Reply → Entry
entry-of ticket k target at asked reply = record { ticket = ticket; actor = k; target = target; at = at; act = asked; reply = reply }

filled-is : (holder : Holder) (k : ℕ) (target : Option ℕ) (asked : Act) (reply : Reply) (entry : Entry) → IsFilled holder k target asked reply entry → entry ≡ entry-of entry.ticket k target entry.at asked reply
unfolding entry-of
filled-is holder k target asked reply entry filled = λ i. record { ticket = entry.ticket; actor = filled.actor i; target = filled.target i; at = entry.at; act = filled.act i; reply = filled.reply i }

-- an entry that was filled, after the label of a holder's task was told it
pub filled-by : (holder : Holder) (k : ℕ) (target : Option ℕ) (asked : Act) (reply : Reply) (told entry : Entry) → IsLabelOf holder told.at → entry ≡ record { ticket = told.ticket; actor = k; target = target; at = told.at; act = asked; reply = reply }
    → IsFilled holder k target asked reply entry
filled-by holder k target asked reply told entry label is = subst (IsFilled holder k target asked reply) (sym is) (record { actor = refl; target = refl; at = label; act = refl; reply = refl })

-- a turn that meets no other node is prepared by its parts
alone-by_parts : (script : List Procedure) (old new : Holder) (k ticket : ℕ) (asked : Act) (reply : Reply) (w : Way) (at : Label) → IsLabelOf old at → HasPrepared script old new w (entry-of ticket k None at asked reply)
    → PreparesAlone script old new k asked reply w (entry-of ticket k None at asked reply)
unfolding entry-of
alone-by_parts script old new k ticket asked reply w at label prepared = λ longest plans.
    let state : TaskState = state_in script plans.task in
    let move : Move = record { act = asked; target = None; reply = reply; onward = way_of (script_lines script) state.items w } in
    let shown : ℕ → Label → Option Entry = λ t l. Some (record { ticket = t; actor = k; target = None; at = l; act = asked; reply = reply }) in
    record {
      shown = λ c stands holds t.
          entry-of-move c k t state (Some move) (task-stands script longest c k old plans.task stands plans.is) (ap (λ (p : Program). move_of (cell_at c) (plan p state)) stands.program ∙ ap (move_of (cell_at c)) plans.plans)
          ∙ ap (shown t) (sym (label plans.task plans.is));
      actor = refl;
      meets = refl;
      task = resumes script (program_of script longest) old new plans.task asked reply w _ plans.is plans.plans refl prepared.gone;
      state = prepared.state;
      log = prepared.log;
      waiters = prepared.waiters;
      is_ready = prepared.is_ready;
    }

pub alone-prepared : (script : List Procedure) (old new : Holder) (k : ℕ) (asked : Act) (reply : Reply) (w : Way) (entry : Entry) → IsFilled old k None asked reply entry → HasPrepared script old new w entry
    → PreparesAlone script old new k asked reply w entry
alone-prepared script old new k asked reply w entry filled prepared =
    let is : entry ≡ entry-of entry.ticket k None entry.at asked reply = filled-is old k None asked reply entry filled in
    subst (PreparesAlone script old new k asked reply w) (sym is)
    (alone-by_parts script old new k entry.ticket asked reply w entry.at filled.at (subst (HasPrepared script old new w) is prepared))

-- the move of a turn that meets the node of another holder, which is ready
meeting-moves : (script : List Procedure) (longest : ℕ) (c : Configuration) (k n : ℕ) (old was : Holder) (asked : Act) (onward : Onward) → (plans : PlansVisit script longest old.task asked n onward)
    → Stands script longest c k old → Stands script longest c n was → is_ready was.node.state asked ≡ true
    → move_of (cell_at c) (plan c.program (state_in script plans.task))
    ≡ Some (record { act = asked; target = Some plans.target; reply = answer was.node.state asked; onward = way_of (script_lines script) (state_in script plans.task).items (way.On onward) })
meeting-moves script longest c k n old was asked onward plans stands there ready =
    let state : TaskState = state_in script plans.task in
    let on : going.Onward = onward_of (script_lines script) (simple_of state.items) onward in
    let m : ℕ = number_of plans.target in
    let planned : plan c.program state ≡ Visit asked plans.target on = ap (λ (p : Program). plan p state) stands.program ∙ plans.plans in
    let meets : MeetsNode c k asked plans.target = visit_meets_node c k state asked plans.target on stands.sound (task-stands script longest c k old plans.task stands plans.is) planned in
    let cell : cell_at c m ≡ cell_of script was = ap (cell_at c) plans.number ∙ there.at in
    visit-moves c state asked plans.target on planned meets.met
    ∙ visit-ready asked plans.target on (cell_at c m).state (ap (λ (x : Cell). is_ready x.state asked) cell ∙ ready)
    ∙ ap (λ (x : Cell). let move : Move = record { act = asked; target = Some plans.target; reply = answer x.state asked; onward = on } in Some move) cell

-- a turn that meets the node of another holder is prepared by its parts
meeting-by_parts : (script : List Procedure) (old new was now : Holder) (k ticket n : ℕ) (asked : Act) (reply : Reply) (onward : Onward) (at : Label) (child : Option Task) → is_ready was.node.state asked ≡ true → reply ≡ answer was.node.state asked
    → IsLabelOf old at → HasPrepared script old new (way.On onward) (entry-of ticket k (Some n) at asked reply) → IsAsBefore script was now → IsReadyFor now.node (entry-of ticket k (Some n) at asked reply) → IsChild script old asked child
    → PreparesMeeting script old new was now k n asked onward (entry-of ticket k (Some n) at asked reply) child
unfolding entry-of
meeting-by_parts script old new was now k ticket n asked reply onward at child ready replies label prepared met met_ready bears = λ longest plans.
    let state : TaskState = state_in script plans.task in
    let shown : ℕ → ℕ → Label → Reply → Option Entry = λ t i l r. Some (record { ticket = t; actor = k; target = Some i; at = l; act = asked; reply = r }) in
    let answered : Reply = answer was.node.state asked in
    record {
      actor = record {
        shown = λ c stands there t.
            entry-of-move c k t state _ (task-stands script longest c k old plans.task stands plans.is) (meeting-moves script longest c k n old was asked onward plans stands there ready)
            ∙ ap (λ (i : ℕ). shown t i state.label answered) plans.number ∙ ap (λ (l : Label). shown t n l answered) (sym (label plans.task plans.is)) ∙ ap (shown t n at) (sym replies);
        actor = refl;
        meets = refl;
        task = resumes script (program_of script longest) old new plans.task asked reply (way.On onward) _ plans.is plans.plans refl prepared.gone;
        state = prepared.state;
        log = prepared.log;
        waiters = prepared.waiters;
        is_ready = prepared.is_ready;
      };
      met = record {
        cell = met.cell;
        log = met.log;
        waiters = met.waiters;
        is_ready = met_ready;
        takes_part = ap (λ (cell : Cell). takes_part cell.state asked) met.cell ∙ ap (λ b. b || is_job was.node.state) ready;
        bears = bears plans.task plans.is longest ∙ ap (λ (l : Label). born (program_of script longest) l asked) (sym (label plans.task plans.is));
      };
    }

pub meeting-prepared : (script : List Procedure) (old new was now : Holder) (k n : ℕ) (asked : Act) (onward : Onward) (entry : Entry) (child : Option Task) → is_ready was.node.state asked ≡ true
    → IsFilled old k (Some n) asked (answer was.node.state asked) entry → HasPrepared script old new (way.On onward) entry → IsAsBefore script was now → IsReadyFor now.node entry → IsChild script old asked child
    → PreparesMeeting script old new was now k n asked onward entry child
meeting-prepared script old new was now k n asked onward entry child ready filled prepared met met_ready bears =
    let reply : Reply = answer was.node.state asked in
    let is : entry ≡ entry-of entry.ticket k (Some n) entry.at asked reply = filled-is old k (Some n) asked reply entry filled in
    subst (λ (e : Entry). PreparesMeeting script old new was now k n asked onward e child) (sym is)
    (meeting-by_parts script old new was now k entry.ticket n asked reply onward entry.at child ready refl filled.at (subst (HasPrepared script old new (way.On onward)) is prepared) met
    (subst (IsReadyFor now.node) is met_ready) bears)

-- what a prepared turn records makes of the actor's cell what its entry tells
pub recorded-acted : (script : List Procedure) (longest : ℕ) (holds : Configuration → Type 0) (old mid new : Holder) (k : ℕ) (target : Option ℕ) (entry : Entry) → Prepared script longest holds old mid k target entry → Records script mid new entry.act
    → cell_of script new ≡ acted (program_of script longest) entry (cell_of script old)
recorded-acted script longest holds old mid new k target entry prepared records =
    records ∙ (λ i. record { state = state_after (prepared.state i) entry.act; task = prepared.task i })

-- and of the cell that was met
pub recorded-served : (script : List Procedure) (longest : ℕ) (was mid now : Holder) (entry : Entry) (child : Option Task) → PreparedMet script longest was mid entry child → Serves script mid now entry.act child
    → cell_of script now ≡ served (program_of script longest) entry (cell_of script was)
recorded-served script longest was mid now entry child prepared serves =
    serves ∙ ap (λ (cell : Cell). served_cell cell entry.act (option_map (state_in script) child)) prepared.cell ∙ ap (served_cell (cell_of script was) entry.act) prepared.bears
