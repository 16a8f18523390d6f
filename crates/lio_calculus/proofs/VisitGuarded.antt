-- The visits of nodes in a well-formed configuration are guarded.
use Rattle.std.proofs.Common.{◌≡◌, ◌∙◌, refl, sym, ap, subst, ℕ, ◌≤◌, Bool, true, false, not, if◌then◌else◌, IsTrue, List, Option, Some, None, is_some, true≢false, arith}
use Rattle.std.specs.Option.{option_map_or}
use Rattle.lio_labels.specs.declared.label.Label.{Label}
use Rattle.lio_labels.specs.Flow.{flows}
use Rattle.lio_labels.proofs.FlowLemmas.{flow_is_reflexive, flow_is_transitive}
use Rattle.lio_values.specs.declared.value.Handle.{Handle}
use Rattle.lio_values.specs.declared.value.Value.{Value}
use Rattle.lio_values.specs.declared.act.Act.{Act}
use Rattle.lio_values.specs.declared.act.Act.TheVariants as act
use Rattle.lio_values.specs.declared.act.Birth.{Birth}
use Rattle.lio_cells.specs.declared.state.State.{State}
use Rattle.lio_cells.specs.declared.state.State.TheVariants.{Absent}
use Rattle.lio_cells.specs.State.{Kind, Reference, Variable, Channel, Result as result, is_job, label_of, result_of, ready, answer, state_after}
use Rattle.lio_calculus.specs.Task.{TaskState}
use Rattle.lio_calculus.specs.Going.{Onward, Advance, HoldReference, HoldVariable, Fork, Spawn, BindReply}
use Rattle.lio_calculus.specs.Plan.{Program, Visit, Node, New}
use Rattle.lio_calculus.specs.Step.{Cell, Configuration, blank, cell_at, Move, move_of, is_met, visit, waits, born, child_of, task_after, met_after}
use Rattle.lio_calculus.specs.Erased.{label_of_cell}
use Rattle.lio_calculus.specs.Guarded.{label_after, changes, IsNoRelease, IsAllowed, IsVisitGuarded}
use Rattle.lio_calculus.specs.Sound.{Names, IsTaskOf, IsSound}
use Rattle.lio_calculus.proofs.SoundLemmas.{named-label, named-kind, task-job}
use Rattle.lio_calculus.proofs.GuardedLemmas.{GuardedBy, reference-no_job, variable-no_job, channel-no_job, taskless}

-- an act that keeps the label of what it meets, and gives birth to nothing
pub record Keeps (asked : Act) : Type 0 where
  pub state : (s : State) → label_of (state_after s asked) ≡ label_of s
  pub unborn : (program : Program) (label : Label) → born program label asked ≡ None
  pub quiet : IsNoRelease asked

keeps-label : (program : Program) (label : Label) (asked : Act) (cell : Cell) → Keeps asked → label_of_cell cell ≡ label_of_cell (met_after program label asked cell)
keeps-label program label asked cell keeps =
    with_task cell.task ∙ ap (λ (t : Option TaskState). option_map_or (λ (task : TaskState). Some task.label) (task_after cell.task t) (label_of (state_after cell.state asked))) (sym (keeps.unborn program label))
  where
    with_task : (t : Option TaskState) → option_map_or (λ (task : TaskState). Some task.label) t (label_of cell.state) ≡ option_map_or (λ (task : TaskState). Some task.label) (task_after t None) (label_of (state_after cell.state asked))
    with_task None = sym (keeps.state cell.state)
    with_task (Some task) = refl

write-keeps : (value : Value) → Keeps (act.Write value)
unfolding state_after
write-keeps value = record { state = same; unborn = λ program label. refl; quiet = tt }
  where
    same : (s : State) → label_of (state_after s (act.Write value)) ≡ label_of s
    same Absent = refl
    same state = refl

take-keeps : Keeps act.Take
unfolding state_after
take-keeps = record { state = same; unborn = λ program label. refl; quiet = tt }
  where
    same : (s : State) → label_of (state_after s act.Take) ≡ label_of s
    same Absent = refl
    same state = refl

put-keeps : (value : Value) → Keeps (act.Put value)
unfolding state_after
put-keeps value = record { state = same; unborn = λ program label. refl; quiet = tt }
  where
    same : (s : State) → label_of (state_after s (act.Put value)) ≡ label_of s
    same Absent = refl
    same state = refl

send-keeps : (text : List ℕ) → Keeps (act.Send text)
unfolding state_after
send-keeps text = record { state = same; unborn = λ program label. refl; quiet = tt }
  where
    same : (s : State) → label_of (state_after s (act.Send text)) ≡ label_of s
    same Absent = refl
    same state = refl

read-keeps : Keeps act.Read
unfolding state_after
read-keeps = record { state = λ s. refl; unborn = λ program label. refl; quiet = tt }

wait-keeps : Keeps act.Wait
unfolding state_after
wait-keeps = record { state = λ s. refl; unborn = λ program label. refl; quiet = tt }

-- a visit of a node that a handle names, whose label is above the task's where it changes, and below where the task waits for it
node-guarded : (c : Configuration) (k : ℕ) (task : TaskState) (asked : Act) (kind : Kind) (handle : Handle) (onward : Onward) (label : Label) → Keeps asked → (k ≡ handle.number → ⊥)
    → label_of_cell (cell_at c handle.number) ≡ Some label → (IsTrue (waits asked) → IsTrue (flows label task.label)) → (IsTrue (changes asked) → IsTrue (flows task.label label))
    → label_after onward task.label ≡ task.label → IsAllowed asked onward → IsVisitGuarded c k task asked (Node kind handle) onward
node-guarded c k task asked kind handle onward label keeps other has below above stays allowed =
    let same : label_of_cell (cell_at c handle.number) ≡ label_of_cell (met_after c.program task.label asked (cell_at c handle.number)) = keeps-label c.program task.label asked (cell_at c handle.number) keeps in
    record {
      other = other;
      below = λ w. (label, has, below w);
      above = λ ch m l e. let is : Some label ≡ Some l = sym has ∙ same ∙ e in let equal : label ≡ l = cc in subst (λ (x : Label). IsTrue (flows task.label x)) equal (above ch);
      before = same;
      stays = stays;
      quiet = keeps.quiet;
      allowed = allowed;
    }

-- nodes of the kinds that have no task
reference-other : (c : Configuration) (k : ℕ) (task : TaskState) (handle : Handle) → IsSound c → IsTaskOf c k task → Names c Reference handle → k ≡ handle.number → ⊥
reference-other c k task handle sound is names e = reference-no_job (cell_at c handle.number).state (named-kind Reference handle _ names) (subst (λ (n : ℕ). is_job (cell_at c n).state ≡ true) e (task-job c k task sound is))

variable-other : (c : Configuration) (k : ℕ) (task : TaskState) (handle : Handle) → IsSound c → IsTaskOf c k task → Names c Variable handle → k ≡ handle.number → ⊥
variable-other c k task handle sound is names e = variable-no_job (cell_at c handle.number).state (named-kind Variable handle _ names) (subst (λ (n : ℕ). is_job (cell_at c n).state ≡ true) e (task-job c k task sound is))

channel-other : (c : Configuration) (k : ℕ) (task : TaskState) (handle : Handle) → IsSound c → IsTaskOf c k task → Names c Channel handle → k ≡ handle.number → ⊥
channel-other c k task handle sound is names e = channel-no_job (cell_at c handle.number).state (named-kind Channel handle _ names) (subst (λ (n : ℕ). is_job (cell_at c n).state ≡ true) e (task-job c k task sound is))

not_job : (state : State) → (is_job state ≡ true → ⊥) → is_job state ≡ false
not_job state no_ = by (is_job state) refl
  where
    by : (b : Bool) → is_job state ≡ b → is_job state ≡ false
    by true e = absurd (no_ e)
    by false e = e

node-label : (c : Configuration) (kind : Kind) (handle : Handle) → IsSound c → Names c kind handle → (is_job (cell_at c handle.number).state ≡ true → ⊥) → label_of_cell (cell_at c handle.number) ≡ Some handle.label
node-label c kind handle sound names no_ = taskless c handle.number sound (not_job (cell_at c handle.number).state no_) ∙ named-label kind handle (cell_at c handle.number).state names

pub write-guarded : (c : Configuration) (k : ℕ) (task : TaskState) (value : Value) (handle : Handle) → IsSound c → IsTaskOf c k task → Names c Reference handle → IsTrue (flows task.label handle.label) → IsVisitGuarded c k task (act.Write value) (Node Reference handle) Advance
write-guarded c k task value handle sound is names above =
    node-guarded c k task (act.Write value) Reference handle Advance handle.label (write-keeps value) (reference-other c k task handle sound is names)
    (node-label c Reference handle sound names (λ j. reference-no_job _ (named-kind Reference handle _ names) j)) (λ w. absurd (true≢false (sym w))) (λ w. above) refl tt

pub read-guarded : (c : Configuration) (k : ℕ) (task : TaskState) (name : List ℕ) (handle : Handle) → IsSound c → IsTaskOf c k task → Names c Reference handle → IsTrue (flows handle.label task.label) → IsVisitGuarded c k task act.Read (Node Reference handle) (BindReply name)
read-guarded c k task name handle sound is names below =
    node-guarded c k task act.Read Reference handle (BindReply name) handle.label read-keeps (reference-other c k task handle sound is names)
    (node-label c Reference handle sound names (λ j. reference-no_job _ (named-kind Reference handle _ names) j)) (λ w. below) (λ w. absurd (true≢false (sym w))) refl tt

pub send-guarded : (c : Configuration) (k : ℕ) (task : TaskState) (text : List ℕ) (handle : Handle) → IsSound c → IsTaskOf c k task → Names c Channel handle → IsTrue (flows task.label handle.label) → IsVisitGuarded c k task (act.Send text) (Node Channel handle) Advance
send-guarded c k task text handle sound is names above =
    node-guarded c k task (act.Send text) Channel handle Advance handle.label (send-keeps text) (channel-other c k task handle sound is names)
    (node-label c Channel handle sound names (λ j. channel-no_job _ (named-kind Channel handle _ names) j)) (λ w. absurd (true≢false (sym w))) (λ w. above) refl tt

pub take-guarded : (c : Configuration) (k : ℕ) (task : TaskState) (name : List ℕ) (handle : Handle) → IsSound c → IsTaskOf c k task → Names c Variable handle → handle.label ≡ task.label → IsVisitGuarded c k task act.Take (Node Variable handle) (BindReply name)
take-guarded c k task name handle sound is names equal =
    node-guarded c k task act.Take Variable handle (BindReply name) handle.label take-keeps (variable-other c k task handle sound is names)
    (node-label c Variable handle sound names (λ j. variable-no_job _ (named-kind Variable handle _ names) j))
    (λ w. subst (λ (l : Label). IsTrue (flows handle.label l)) equal (flow_is_reflexive handle.label)) (λ w. subst (λ (l : Label). IsTrue (flows l handle.label)) equal (flow_is_reflexive handle.label)) refl tt

pub put-guarded : (c : Configuration) (k : ℕ) (task : TaskState) (value : Value) (handle : Handle) → IsSound c → IsTaskOf c k task → Names c Variable handle → handle.label ≡ task.label → IsVisitGuarded c k task (act.Put value) (Node Variable handle) Advance
put-guarded c k task value handle sound is names equal =
    node-guarded c k task (act.Put value) Variable handle Advance handle.label (put-keeps value) (variable-other c k task handle sound is names)
    (node-label c Variable handle sound names (λ j. variable-no_job _ (named-kind Variable handle _ names) j))
    (λ w. subst (λ (l : Label). IsTrue (flows handle.label l)) equal (flow_is_reflexive handle.label)) (λ w. subst (λ (l : Label). IsTrue (flows l handle.label)) equal (flow_is_reflexive handle.label)) refl tt

-- the task of a job that a handle names, whose label flows to the handle's
job-task : (c : Configuration) (handle : Handle) → IsSound c → Names c result handle → (task : TaskState) × (label_of_cell (cell_at c handle.number) ≡ Some task.label) × IsTrue (flows task.label handle.label)
job-task c handle sound names = by (cell_at c handle.number).task refl
  where
    by : (t : Option TaskState) → (cell_at c handle.number).task ≡ t → (task : TaskState) × (label_of_cell (cell_at c handle.number) ≡ Some task.label) × IsTrue (flows task.label handle.label)
    by None e = absurd (true≢false (sym (named-kind result handle (cell_at c handle.number).state names) ∙ sym (sound.jobs handle.number) ∙ ap is_some e))
    by (Some task) e = (
      task,
      ap (λ (t : Option TaskState). option_map_or (λ (x : TaskState). Some x.label) t (label_of (cell_at c handle.number).state)) e,
      flow_is_transitive task.label task.clearance handle.label (sound.clearance handle.number task e) (sound.result handle.number task handle.label e (named-label result handle (cell_at c handle.number).state names)),
    )

-- a task that can take the access of a wait waits for another one
wait-other : (c : Configuration) (k : ℕ) (task : TaskState) (handle : Handle) (onward : Onward) (move : Move) → IsSound c → IsTaskOf c k task → task.ended ≡ false → Names c result handle
    → move_of (cell_at c) (Visit act.Wait (Node result handle) onward) ≡ Some move → k ≡ handle.number → ⊥
unfolding ready
wait-other c k task handle onward move sound is going names moves e = by (is_met (Node result handle) (cell_at c handle.number).state) names moves
  where
    unended : is_some (result_of (cell_at c handle.number).state) ≡ false
    unended = subst (λ (n : ℕ). is_some (result_of (cell_at c n).state) ≡ false) e (sound.ended k task is ∙ going)

    stands : (b : Bool) → b ≡ false → (if not b then None else Some (record { act = act.Wait; target = Some (Node result handle); reply = answer (cell_at c handle.number).state act.Wait; onward = onward })) ≡ Some move → ⊥
    stands false no_ m = absurd (cc)
    stands true no_ m = true≢false no_

    by : (b : Bool) → b ≡ true → visit act.Wait (Node result handle) onward (if b then (cell_at c handle.number).state else Absent) ≡ Some move → ⊥
    by true yes_ m = stands (is_some (result_of (cell_at c handle.number).state)) unended m
    by false no_ m = true≢false (sym no_)

pub wait-guarded : (c : Configuration) (k : ℕ) (task : TaskState) (name : List ℕ) (handle : Handle) → IsSound c → IsTaskOf c k task → task.ended ≡ false → Names c result handle → IsTrue (flows handle.label task.label)
    → GuardedBy c k task (Visit act.Wait (Node result handle) (BindReply name))
unfolding GuardedBy
wait-guarded c k task name handle sound is going names below = λ move moves.
    let job = job-task c handle sound names in
    node-guarded c k task act.Wait result handle (BindReply name) job.0.label wait-keeps (wait-other c k task handle (BindReply name) move sound is going names moves)
    job.1 (λ w. flow_is_transitive job.0.label handle.label task.label job.2 below) (λ w. absurd (true≢false (sym w))) refl tt

-- a new node, at the first number of the task's range
first-blank : (c : Configuration) (k : ℕ) (task : TaskState) → IsSound c → IsTaskOf c k task → 1 ≤ task.cells → cell_at c task.first ≡ blank
first-blank c k task sound is room = sound.free k task.first task is (record { from = omega arith; below = omega arith })

new-guarded : (c : Configuration) (k : ℕ) (task : TaskState) (asked : Act) (onward : Onward) (label : Label) → IsSound c → IsTaskOf c k task → 1 ≤ task.cells
    → waits asked ≡ false → label_of_cell (met_after c.program task.label asked blank) ≡ Some label → IsTrue (flows task.label label) → IsNoRelease asked → label_after onward task.label ≡ task.label → IsAllowed asked onward
    → IsVisitGuarded c k task asked (New task.first) onward
new-guarded c k task asked onward label sound is room quick has above quiet stays allowed =
    let empty : cell_at c task.first ≡ blank = first-blank c k task sound is room in
    record {
      other = λ e. let at_k : cell_at c k ≡ blank = ap (cell_at c) e ∙ empty in let none : Some task ≡ None = sym is ∙ ap (λ (x : Cell). x.task) at_k in absurd (cc);
      below = λ w. absurd (true≢false (sym w ∙ quick));
      above = λ ch m l e. let is_label : Some label ≡ Some l = sym has ∙ ap (λ (x : Cell). label_of_cell (met_after c.program task.label asked x)) (sym empty) ∙ e in let equal : label ≡ l = cc in subst (λ (x : Label). IsTrue (flows task.label x)) equal above;
      before = empty;
      stays = stays;
      quiet = quiet;
      allowed = allowed;
    }

pub new_reference-guarded : (c : Configuration) (k : ℕ) (task : TaskState) (name : List ℕ) (label : Label) (value : Value) → IsSound c → IsTaskOf c k task → 1 ≤ task.cells → IsTrue (flows task.label label)
    → IsVisitGuarded c k task (act.NewRef label value) (New task.first) (HoldReference name label)
unfolding state_after
new_reference-guarded c k task name label value sound is room above = new-guarded c k task (act.NewRef label value) (HoldReference name label) label sound is room refl refl above tt refl tt

pub new_variable-guarded : (c : Configuration) (k : ℕ) (task : TaskState) (name : List ℕ) (label : Label) (value : Option Value) → IsSound c → IsTaskOf c k task → 1 ≤ task.cells → IsTrue (flows task.label label)
    → IsVisitGuarded c k task (act.NewVar label value) (New task.first) (HoldVariable name label)
unfolding state_after
new_variable-guarded c k task name label value sound is room above = new-guarded c k task (act.NewVar label value) (HoldVariable name label) label sound is room refl refl above tt refl tt

pub fork-guarded : (c : Configuration) (k : ℕ) (task : TaskState) (name : List ℕ) (label : Label) (cells turns : ℕ) (birth : Birth) → IsSound c → IsTaskOf c k task → 1 ≤ task.cells
    → IsVisitGuarded c k task (act.Fork birth) (New task.first) (Fork name label cells turns)
unfolding state_after child_of
fork-guarded c k task name label cells turns birth sound is room = new-guarded c k task (act.Fork birth) (Fork name label cells turns) task.label sound is room refl refl (flow_is_reflexive task.label) tt refl tt

pub spawn-guarded : (c : Configuration) (k : ℕ) (task : TaskState) (cells turns : ℕ) (birth : Birth) → IsSound c → IsTaskOf c k task → 1 ≤ task.cells
    → IsVisitGuarded c k task (act.Spawn birth) (New task.first) (Spawn cells turns)
unfolding state_after child_of
spawn-guarded c k task cells turns birth sound is room = new-guarded c k task (act.Spawn birth) (Spawn cells turns) task.label sound is room refl refl (flow_is_reflexive task.label) tt refl tt
