-- What a node holds, which acts it is ready for, what it answers, and what an act makes of it: references, blocking variables, channels, and the
-- results of tasks (LIO, ICFP 2012). Each goes by the act first, and then by one word on the state.
use Rattle.std.specs.Prelude.{ℕ, Bool, true, false, List, ◌++◌, Option, Some, None, is_some, is_none}
use Rattle.std.specs.Option.{option_map_or}
use Rattle.lio_labels.specs.declared.label.Label.{Label}
use Rattle.lio_values.specs.declared.value.Content.{Content}
use Rattle.lio_values.specs.declared.value.Value.{Value}
use Rattle.lio_values.specs.declared.act.Act.{Act}
use Rattle.lio_values.specs.declared.act.Act.TheVariants as act
use Rattle.lio_values.specs.declared.act.Reply.{Reply}
use Rattle.lio_values.specs.declared.act.Reply.TheVariants.{Done, Got, Told}
use Rattle.lio_cells.specs.declared.state.State.{State}
use Rattle.lio_cells.specs.declared.state.State.TheVariants.{Absent, Ref, Var, Chan, Job}
use Rattle.lio_cells.specs.declared.wish.Wish.{Wish}
use Rattle.lio_cells.specs.declared.wish.Wish.TheVariants as wish

-- the kinds of nodes that a handle can name
pub data Kind : Type 0 where
  Reference : Kind
  Variable : Kind
  Channel : Kind
  Result : Kind

-- nothing is there
abbrev pub is_absent : State → Bool
is_absent Absent = true
is_absent (Ref label value) = false
is_absent (Var label value) = false
is_absent (Chan label received) = false
is_absent (Job label result) = false

-- a node of this kind is there
abbrev pub is_reference : State → Bool
is_reference (Ref label value) = true
is_reference Absent = false
is_reference (Var label value) = false
is_reference (Chan label received) = false
is_reference (Job label result) = false

abbrev pub is_variable : State → Bool
is_variable (Var label value) = true
is_variable Absent = false
is_variable (Ref label value) = false
is_variable (Chan label received) = false
is_variable (Job label result) = false

abbrev pub is_channel : State → Bool
is_channel (Chan label received) = true
is_channel Absent = false
is_channel (Ref label value) = false
is_channel (Var label value) = false
is_channel (Job label result) = false

abbrev pub is_job : State → Bool
is_job (Job label result) = true
is_job Absent = false
is_job (Ref label value) = false
is_job (Var label value) = false
is_job (Chan label received) = false

abbrev pub is_of : Kind → State → Bool
is_of Reference state = is_reference state
is_of Variable state = is_variable state
is_of Channel state = is_channel state
is_of Result state = is_job state

-- the label of a node: of a job, that of its result
abbrev pub label_of : State → Option Label
label_of Absent = None
label_of (Ref label value) = Some label
label_of (Var label value) = Some label
label_of (Chan label received) = Some label
label_of (Job label result) = Some label

-- what a reference holds
abbrev pub held : State → Option Value
held (Ref label value) = Some value
held Absent = None
held (Var label value) = None
held (Chan label received) = None
held (Job label result) = None

-- what a full variable holds
abbrev pub full_with : State → Option Value
full_with (Var label value) = value
full_with Absent = None
full_with (Ref label value) = None
full_with (Chan label received) = None
full_with (Job label result) = None

-- a variable that holds nothing
abbrev pub is_empty : State → Bool
is_empty (Var label value) = is_none value
is_empty Absent = false
is_empty (Ref label value) = false
is_empty (Chan label received) = false
is_empty (Job label result) = false

-- what a task ended with
abbrev pub result_of : State → Option Content
result_of (Job label result) = result
result_of Absent = None
result_of (Ref label value) = None
result_of (Var label value) = None
result_of (Chan label received) = None

-- whether a node is ready for an act of another one's task
unfoldable pub ready : State → Act → Bool
ready state act.Read = is_reference state
ready state act.Take = is_some (full_with state)
ready state (act.Put value) = is_empty state
ready state act.Wait = is_some (result_of state)
ready state (act.Write value) = is_reference state
ready state (act.Send text) = is_channel state
ready state (act.NewRef label value) = is_absent state
ready state (act.NewVar label value) = is_absent state
ready state (act.Fork birth) = is_absent state
ready state (act.Spawn birth) = is_absent state
ready state act.Step = false
ready state (act.Seal label) = false
ready state (act.Raise op label) = false
ready state (act.Lower label) = false
ready state (act.Release source target power content) = false
ready state (act.Expose source target power content) = false
ready state (act.Ended content) = false

-- whether a node gives what a task at its access wishes for: a full variable, an empty one, or the result of a task
abbrev pub grants : State → Wish → Bool
grants state wish.Take = is_some (full_with state)
grants state wish.Put = is_empty state
grants state wish.Wait = is_some (result_of state)

-- what a node answers an act
unfoldable pub answer : State → Act → Reply
answer state act.Read = option_map_or Got (held state) Done
answer state act.Take = option_map_or Got (full_with state) Done
answer state act.Wait = option_map_or Told (result_of state) Done
answer state (act.Put value) = Done
answer state (act.Write value) = Done
answer state (act.Send text) = Done
answer state (act.NewRef label value) = Done
answer state (act.NewVar label value) = Done
answer state (act.Fork birth) = Done
answer state (act.Spawn birth) = Done
answer state act.Step = Done
answer state (act.Seal label) = Done
answer state (act.Raise op label) = Done
answer state (act.Lower label) = Done
answer state (act.Release source target power content) = Done
answer state (act.Expose source target power content) = Done
answer state (act.Ended content) = Done

-- a reference that holds another value, and a variable that is full or empty
abbrev pub written : State → Value → State
written (Ref label before) value = Ref label value
written Absent value = Absent
written (Var label before) value = Var label before
written (Chan label received) value = Chan label received
written (Job label result) value = Job label result

abbrev pub filled : State → Option Value → State
filled (Var label before) value = Var label value
filled Absent value = Absent
filled (Ref label before) value = Ref label before
filled (Chan label received) value = Chan label received
filled (Job label result) value = Job label result

-- a channel that has received more bytes
abbrev pub received : State → List ℕ → State
received (Chan label before) bytes = Chan label (before ++ bytes)
received Absent bytes = Absent
received (Ref label value) bytes = Ref label value
received (Var label value) bytes = Var label value
received (Job label result) bytes = Job label result

-- a job whose task has ended with this content
abbrev pub ended : State → Content → State
ended (Job label result) content = Job label (Some content)
ended Absent content = Absent
ended (Ref label value) content = Ref label value
ended (Var label value) content = Var label value
ended (Chan label bytes) content = Chan label bytes

-- a new node, where nothing is there
abbrev pub placed : State → State → State
placed Absent new = new
placed (Ref label value) new = Ref label value
placed (Var label value) new = Var label value
placed (Chan label bytes) new = Chan label bytes
placed (Job label result) new = Job label result

-- the state after an act: one function for the node that an act meets and for the actor's own, since the kinds of nodes differ
unfoldable pub state_after : State → Act → State
state_after state (act.Write value) = written state value
state_after state act.Take = filled state None
state_after state (act.Put value) = filled state (Some value)
state_after state (act.Send text) = received state text
state_after state (act.NewRef label value) = placed state (Ref label value)
state_after state (act.NewVar label value) = placed state (Var label value)
state_after state (act.Fork birth) = placed state (Job birth.result None)
state_after state (act.Spawn birth) = placed state (Job birth.result None)
state_after state (act.Ended content) = ended state content
state_after state act.Read = state
state_after state act.Wait = state
state_after state act.Step = state
state_after state (act.Seal label) = state
state_after state (act.Raise op label) = state
state_after state (act.Lower label) = state
state_after state (act.Release source target power content) = state
state_after state (act.Expose source target power content) = state
