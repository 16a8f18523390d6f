-- What a node keeps ready for an act, so that the act itself takes no memory: what it will put into the node's state.
use Rattle.std.specs.Prelude.{ℕ, List, ◌++◌, Some, None, if◌then◌else◌}
use Rattle.lio_values.specs.declared.act.Act.{Act}
use Rattle.lio_values.specs.declared.act.Act.TheVariants as act
use Rattle.lio_cells.specs.declared.state.State.{State}
use Rattle.lio_cells.specs.declared.state.State.TheVariants.{Absent, Ref, Var, Chan, Job}
use Rattle.lio_cells.specs.declared.room.Room.{Room}
use Rattle.lio_cells.specs.declared.room.Room.TheVariants.{Nothing, Empties, Holds, Receives, Becomes, Ends}
use Rattle.lio_cells.specs.State.{is_absent, is_reference, is_variable, is_job, written, filled, ended}

-- a channel will have received these bytes too
abbrev pub room_to_send : State → List ℕ → Room
room_to_send (Chan label before) bytes = Receives (before ++ bytes)
room_to_send Absent bytes = Nothing
room_to_send (Ref label value) bytes = Nothing
room_to_send (Var label value) bytes = Nothing
room_to_send (Job label result) bytes = Nothing

-- the room for an act: none where it changes nothing
unfoldable pub room_for : State → Act → Room
room_for state (act.Write value) = if is_reference state then Holds value else Nothing
room_for state act.Take = if is_variable state then Empties else Nothing
room_for state (act.Put value) = if is_variable state then Holds value else Nothing
room_for state (act.Send text) = room_to_send state text
room_for state (act.NewRef label value) = if is_absent state then Becomes (Ref label value) else Nothing
room_for state (act.NewVar label value) = if is_absent state then Becomes (Var label value) else Nothing
room_for state (act.Fork birth) = if is_absent state then Becomes (Job birth.result None) else Nothing
room_for state (act.Spawn birth) = if is_absent state then Becomes (Job birth.result None) else Nothing
room_for state (act.Ended content) = if is_job state then Ends content else Nothing
room_for state act.Read = Nothing
room_for state act.Wait = Nothing
room_for state act.Step = Nothing
room_for state (act.Seal label) = Nothing
room_for state (act.Raise op label) = Nothing
room_for state (act.Lower label) = Nothing
room_for state (act.Release source target power content) = Nothing
room_for state (act.Expose source target power content) = Nothing

-- a channel that has received these bytes in all
abbrev pub with_bytes : State → List ℕ → State
with_bytes (Chan label before) bytes = Chan label bytes
with_bytes Absent bytes = Absent
with_bytes (Ref label value) bytes = Ref label value
with_bytes (Var label value) bytes = Var label value
with_bytes (Job label result) bytes = Job label result

-- the state that a node's room makes
abbrev pub state_with : State → Room → State
state_with state Nothing = state
state_with state Empties = filled state None
state_with state (Holds value) = filled (written state value) (Some value)
state_with state (Receives bytes) = with_bytes state bytes
state_with state (Becomes new) = new
state_with state (Ends content) = ended state content
