-- What is reserved for an act makes the state after it.
use Rattle.std.proofs.Common.{◌≡◌, ℕ, cond, Some, None, List, refl, ap, ◌∙◌}
use Rattle.lio_values.specs.declared.value.Content.{Content}
use Rattle.lio_values.specs.declared.value.Value.{Value}
use Rattle.lio_values.specs.declared.act.Act.{Act}
use Rattle.lio_values.specs.declared.act.Act.TheVariants as act
use Rattle.lio_cells.specs.declared.state.State.{State}
use Rattle.lio_cells.specs.declared.state.State.TheVariants.{Absent, Ref, Var, Chan, Job}
use Rattle.lio_cells.specs.declared.room.Room.{Room}
use Rattle.lio_cells.specs.declared.room.Room.TheVariants.{Nothing, Empties, Holds, Becomes, Ends}
use Rattle.lio_cells.specs.State.{is_absent, is_reference, is_variable, is_job, written, filled, received, ended, placed, state_after}
use Rattle.lio_cells.specs.Room.{room_to_send, room_for, state_with}

made-write : (state : State) (value : Value) → state_with state (cond (is_reference state) (Holds value) Nothing) ≡ written state value
made-write Absent value = refl
made-write (Ref label held) value = refl
made-write (Var label held) value = refl
made-write (Chan label bytes) value = refl
made-write (Job label result) value = refl

made-take : (state : State) → state_with state (cond (is_variable state) Empties Nothing) ≡ filled state None
made-take Absent = refl
made-take (Ref label value) = refl
made-take (Var label value) = refl
made-take (Chan label bytes) = refl
made-take (Job label result) = refl

made-put : (state : State) (value : Value) → state_with state (cond (is_variable state) (Holds value) Nothing) ≡ filled state (Some value)
made-put Absent value = refl
made-put (Ref label held) value = refl
made-put (Var label held) value = refl
made-put (Chan label bytes) value = refl
made-put (Job label result) value = refl

made-send : (state : State) (text : List ℕ) → state_with state (room_to_send state text) ≡ received state text
made-send Absent text = refl
made-send (Ref label value) text = refl
made-send (Var label value) text = refl
made-send (Chan label bytes) text = refl
made-send (Job label result) text = refl

made-place : (state : State) (new : State) → state_with state (cond (is_absent state) (Becomes new) Nothing) ≡ placed state new
made-place Absent new = refl
made-place (Ref label value) new = refl
made-place (Var label value) new = refl
made-place (Chan label bytes) new = refl
made-place (Job label result) new = refl

made-end : (state : State) (content : Content) → state_with state (cond (is_job state) (Ends content) Nothing) ≡ ended state content
made-end Absent content = refl
made-end (Ref label value) content = refl
made-end (Var label value) content = refl
made-end (Chan label bytes) content = refl
made-end (Job label result) content = refl

-- what is reserved for an act makes the state after it
pub state_with-room_for : (state : State) (a : Act) → state_with state (room_for state a) ≡ state_after state a
unfolding room_for state_after
state_with-room_for state (act.Write value) = made-write state value
state_with-room_for state act.Take = made-take state
state_with-room_for state (act.Put value) = made-put state value
state_with-room_for state (act.Send text) = made-send state text
state_with-room_for state (act.NewRef label value) = made-place state (Ref label value)
state_with-room_for state (act.NewVar label value) = made-place state (Var label value)
state_with-room_for state (act.Fork birth) = made-place state (Job birth.result None)
state_with-room_for state (act.Spawn birth) = made-place state (Job birth.result None)
state_with-room_for state (act.Ended content) = made-end state content
state_with-room_for state act.Read = refl
state_with-room_for state act.Wait = refl
state_with-room_for state act.Step = refl
state_with-room_for state (act.Seal label) = refl
state_with-room_for state (act.Raise op label) = refl
state_with-room_for state (act.Lower label) = refl
state_with-room_for state (act.Release source target power content) = refl
state_with-room_for state (act.Expose source target power content) = refl

-- a state that an act makes of what was reserved for it
pub served-state : (state moved made : State) (room : Room) (a : Act) → moved ≡ state → room ≡ room_for state a → made ≡ state_with moved room → made ≡ state_after state a
served-state state moved made room a p q e =
    e ∙ ap (λ s. state_with s room) p ∙ ap (state_with state) q ∙ state_with-room_for state a
