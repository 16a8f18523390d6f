-- What a node that is seen with hidden values is ready for, answers, and becomes.
use Rattle.std.proofs.Common.{◌≡◌, ◌∙◌, refl, ap, Option, Some, None, is_some}
use Rattle.std.specs.Option.{option_map, option_map_or}
use Rattle.lio_labels.specs.declared.label.Label.{Label}
use Rattle.lio_values.specs.declared.value.Content.{Content}
use Rattle.lio_values.specs.declared.value.Value.{Value}
use Rattle.lio_values.specs.declared.act.Act.{Act}
use Rattle.lio_values.specs.declared.act.Act.TheVariants as act
use Rattle.lio_values.specs.declared.act.Reply.TheVariants.{Done, Got, Told}
use Rattle.lio_values.specs.Erasure.{erase_value, erase_reply}
use Rattle.lio_cells.specs.declared.state.State.{State}
use Rattle.lio_cells.specs.declared.state.State.TheVariants.{Absent, Var}
use Rattle.lio_cells.specs.State.{Kind, Reference, Variable, Channel, Result, is_absent, is_reference, is_channel, is_of, label_of, held, full_with, is_empty, result_of, ready, answer}
use Rattle.lio_calculus.specs.Hiding.{hide_asked}
use Rattle.lio_calculus.specs.Erased.{hide_state}

pub is_absent-hidden : (observer : Label) (state : State) → is_absent (hide_state observer state) ≡ is_absent state
is_absent-hidden observer Absent = refl
is_absent-hidden observer state = refl

is_reference-hidden : (observer : Label) (state : State) → is_reference (hide_state observer state) ≡ is_reference state
is_reference-hidden observer Absent = refl
is_reference-hidden observer state = refl

is_channel-hidden : (observer : Label) (state : State) → is_channel (hide_state observer state) ≡ is_channel state
is_channel-hidden observer Absent = refl
is_channel-hidden observer state = refl

-- a node's kind and label don't depend on values
pub is_of-hidden : (observer : Label) (kind : Kind) (state : State) → is_of kind (hide_state observer state) ≡ is_of kind state
is_of-hidden observer Reference state = is_reference-hidden observer state
is_of-hidden observer Channel state = is_channel-hidden observer state
is_of-hidden observer Variable Absent = refl
is_of-hidden observer Variable state = refl
is_of-hidden observer Result Absent = refl
is_of-hidden observer Result state = refl

pub label_of-hidden : (observer : Label) (state : State) → label_of (hide_state observer state) ≡ label_of state
label_of-hidden observer Absent = refl
label_of-hidden observer state = refl

held-hidden : (observer : Label) (state : State) → held (hide_state observer state) ≡ option_map (erase_value observer) (held state)
held-hidden observer Absent = refl
held-hidden observer state = refl

full_with-hidden : (observer : Label) (state : State) → full_with (hide_state observer state) ≡ option_map (erase_value observer) (full_with state)
full_with-hidden observer Absent = refl
full_with-hidden observer state = refl

is_empty-hidden : (observer : Label) (state : State) → is_empty (hide_state observer state) ≡ is_empty state
is_empty-hidden observer (Var label None) = refl
is_empty-hidden observer (Var label (Some value)) = refl
is_empty-hidden observer state = refl

result_of-hidden : (observer : Label) (state : State) → result_of (hide_state observer state) ≡ result_of state
result_of-hidden observer Absent = refl
result_of-hidden observer state = refl

is_some-map : {X Y : Type 0} (f : X → Y) (x : Option X) → is_some (option_map f x) ≡ is_some x
is_some-map f None = refl
is_some-map f (Some x) = refl

got-map : (observer : Label) (value : Option Value) → option_map_or Got (option_map (erase_value observer) value) Done ≡ erase_reply observer (option_map_or Got value Done)
got-map observer None = refl
got-map observer (Some value) = refl

told-map : (observer : Label) (content : Option Content) → option_map_or Told content Done ≡ erase_reply observer (option_map_or Told content Done)
told-map observer None = refl
told-map observer (Some content) = refl

-- readiness goes by what is there, and not by values
pub ready-hidden : (observer : Label) (state : State) (asked : Act) → ready (hide_state observer state) (hide_asked observer asked) ≡ ready state asked
unfolding ready hide_asked
ready-hidden observer state act.Read = is_reference-hidden observer state
ready-hidden observer state act.Take = ap (λ (v : Option Value). is_some v) (full_with-hidden observer state) ∙ is_some-map (erase_value observer) (full_with state)
ready-hidden observer state (act.Put value) = is_empty-hidden observer state
ready-hidden observer state act.Wait = ap (λ (c : Option Content). is_some c) (result_of-hidden observer state)
ready-hidden observer state (act.Write value) = is_reference-hidden observer state
ready-hidden observer state (act.Send text) = is_channel-hidden observer state
ready-hidden observer state (act.NewRef label value) = is_absent-hidden observer state
ready-hidden observer state (act.NewVar label value) = is_absent-hidden observer state
ready-hidden observer state (act.Fork birth) = is_absent-hidden observer state
ready-hidden observer state (act.Spawn birth) = is_absent-hidden observer state
ready-hidden observer state asked = refl

pub answer-hidden : (observer : Label) (state : State) (asked : Act) → answer (hide_state observer state) (hide_asked observer asked) ≡ erase_reply observer (answer state asked)
unfolding answer hide_asked
answer-hidden observer state act.Read = ap (λ (v : Option Value). option_map_or Got v Done) (held-hidden observer state) ∙ got-map observer (held state)
answer-hidden observer state act.Take = ap (λ (v : Option Value). option_map_or Got v Done) (full_with-hidden observer state) ∙ got-map observer (full_with state)
answer-hidden observer state act.Wait = ap (λ (c : Option Content). option_map_or Told c Done) (result_of-hidden observer state) ∙ told-map observer (result_of state)
answer-hidden observer state asked = refl
