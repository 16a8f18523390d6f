-- The actor's cell after a turn, as an observer sees it.
use Rattle.std.proofs.Common.{◌≡◌, ◌∙◌, refl, sym, ap, ◌-◌, Bool, true, false, List, Option, Some, None}
use Rattle.std.specs.Prelude.{IsTrue}
use Rattle.std.specs.Option.{option_map}
use Rattle.lio_labels.specs.declared.label.Label.{Label}
use Rattle.lio_labels.specs.declared.privilege.Priv.{Priv}
use Rattle.lio_labels.specs.Flow.{flows}
use Rattle.lio_labels.proofs.FlowLemmas.{flow_is_transitive}
use Rattle.lio_values.specs.declared.value.Content.{Content}
use Rattle.lio_values.specs.declared.value.Value.{Value}
use Rattle.lio_values.specs.declared.act.Act.{Act}
use Rattle.lio_values.specs.declared.act.Act.TheVariants as act
use Rattle.lio_values.specs.declared.act.Reply.{Reply}
use Rattle.lio_values.specs.Erasure.{erase_content, erase_value, erase_act, erase_reply}
use Rattle.lio_values.proofs.ErasureLemmas.{value_erased_twice}
use Rattle.lio_cells.specs.declared.state.State.{State}
use Rattle.lio_cells.specs.declared.state.State.TheVariants.{Absent, Ref, Var, Chan, Job}
use Rattle.lio_cells.specs.State.{state_after}
use Rattle.lio_calculus.specs.Task.{TaskState}
use Rattle.lio_syntax.specs.Items.{Item, rest_of}
use Rattle.lio_calculus.specs.Going.{Onward, Raise, Unlabel, Release, Expose, released, gone, gone_on}
use Rattle.lio_calculus.specs.Hiding.{hide_task, hide_onward}
use Rattle.lio_calculus.specs.Step.{Cell, Move, actor_after}
use Rattle.lio_calculus.specs.Erased.{hide_state, hide_cell, erase_cell}
use Rattle.lio_calculus.specs.Guarded.{label_after, IsReleaseOf, IsAllowed}
use Rattle.lio_calculus.proofs.GoingLemmas.{rest_of-hidden}
use Rattle.lio_calculus.proofs.TwiceLemmas.{hide_task-twice}
use Rattle.lio_calculus.proofs.GoneLemmas.{Agrees, gone-hidden}
use Rattle.lio_calculus.proofs.InvisibleLemmas.{gone_on-label, erase_cell-unseen, erase_cell-seen}
use Rattle.lio_calculus.proofs.VisibleLemmas.{Appears}

hide_option-twice : (observer : Label) (value : Option Value) → option_map (erase_value observer) (option_map (erase_value observer) value) ≡ option_map (erase_value observer) value
hide_option-twice observer None = refl
hide_option-twice observer (Some value) = ap Some (value_erased_twice observer value)

pub hide_state-twice : (observer : Label) (state : State) → hide_state observer (hide_state observer state) ≡ hide_state observer state
hide_state-twice observer Absent = refl
hide_state-twice observer (Ref label value) = ap (Ref label) (value_erased_twice observer value)
hide_state-twice observer (Var label value) = ap (Var label) (hide_option-twice observer value)
hide_state-twice observer (Chan label bytes) = refl
hide_state-twice observer (Job label result) = refl

hide_tasks-twice : (observer : Label) (task : Option TaskState) → option_map (hide_task observer) (option_map (hide_task observer) task) ≡ option_map (hide_task observer) task
hide_tasks-twice observer None = refl
hide_tasks-twice observer (Some task) = ap Some (hide_task-twice observer task)

pub hide_cell-twice : (observer : Label) (cell : Cell) → hide_cell observer (hide_cell observer cell) ≡ hide_cell observer cell
hide_cell-twice observer cell = λ i. record { state = hide_state-twice observer cell.state i; task = hide_tasks-twice observer cell.task i }

-- how the label rises doesn't depend on values
label_after-hidden : (observer : Label) (onward : Onward) (current : Label) → label_after (hide_onward observer onward) current ≡ label_after onward current
unfolding hide_onward
label_after-hidden observer (Raise label) current = refl
label_after-hidden observer onward current = refl

-- what the observer may learn of a turn after which it still sees the task
released-same : (observer label source target : Label) (power : Priv) (content : Content) (seen : Act) → erase_act observer seen ≡ act.Release source target power (erase_content observer target content) → target ≡ label
    → erase_content observer label (released seen) ≡ erase_content observer label content
released-same observer label source target power content (act.Release source' target' power' content') alike to =
    let here : target' ≡ target = cc in
    let same : erase_content observer target' content' ≡ erase_content observer target content = cc in
    ap (λ (l : Label). erase_content observer l content') (sym (here ∙ to)) ∙ same ∙ ap (λ (l : Label). erase_content observer l content) to
released-same observer label source target power content asked alike to = absurd (cc)

exposed-same : (observer label source target : Label) (power : Priv) (content : Content) (seen : Act) → erase_act observer seen ≡ act.Expose source target power (erase_content observer target content) → target ≡ label
    → erase_content observer label (released seen) ≡ erase_content observer label content
exposed-same observer label source target power content (act.Expose source' target' power' content') alike to =
    let here : target' ≡ target = cc in
    let same : erase_content observer target' content' ≡ erase_content observer target content = cc in
    ap (λ (l : Label). erase_content observer l content') (sym (here ∙ to)) ∙ same ∙ ap (λ (l : Label). erase_content observer l content) to
exposed-same observer label source target power content asked alike to = absurd (cc)

released-alike : (observer label : Label) (asked seen : Act) → erase_act observer seen ≡ erase_act observer asked → IsReleaseOf asked label → erase_content observer label (released seen) ≡ erase_content observer label (released asked)
released-alike observer label (act.Release source target power content) seen alike is = released-same observer label source target power content seen alike is
released-alike observer label (act.Expose source target power content) seen alike is = exposed-same observer label source target power content seen alike is
released-alike observer label asked seen alike is = absurd is

agrees : (observer : Label) (current : Label) (onward : Onward) (asked seen : Act) → erase_act observer seen ≡ erase_act observer asked → IsAllowed asked onward → IsTrue (flows (label_after onward current) observer) → Agrees observer onward asked seen
agrees observer current (Unlabel name label source content) asked seen alike allowed visible = flow_is_transitive source label observer allowed visible
agrees observer current (Release name label) asked seen alike allowed visible = released-alike observer label asked seen alike allowed
agrees observer current (Expose name label) asked seen alike allowed visible = (visible, released-alike observer label asked seen alike allowed)
agrees observer current onward asked seen alike allowed visible = tt

-- the actor's task goes on as it is seen
gone_on-hidden : (observer : Label) (task : TaskState) (onward : Onward) (asked seen : Act) (reply : Reply) → Agrees observer onward asked seen
    → hide_task observer (gone_on (hide_task observer task) (hide_onward observer onward) seen (erase_reply observer reply)) ≡ hide_task observer (gone_on task onward asked reply)
unfolding gone_on
gone_on-hidden observer task onward asked seen reply agree =
    ap (λ (items : List Item). hide_task observer (gone (record (hide_task observer task) { items = items; turns = task.turns - 1 }) (hide_onward observer onward) seen (erase_reply observer reply))) (rest_of-hidden observer task.items)
    ∙ gone-hidden observer (record task { items = rest_of task.items; turns = task.turns - 1 }) onward asked seen reply agree

-- the actor's cell after the turn and after the erased turn, as the observer sees them
pub actor-alike : (observer : Label) (task : TaskState) (move seen : Move) (cell : Cell) → IsAllowed move.act move.onward → Appears observer move.act seen.act → seen.reply ≡ erase_reply observer move.reply → seen.onward ≡ hide_onward observer move.onward
    → erase_cell observer (actor_after (hide_task observer task) seen (hide_cell observer cell)) ≡ erase_cell observer (actor_after task move cell)
actor-alike observer task move seen cell allowed appears reply onward =
    ap (λ (t : TaskState). erase_cell observer (record { state = state_after (hide_state observer cell.state) seen.act; task = Some t })) (ap (λ (r : Reply). gone_on (hide_task observer task) seen.onward seen.act r) reply ∙ ap (λ (w : Onward). gone_on (hide_task observer task) w seen.act (erase_reply observer move.reply)) onward)
    ∙ decided (flows (label_after move.onward task.label) observer) refl
  where
    low_task : TaskState
    low_task = gone_on (hide_task observer task) (hide_onward observer move.onward) seen.act (erase_reply observer move.reply)

    high_task : TaskState
    high_task = gone_on task move.onward move.act move.reply

    low_label : flows low_task.label observer ≡ flows (label_after move.onward task.label) observer
    low_label = ap (λ (l : Label). flows l observer) (gone_on-label (hide_task observer task) (hide_onward observer move.onward) seen.act (erase_reply observer move.reply) ∙ label_after-hidden observer move.onward task.label)

    high_label : flows high_task.label observer ≡ flows (label_after move.onward task.label) observer
    high_label = ap (λ (l : Label). flows l observer) (gone_on-label task move.onward move.act move.reply)

    decided : (b : Bool) → flows (label_after move.onward task.label) observer ≡ b
        → erase_cell observer (record { state = state_after (hide_state observer cell.state) seen.act; task = Some low_task }) ≡ erase_cell observer (record { state = state_after cell.state move.act; task = Some high_task })
    decided false is = erase_cell-unseen observer _ (low_label ∙ is) ∙ sym (erase_cell-unseen observer _ (high_label ∙ is))
    decided true is =
        let state : hide_state observer (state_after (hide_state observer cell.state) seen.act) ≡ hide_state observer (state_after cell.state move.act) = ap (hide_state observer) (appears.state cell.state) ∙ hide_state-twice observer (state_after cell.state move.act) in
        let going : hide_task observer low_task ≡ hide_task observer high_task = gone_on-hidden observer task move.onward move.act seen.act move.reply (agrees observer task.label move.onward move.act seen.act appears.entry allowed is) in
        erase_cell-seen observer (record { state = state_after (hide_state observer cell.state) seen.act; task = Some low_task }) (low_label ∙ is)
        ∙ (λ i. record { state = state i; task = Some (going i) })
        ∙ sym (erase_cell-seen observer (record { state = state_after cell.state move.act; task = Some high_task }) (high_label ∙ is))
