-- A task that is seen with hidden values goes on as the task does, where it stays visible.
use Rattle.std.proofs.Common.{◌≡◌, ◌∙◌, refl, sym, ap, ℕ, ◌-◌, List, ◌∷◌}
use Rattle.std.specs.Prelude.{IsTrue}
use Rattle.lio_labels.specs.declared.label.Label.{Label}
use Rattle.lio_labels.specs.Flow.{flows}
use Rattle.lio_values.specs.declared.value.Content.{Content}
use Rattle.lio_values.specs.declared.value.Plain.TheVariants.{RefOf, VarOf, ResultOf}
use Rattle.lio_values.specs.declared.value.Value.{Value}
use Rattle.lio_values.specs.declared.value.Value.TheVariants.{Bare, Sealed}
use Rattle.lio_values.specs.declared.act.Act.{Act}
use Rattle.lio_values.specs.declared.act.Reply.{Reply}
use Rattle.lio_values.specs.Erasure.{erase_content, erase_value, erase_reply}
use Rattle.lio_syntax.specs.Statements.{While}
use Rattle.lio_calculus.specs.Task.{TaskState}
use Rattle.lio_syntax.specs.Items.{Item, Do, Mark, Back, enter}
use Rattle.lio_calculus.specs.Going.{Onward, Advance, Bind, Seal, Enter, Repeat, Try, Call, Return, Leave, Unlabel, Release, Expose, HoldReference, HoldVariable, Fork, BindReply, Throw, End, binding, given, released, taking, newest, gone}
use Rattle.lio_syntax.specs.Hiding.{hide_environment}
use Rattle.lio_syntax.proofs.HidingLemmas.{enter-hidden}
use Rattle.lio_calculus.specs.Hiding.{hide_task, hide_onward}
use Rattle.lio_calculus.proofs.GoingLemmas.{returned-hidden, at-hidden, binding-hidden, bound-alike, throwing-hidden, given-hidden, replied-hidden}
use Rattle.lio_calculus.proofs.TwiceLemmas.{hide_task-twice}

-- what a way of going on asks of the task's act and of what the observer may learn: an unlabelled content is one that it may learn, since the task is seen at
-- a label above the content's; what is released is the same to the observer; and so is what is exposed, which it may learn for the same reason
abbrev pub Agrees : Label → Onward → Act → Act → Type 0
Agrees observer (Unlabel name label source content) act seen = IsTrue (flows source observer)
Agrees observer (Release name label) act seen = erase_content observer label (released seen) ≡ erase_content observer label (released act)
Agrees observer (Expose name label) act seen = IsTrue (flows label observer) × (erase_content observer label (released seen) ≡ erase_content observer label (released act))
Agrees observer onward act seen = Unit {0}

learned : (observer source : Label) (content : Content) → IsTrue (flows source observer) → erase_content observer source content ≡ content
unfolding erase_content
learned observer source content may = rw may refl

-- from one that goes on alike before it is hidden once more
once_more : (observer : Label) (seen task : TaskState) → seen ≡ hide_task observer task → hide_task observer seen ≡ hide_task observer task
once_more observer seen task is = ap (hide_task observer) is ∙ hide_task-twice observer task

holding-hidden : (observer : Label) (task : TaskState) (name : List ℕ) (value : Value) (cells : ℕ) → erase_value observer value ≡ value
    → taking (binding (hide_task observer task) name value) cells ≡ hide_task observer (taking (binding task name value) cells)
holding-hidden observer task name value cells bare =
    ap (λ (v : Value). taking (binding (hide_task observer task) name v) cells) (sym bare) ∙ ap (λ (t : TaskState). taking t cells) (binding-hidden observer task name value)

-- the task goes on as it is seen
pub gone-hidden : (observer : Label) (task : TaskState) (onward : Onward) (act seen : Act) (reply : Reply) → Agrees observer onward act seen
    → hide_task observer (gone (hide_task observer task) (hide_onward observer onward) seen (erase_reply observer reply)) ≡ hide_task observer (gone task onward act reply)
unfolding hide_onward
gone-hidden observer task Advance act seen reply agrees = hide_task-twice observer task
gone-hidden observer task (Bind name value) act seen reply agrees = once_more observer _ (binding task name value) (binding-hidden observer task name value)
gone-hidden observer task (Seal name label plain) act seen reply agrees = bound-alike observer task name _ _ refl
gone-hidden observer task (Enter block) act seen reply agrees =
    once_more observer _ (record task { items = enter block task.items }) (ap (λ (items : List Item). record task { environment = hide_environment observer task.environment; items = items }) (enter-hidden observer block task.items))
gone-hidden observer task (Repeat condition block) act seen reply agrees =
    once_more observer _ (record task { items = enter block (Do (While condition block) ∷ task.items) })
    (ap (λ (items : List Item). record task { environment = hide_environment observer task.environment; items = items }) (enter-hidden observer block (Do (While condition block) ∷ task.items)))
gone-hidden observer task (Try block code payload handler) act seen reply agrees =
    once_more observer _ (record task { items = enter block (Mark code payload handler ∷ task.items) })
    (ap (λ (items : List Item). record task { environment = hide_environment observer task.environment; items = items }) (enter-hidden observer block (Mark code payload handler ∷ task.items)))
gone-hidden observer task (Call name environment body) act seen reply agrees =
    once_more observer _ (record task { environment = environment; items = enter body (Back task.environment name ∷ task.items) })
    (ap (λ (items : List Item). record task { environment = hide_environment observer environment; items = items }) (enter-hidden observer body (Back task.environment name ∷ task.items)))
gone-hidden observer task (Return value) act seen reply agrees =
    once_more observer _ (gone task (Return value) act reply) (rw (returned-hidden observer value task.environment task.items) (at-hidden observer task _))
gone-hidden observer task (Leave caller name) act seen reply agrees =
    once_more observer _ (gone task (Leave caller name) act reply) (binding-hidden observer (record task { environment = caller }) name _)
gone-hidden observer task (Unlabel name label source content) act seen reply agrees =
    rw (learned observer source content agrees) (given-hidden observer (record task { label = label }) name content)
gone-hidden observer task (Release name label) act seen reply agrees = bound-alike observer task name _ _ (ap (Sealed label) agrees)
gone-hidden observer task (Expose name label) act seen reply agrees =
    let same : released seen ≡ released act = sym (learned observer label (released seen) agrees.0) ∙ agrees.1 ∙ learned observer label (released act) agrees.0 in
    ap (λ (content : Content). hide_task observer (given (record (hide_task observer task) { label = label }) name content)) same
    ∙ given-hidden observer (record task { label = label }) name (released act)
gone-hidden observer task (HoldReference name label) act seen reply agrees = once_more observer _ (gone task (HoldReference name label) act reply) (holding-hidden observer task name (Bare (RefOf (newest task label))) 0 refl)
gone-hidden observer task (HoldVariable name label) act seen reply agrees = once_more observer _ (gone task (HoldVariable name label) act reply) (holding-hidden observer task name (Bare (VarOf (newest task label))) 0 refl)
gone-hidden observer task (Fork name label cells turns) act seen reply agrees =
    once_more observer _ (gone task (Fork name label cells turns) act reply)
    (ap (λ (t : TaskState). record t { turns = task.turns - turns }) (holding-hidden observer task name (Bare (ResultOf (newest task label))) cells refl))
gone-hidden observer task (BindReply name) act seen reply agrees = replied-hidden observer task name reply
gone-hidden observer task (Throw fault) act seen reply agrees = throwing-hidden observer task fault
gone-hidden observer task End act seen reply agrees = refl
gone-hidden observer task onward act seen reply agrees = once_more observer _ (gone task onward act reply) refl
