-- How a task that is seen with hidden values goes on.
use Rattle.std.proofs.Common.{◌≡◌, ◌∙◌, refl, sym, ap, ℕ, List, [], ◌∷◌, map}
use Rattle.std.specs.Prelude.{pos}
use Rattle.lio_labels.specs.declared.label.Label.{Label}
use Rattle.lio_values.specs.declared.fault.Fault.{Fault}
use Rattle.lio_values.specs.declared.fault.FaultKind.{FaultKind}
use Rattle.lio_values.specs.declared.fault.FaultKind.TheVariants.{User}
use Rattle.lio_values.specs.declared.value.Plain.{Plain}
use Rattle.lio_values.specs.declared.value.Plain.TheVariants.{Unit as unit, Whole}
use Rattle.lio_values.specs.declared.value.Content.{Content}
use Rattle.lio_values.specs.declared.value.Content.TheVariants.{Kept, Faulted, Hidden}
use Rattle.lio_values.specs.declared.value.Value.{Value}
use Rattle.lio_values.specs.declared.value.Value.TheVariants.{Bare}
use Rattle.lio_values.specs.declared.act.Reply.{Reply}
use Rattle.lio_values.specs.declared.act.Reply.TheVariants.{Done, Got, Told, Refused}
use Rattle.lio_values.specs.Erasure.{erase_plain, erase_value, erase_reply}
use Rattle.lio_values.specs.Purity.{IsProblemPure, IsContentPure, IsFaultPure}
use Rattle.lio_values.specs.Views.{problem_of}
use Rattle.lio_values.proofs.ErasedMeasures.{pure-shown}
use Rattle.lio_values.proofs.ErasureLemmas.{value_erased_twice}
use Rattle.lio_syntax.specs.Statements.{Statements}
use Rattle.lio_syntax.specs.Environment.{Environment, bind}
use Rattle.lio_calculus.specs.Task.{TaskState}
use Rattle.lio_syntax.specs.Items.{Item, Do, Access, Mark, Back, Fail, enter, rest_of}
use Rattle.lio_calculus.specs.Going.{at, binding, throwing, given, replied}
use Rattle.lio_syntax.specs.Throwing.{Place, caught, code_of, payload_of, thrown, returned}
use Rattle.lio_syntax.specs.Hiding.{hide_environment, hide_item, hide_place}
use Rattle.lio_syntax.proofs.HidingLemmas.{enter-hidden}
use Rattle.lio_calculus.specs.Hiding.{hide_task}
use Rattle.lio_calculus.proofs.HidingLemmas.{bind-hidden}
use Rattle.lio_calculus.proofs.TwiceLemmas.{hide_environment-twice, hide_items-twice, hide_task-twice}

pub rest_of-hidden : (observer : Label) (items : List Item) → rest_of (map (hide_item observer) items) ≡ map (hide_item observer) (rest_of items)
rest_of-hidden observer [] = refl
rest_of-hidden observer (item ∷ items) = refl

-- a binding, and then what the observer sees: it sees the same where the environment and the value were hidden before
bind-once : (observer : Label) (environment : Environment) (name : List ℕ) (value : Value)
    → hide_environment observer (bind (hide_environment observer environment) name value) ≡ hide_environment observer (bind environment name value)
bind-once observer environment name value =
    sym (bind-hidden observer (hide_environment observer environment) name value)
    ∙ ap (λ (e : Environment). bind e name (erase_value observer value)) (hide_environment-twice observer environment)
    ∙ bind-hidden observer environment name value

-- a handler begins alike to the observer
caught-hidden : (observer : Label) (fault : Fault) (environment : Environment) (code payload : List ℕ) (handler : Statements) (items : List Item)
    → hide_place observer (caught fault (hide_environment observer environment) code payload handler (map (hide_item observer) items)) ≡ hide_place observer (caught fault environment code payload handler items)
unfolding hide_place
caught-hidden observer fault environment code payload handler items = λ i. record { environment = bound i; items = entered i }
  where
    number : Value
    number = Bare (Whole (pos (code_of fault.kind)))

    value : Value
    value = Bare (payload_of fault.kind)

    bound : hide_environment observer (bind (bind (hide_environment observer environment) code number) payload value) ≡ hide_environment observer (bind (bind environment code number) payload value)
    bound =
        sym (bind-hidden observer (bind (hide_environment observer environment) code number) payload value)
        ∙ ap (λ (e : Environment). bind e payload (erase_value observer value)) (bind-once observer environment code number)
        ∙ bind-hidden observer (bind environment code number) payload value

    entered : map (hide_item observer) (enter handler (map (hide_item observer) items)) ≡ map (hide_item observer) (enter handler items)
    entered = ap (map (hide_item observer)) (enter-hidden observer handler items) ∙ hide_items-twice observer (enter handler items)

pub thrown-hidden : (observer : Label) (fault : Fault) (environment : Environment) (items : List Item)
    → hide_place observer (thrown fault (hide_environment observer environment) (map (hide_item observer) items)) ≡ hide_place observer (thrown fault environment items)
unfolding thrown hide_place
thrown-hidden observer fault environment [] = λ i. record { environment = hide_environment-twice observer environment i; items = Fail fault ∷ [] }
thrown-hidden observer fault environment (Mark code payload handler ∷ items) = caught-hidden observer fault environment code payload handler items
thrown-hidden observer fault environment (Back caller name ∷ items) = thrown-hidden observer fault caller items
thrown-hidden observer fault environment (Do statement ∷ items) = thrown-hidden observer fault environment items
thrown-hidden observer fault environment (Access statement ∷ items) = thrown-hidden observer fault environment items
thrown-hidden observer fault environment (Fail before ∷ items) = thrown-hidden observer fault environment items

pub returned-hidden : (observer : Label) (value : Value) (environment : Environment) (items : List Item)
    → returned (erase_value observer value) (hide_environment observer environment) (map (hide_item observer) items) ≡ hide_place observer (returned value environment items)
unfolding returned hide_place
returned-hidden observer value environment [] = refl
returned-hidden observer value environment (Back caller name ∷ items) = rw (bind-hidden observer caller name value) refl
returned-hidden observer value environment (Do statement ∷ items) = returned-hidden observer value environment items
returned-hidden observer value environment (Access statement ∷ items) = returned-hidden observer value environment items
returned-hidden observer value environment (Mark code payload handler ∷ items) = returned-hidden observer value environment items
returned-hidden observer value environment (Fail fault ∷ items) = returned-hidden observer value environment items

pub at-hidden : (observer : Label) (task : TaskState) (place : Place) → at (hide_task observer task) (hide_place observer place) ≡ hide_task observer (at task place)
unfolding hide_place
at-hidden observer task place = refl

pub binding-hidden : (observer : Label) (task : TaskState) (name : List ℕ) (value : Value) → binding (hide_task observer task) name (erase_value observer value) ≡ hide_task observer (binding task name value)
binding-hidden observer task name value = rw (bind-hidden observer task.environment name value) refl

-- a binding of what is seen alike
pub bound-alike : (observer : Label) (task : TaskState) (name : List ℕ) (value seen : Value) → erase_value observer seen ≡ erase_value observer value
    → hide_task observer (binding (hide_task observer task) name seen) ≡ hide_task observer (binding task name value)
bound-alike observer task name value seen alike =
    sym (binding-hidden observer (hide_task observer task) name seen)
    ∙ ap (λ (t : TaskState). binding t name (erase_value observer seen)) (hide_task-twice observer task)
    ∙ ap (λ (v : Value). binding (hide_task observer task) name v) alike
    ∙ binding-hidden observer task name value

-- A fault that is thrown, and a content and a reply that are given, leave to the observer what they leave of the task that it sees. A list that they carry may hold
-- a content that the observer doesn't see, so this is said of what it sees after.
pub throwing-hidden : (observer : Label) (task : TaskState) (fault : Fault) → hide_task observer (throwing (hide_task observer task) fault) ≡ hide_task observer (throwing task fault)
unfolding hide_place
throwing-hidden observer task fault =
    sym (at-hidden observer (hide_task observer task) (thrown fault (hide_environment observer task.environment) (map (hide_item observer) task.items)))
    ∙ ap (at (hide_task observer (hide_task observer task))) (thrown-hidden observer fault task.environment task.items)
    ∙ at-hidden observer task (thrown fault task.environment task.items)

-- a content that the observer may learn
pub given-hidden : (observer : Label) (task : TaskState) (name : List ℕ) (content : Content) → hide_task observer (given (hide_task observer task) name content) ≡ hide_task observer (given task name content)
given-hidden observer task name (Kept plain) = bound-alike observer task name (Bare plain) (Bare plain) refl
given-hidden observer task name (Faulted fault) = throwing-hidden observer task fault
given-hidden observer task name Hidden = bound-alike observer task name (Bare unit) (Bare unit) refl

pub replied-hidden : (observer : Label) (task : TaskState) (name : List ℕ) (reply : Reply) → hide_task observer (replied (hide_task observer task) name (erase_reply observer reply)) ≡ hide_task observer (replied task name reply)
replied-hidden observer task name (Got value) = bound-alike observer task name value (erase_value observer value) (value_erased_twice observer value)
replied-hidden observer task name (Told content) = given-hidden observer task name content
replied-hidden observer task name Done = hide_task-twice observer task
replied-hidden observer task name (Refused fault) = hide_task-twice observer task

-- ---- and where what they carry is pure, the observer sees it as it is

-- a pure payload is seen as it is
payload-shown : (observer : Label) (kind : FaultKind) → IsProblemPure (problem_of kind) → erase_plain observer (payload_of kind) ≡ payload_of kind
payload-shown observer (User plain) pure = pure-shown observer plain pure
payload-shown observer kind pure = refl

caught-pure : (observer : Label) (fault : Fault) (environment : Environment) (code payload : List ℕ) (handler : Statements) (items : List Item) → IsFaultPure fault
    → caught fault (hide_environment observer environment) code payload handler (map (hide_item observer) items) ≡ hide_place observer (caught fault environment code payload handler items)
unfolding hide_place
caught-pure observer fault environment code payload handler items pure = λ i. record { environment = bound i; items = enter-hidden observer handler items i }
  where
    number : Value
    number = Bare (Whole (pos (code_of fault.kind)))

    value : Value
    value = Bare (payload_of fault.kind)

    bound : bind (bind (hide_environment observer environment) code number) payload value ≡ hide_environment observer (bind (bind environment code number) payload value)
    bound =
        ap (λ (e : Environment). bind e payload value) (bind-hidden observer environment code number)
        ∙ ap (λ (p : Plain). bind (hide_environment observer (bind environment code number)) payload (Bare p)) (sym (payload-shown observer fault.kind pure))
        ∙ bind-hidden observer (bind environment code number) payload value

thrown-pure : (observer : Label) (fault : Fault) (environment : Environment) (items : List Item) → IsFaultPure fault
    → thrown fault (hide_environment observer environment) (map (hide_item observer) items) ≡ hide_place observer (thrown fault environment items)
unfolding thrown hide_place
thrown-pure observer fault environment [] pure = refl
thrown-pure observer fault environment (Mark code payload handler ∷ items) pure = caught-pure observer fault environment code payload handler items pure
thrown-pure observer fault environment (Back caller name ∷ items) pure = thrown-pure observer fault caller items pure
thrown-pure observer fault environment (Do statement ∷ items) pure = thrown-pure observer fault environment items pure
thrown-pure observer fault environment (Access statement ∷ items) pure = thrown-pure observer fault environment items pure
thrown-pure observer fault environment (Fail before ∷ items) pure = thrown-pure observer fault environment items pure

pub throwing-pure : (observer : Label) (task : TaskState) (fault : Fault) → IsFaultPure fault → throwing (hide_task observer task) fault ≡ hide_task observer (throwing task fault)
unfolding hide_place
throwing-pure observer task fault pure = rw (thrown-pure observer fault task.environment task.items pure) refl

pub given-pure : (observer : Label) (task : TaskState) (name : List ℕ) (content : Content) → IsContentPure content → given (hide_task observer task) name content ≡ hide_task observer (given task name content)
given-pure observer task name (Kept plain) pure =
    ap (λ (p : Plain). binding (hide_task observer task) name (Bare p)) (sym (pure-shown observer plain pure)) ∙ binding-hidden observer task name (Bare plain)
given-pure observer task name (Faulted fault) pure = throwing-pure observer task fault pure
given-pure observer task name Hidden pure = binding-hidden observer task name (Bare unit)

-- what a reply tells is pure
abbrev pub TellsPure : Reply → Type 0
TellsPure (Told content) = IsContentPure content
TellsPure (Got value) = Unit {0}
TellsPure Done = Unit {0}
TellsPure (Refused fault) = Unit {0}

pub replied-pure : (observer : Label) (task : TaskState) (name : List ℕ) (reply : Reply) → TellsPure reply → replied (hide_task observer task) name (erase_reply observer reply) ≡ hide_task observer (replied task name reply)
replied-pure observer task name (Got value) pure = binding-hidden observer task name value
replied-pure observer task name (Told content) pure = given-pure observer task name content pure
replied-pure observer task name Done pure = refl
replied-pure observer task name (Refused fault) pure = refl
