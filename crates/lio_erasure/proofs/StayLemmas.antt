-- A task that is as an observer sees it goes on so, unless it seals a value under a label that doesn't flow to the observer's.
use Rattle.std.proofs.Common.{◌≡◌, ◌∙◌, refl, sym, ap, subst, ℕ, ◌-◌, Bool, true, false, not, if◌then◌else◌, List, ◌∷◌, Some, None, inl, inr}
use Rattle.std.specs.Prelude.{IsTrue}
use Rattle.lio_labels.specs.declared.label.Label.{Label}
use Rattle.lio_labels.specs.declared.privilege.Priv.{Priv}
use Rattle.lio_labels.specs.Flow.{flows}
use Rattle.lio_values.specs.declared.value.Content.{Content}
use Rattle.lio_values.specs.declared.value.Content.TheVariants.{Kept, Hidden}
use Rattle.lio_values.specs.declared.value.Plain.TheVariants.{Unit as unit, RefOf, VarOf, ResultOf}
use Rattle.lio_values.specs.declared.value.Value.{Value}
use Rattle.lio_values.specs.declared.value.Value.TheVariants.{Bare, Sealed}
use Rattle.lio_values.specs.declared.act.Act.{Act}
use Rattle.lio_values.specs.declared.act.Act.TheVariants as act
use Rattle.lio_values.specs.declared.act.Reply.{Reply}
use Rattle.lio_values.specs.declared.act.Reply.TheVariants.{Done, Got, Told, Refused}
use Rattle.lio_values.specs.Erasure.{erase_act, erase_content, erase_reply, erase_value}
use Rattle.lio_values.specs.Purity.{KeepsPure, IsContentPure, IsFaultPure}
use Rattle.lio_events.specs.Printable.{ReplyKeepsPure}
use Rattle.lio_events.proofs.PrintableLemmas.{erased-content-pure}
use Rattle.lio_syntax.specs.Statements.{While}
use Rattle.lio_cells.specs.declared.state.State.{State}
use Rattle.lio_cells.specs.State.{answer}
use Rattle.lio_syntax.specs.Items.{Item, Do, Mark, Back, rest_of}
use Rattle.lio_syntax.specs.Hiding.{hide_environment}
use Rattle.lio_syntax.proofs.HidingLemmas.{enter-hidden}
use Rattle.lio_calculus.specs.Task.{TaskState}
use Rattle.lio_calculus.specs.Going.{Onward, Bind, Seal, Enter, Repeat, Try, Call, Return, Leave, Unlabel, Release, Expose, HoldReference, HoldVariable, Fork, BindReply, Throw, binding, given, released, taking, newest, gone, gone_on}
use Rattle.lio_calculus.specs.Erased.{hide_state}
use Rattle.lio_calculus.specs.Guarded.{IsReleaseOf}
use Rattle.lio_calculus.specs.Hiding.{hide_asked, hide_onward, hide_plan, hide_task}
use Rattle.lio_calculus.specs.Plan.{Program, Plan, Own, Visit, Target, plan}
use Rattle.lio_calculus.proofs.GoingLemmas.{TellsPure, rest_of-hidden, returned-hidden, at-hidden, binding-hidden, throwing-pure, given-pure, replied-pure}
use Rattle.lio_calculus.proofs.InvisibleLemmas.{gone_on-label}
use Rattle.lio_calculus.specs.Step.{Move}
use Rattle.lio_calculus.proofs.PlanEach.{EachInOnward}
use Rattle.lio_calculus.proofs.PlanHidden.{plan-hidden}
use Rattle.lio_calculus.proofs.PurityLemmas.{MoveIsPure, onward-opened}
use Rattle.lio_calculus.proofs.StateLemmas.{answer-hidden}
use Rattle.lio_calculus.proofs.TurnParts.{own_move}
use Rattle.lio_calculus.proofs.TwiceLemmas.{hide_task-twice}
use Rattle.lio_task.specs.Next.{resumed, resumed_by}
use Rattle.lio_erasure.specs.Acts.{hides, shown_act, with_content}
use Rattle.lio_erasure.specs.Low.{seen_task}
use Rattle.lio_erasure.specs.Turn.{IsAsSeen, IsTold}
use Rattle.lio_erasure.proofs.LeadLemmas.{Leads, LeadsPlan, plan-leads, told-leads}

-- what a way of going on asks of what is opened: the observer sees what is unlabelled, what is released as the act shows it, and what is exposed
abbrev Opens : Label → Onward → Act → Act → Type 0
Opens observer (Unlabel name label source content) asked seen = erase_content observer source content ≡ content
Opens observer (Release name label) asked seen = released seen ≡ erase_content observer label (released asked)
Opens observer (Expose name label) asked seen = released seen ≡ released asked
Opens observer onward asked seen = Unit {0}

-- and of what is sealed: the observer sees it
abbrev Shows : Label → Onward → Type 0
Shows observer (Seal name label plain) = IsTrue (flows label observer)
Shows observer onward = Unit {0}

-- and of the label to which a content is exposed, which is the task's then: the observer sees the task
abbrev Sees : Label → Onward → Type 0
Sees observer (Expose name label) = IsTrue (flows label observer)
Sees observer onward = Unit {0}

-- and of what is given and thrown: it is pure, so the observer sees it as it is
abbrev pub GivesPure : Onward → Act → Reply → Type 0
GivesPure (Unlabel name label source content) asked reply = IsContentPure content
GivesPure (Expose name label) asked reply = IsContentPure (released asked)
GivesPure (BindReply name) asked reply = TellsPure reply
GivesPure (Throw fault) asked reply = IsFaultPure fault
GivesPure onward asked reply = Unit {0}

learned : (observer source : Label) (content : Content) → IsTrue (flows source observer) → erase_content observer source content ≡ content
unfolding erase_content
learned observer source content may = rw may refl

-- a name is bound to a content, sealed under a label, as the observer sees it
sealing-hidden : (observer : Label) (task : TaskState) (name : List ℕ) (label : Label) (content seen : Content) → seen ≡ erase_content observer label content
    → binding (hide_task observer task) name (Sealed label seen) ≡ hide_task observer (binding task name (Sealed label content))
sealing-hidden observer task name label content seen alike =
    ap (λ (c : Content). binding (hide_task observer task) name (Sealed label c)) alike ∙ binding-hidden observer task name (Sealed label content)

holding-hidden : (observer : Label) (task : TaskState) (name : List ℕ) (value : Value) (cells : ℕ) → erase_value observer value ≡ value
    → taking (binding (hide_task observer task) name value) cells ≡ hide_task observer (taking (binding task name value) cells)
holding-hidden observer task name value cells bare =
    ap (λ (v : Value). taking (binding (hide_task observer task) name v) cells) (sym bare) ∙ ap (λ (t : TaskState). taking t cells) (binding-hidden observer task name value)

-- as the observer sees it the task goes on as it does
gone-seen : (observer : Label) (task : TaskState) (onward : Onward) (asked seen : Act) (reply : Reply) → Opens observer onward asked seen → Shows observer onward → GivesPure onward asked reply
    → gone (hide_task observer task) (hide_onward observer onward) seen (erase_reply observer reply) ≡ hide_task observer (gone task onward asked reply)
unfolding hide_onward
gone-seen observer task (Bind name value) asked seen reply opens shows pure = binding-hidden observer task name value
gone-seen observer task (Seal name label plain) asked seen reply opens shows pure = sealing-hidden observer task name label (Kept plain) (Kept plain) (sym (learned observer label (Kept plain) shows))
gone-seen observer task (Enter block) asked seen reply opens shows pure =
    ap (λ (items : List Item). record task { environment = hide_environment observer task.environment; items = items }) (enter-hidden observer block task.items)
gone-seen observer task (Repeat condition block) asked seen reply opens shows pure =
    ap (λ (items : List Item). record task { environment = hide_environment observer task.environment; items = items }) (enter-hidden observer block (Do (While condition block) ∷ task.items))
gone-seen observer task (Try block code payload handler) asked seen reply opens shows pure =
    ap (λ (items : List Item). record task { environment = hide_environment observer task.environment; items = items }) (enter-hidden observer block (Mark code payload handler ∷ task.items))
gone-seen observer task (Call name environment body) asked seen reply opens shows pure =
    ap (λ (items : List Item). record task { environment = hide_environment observer environment; items = items }) (enter-hidden observer body (Back task.environment name ∷ task.items))
gone-seen observer task (Return value) asked seen reply opens shows pure = rw (returned-hidden observer value task.environment task.items) (at-hidden observer task _)
gone-seen observer task (Leave caller name) asked seen reply opens shows pure = binding-hidden observer (record task { environment = caller }) name (Bare unit)
gone-seen observer task (Unlabel name label source content) asked seen reply opens shows pure =
    ap (given (record (hide_task observer task) { label = label }) name) opens ∙ given-pure observer (record task { label = label }) name content pure
gone-seen observer task (Release name label) asked seen reply opens shows pure = sealing-hidden observer task name label (released asked) (released seen) opens
gone-seen observer task (Expose name label) asked seen reply opens shows pure =
    ap (given (record (hide_task observer task) { label = label }) name) opens ∙ given-pure observer (record task { label = label }) name (released asked) pure
gone-seen observer task (HoldReference name label) asked seen reply opens shows pure = holding-hidden observer task name (Bare (RefOf (newest task label))) 0 refl
gone-seen observer task (HoldVariable name label) asked seen reply opens shows pure = holding-hidden observer task name (Bare (VarOf (newest task label))) 0 refl
gone-seen observer task (Fork name label cells turns) asked seen reply opens shows pure =
    ap (λ (t : TaskState). record t { turns = task.turns - turns }) (holding-hidden observer task name (Bare (ResultOf (newest task label))) cells refl)
gone-seen observer task (BindReply name) asked seen reply opens shows pure = replied-pure observer task name reply pure
gone-seen observer task (Throw fault) asked seen reply opens shows pure = throwing-pure observer task fault pure
gone-seen observer task onward asked seen reply opens shows pure = refl

-- the task before it goes on: the item that acted is dropped, and one turn is spent
spent : TaskState → TaskState
spent task = record task { items = rest_of task.items; turns = task.turns - 1 }

spent-hidden : (observer : Label) (task : TaskState) → hide_task observer task ≡ task → hide_task observer (spent task) ≡ spent task
unfolding spent
spent-hidden observer task hidden =
    ap (λ (items : List Item). record (spent (hide_task observer task)) { items = items }) (sym (rest_of-hidden observer task.items)) ∙ ap spent hidden

-- a task that is as the observer sees it stays so
gone_on-seen : (observer : Label) (task : TaskState) (onward : Onward) (asked seen : Act) (reply : Reply) → hide_task observer task ≡ task → hide_onward observer onward ≡ onward → Opens observer onward asked seen → Shows observer onward
    → GivesPure onward asked reply
    → gone_on task onward seen (erase_reply observer reply) ≡ hide_task observer (gone_on task onward asked reply)
unfolding gone_on spent
gone_on-seen observer task onward asked seen reply hidden same opens shows pure =
    sym (ap (λ (t : TaskState). gone t onward seen (erase_reply observer reply)) (spent-hidden observer task hidden))
    ∙ sym (ap (λ (w : Onward). gone (hide_task observer (spent task)) w seen (erase_reply observer reply)) same)
    ∙ gone-seen observer (spent task) onward asked seen reply opens shows pure

-- and whatever it seals, the observer sees it go on alike
gone_on-alike : (observer : Label) (task : TaskState) (onward : Onward) (asked seen : Act) (reply : Reply) → hide_task observer task ≡ task → hide_onward observer onward ≡ onward → Opens observer onward asked seen
    → GivesPure onward asked reply
    → hide_task observer (gone_on task onward seen (erase_reply observer reply)) ≡ hide_task observer (gone_on task onward asked reply)
unfolding gone_on
gone_on-alike observer task (Seal name label plain) asked seen reply hidden same opens pure = refl
gone_on-alike observer task onward asked seen reply hidden same opens pure =
    ap (hide_task observer) (gone_on-seen observer task onward asked seen reply hidden same opens tt pure) ∙ hide_task-twice observer (gone_on task onward asked reply)

-- what is released or exposed, as the act shows it
released-seen : (observer label : Label) (asked : Act) → IsReleaseOf asked label → released (erase_act observer asked) ≡ erase_content observer label (released asked)
released-seen observer label (act.Release source target power content) to = ap (λ (l : Label). erase_content observer l content) to
released-seen observer label (act.Expose source target power content) to = ap (λ (l : Label). erase_content observer l content) to
released-seen observer label asked to = absurd to

-- and it is as pure
released-pure : (observer : Label) (asked : Act) → IsContentPure (released asked) → IsContentPure (released (erase_act observer asked))
released-pure observer (act.Release source target power content) pure = erased-content-pure observer target content pure
released-pure observer (act.Expose source target power content) pure = erased-content-pure observer target content pure
released-pure observer asked pure = tt

opens-seen : (observer : Label) (onward : Onward) (asked : Act) → hide_onward observer onward ≡ onward → Leads asked onward → Sees observer onward → Opens observer onward asked (erase_act observer asked)
unfolding hide_onward
opens-seen observer (Unlabel name label source content) asked same leads sees = cc
opens-seen observer (Release name label) asked same leads sees = released-seen observer label asked leads
opens-seen observer (Expose name label) asked same leads sees = released-seen observer label asked leads ∙ learned observer label (released asked) sees
opens-seen observer onward asked same leads sees = tt

-- an act that hides nothing seals nothing that the observer doesn't see
hides-erased : (observer : Label) (asked : Act) → hides observer (erase_act observer asked) ≡ hides observer asked
hides-erased observer (act.Seal label) = refl
hides-erased observer asked = refl

open-label : (b : Bool) → not b ≡ false → b ≡ true
open-label true e = refl
open-label false e = sym e

shows-sealed : (observer : Label) (onward : Onward) (asked : Act) → Leads asked onward → hides observer asked ≡ false → Shows observer onward
shows-sealed observer (Seal name label plain) asked leads e = open-label (flows label observer) (ap (hides observer) (sym leads) ∙ e)
shows-sealed observer onward asked leads e = tt

-- A task goes on by an act as the observer sees it: the observer sees of it then what it sees of it after the act itself, and it is as the observer sees it
-- unless the act hides a value. A task that exposed a content above the observer's label is unseen then, and goes on by what was shown with unit in its place.
pub record GoesAsSeen (observer : Label) (program : Program) (task : TaskState) (asked : Act) (reply : Reply) : Type 0 where
  pub alike : seen_task observer (resumed program task (erase_act observer asked) (erase_reply observer reply)) ≡ seen_task observer (resumed program task asked reply)
  pub stays : hides observer (erase_act observer asked) ≡ false
      → hide_task observer (resumed program task (erase_act observer asked) (erase_reply observer reply)) ≡ resumed program task (erase_act observer asked) (erase_reply observer reply)

-- a pure move gives what is pure
tells-pure : (reply : Reply) → ReplyKeepsPure reply → TellsPure reply
tells-pure (Told content) pure = pure
tells-pure (Got value) pure = tt
tells-pure Done pure = tt
tells-pure (Refused fault) pure = tt

pub gives-pure : (move : Move) → MoveIsPure move → GivesPure move.onward move.act move.reply
gives-pure move m = by move.onward m.onward
  where
    by : (onward : Onward) → EachInOnward KeepsPure move.act onward → GivesPure onward move.act move.reply
    by (Unlabel name label source content) pure = pure
    by (Expose name label) pure = m.shown
    by (BindReply name) pure = tells-pure move.reply m.reply
    by (Throw fault) pure = pure
    by onward pure = tt

-- and so does one whose content was told
pub told-pure : (planned : Act) (reply : Reply) (onward : Onward) (content : Content) → IsContentPure content → MoveIsPure (own_move planned reply onward) → MoveIsPure (own_move (with_content planned content) reply onward)
told-pure (act.Release source target power hidden) reply onward content pure m =
    record { asked = tt; onward = onward-opened (act.Release source target power hidden) (act.Release source target power content) onward m.onward pure; shown = pure; reply = m.reply }
told-pure (act.Expose source target power hidden) reply onward content pure m =
    record { asked = tt; onward = onward-opened (act.Expose source target power hidden) (act.Expose source target power content) onward m.onward pure; shown = pure; reply = m.reply }
told-pure planned reply onward content pure m = m

-- a task that the observer sees once it went on
goes-open : (observer : Label) (program : Program) (task : TaskState) (onward : Onward) (asked : Act) (reply : Reply) → hide_task observer task ≡ task → hide_onward observer onward ≡ onward → Leads asked onward → Sees observer onward → GivesPure onward asked reply
    → ((a : Act) (r : Reply) → resumed program task a r ≡ gone_on task onward a r) → GoesAsSeen observer program task asked reply
goes-open observer program task onward asked reply hidden same leads sees pure goes =
    let seen : Act = erase_act observer asked in
    let told : Reply = erase_reply observer reply in
    let opens : Opens observer onward asked seen = opens-seen observer onward asked same leads sees in
    record {
      alike = ap (λ (t : TaskState). if flows t.label observer then Some t else None)
          (ap (hide_task observer) (goes seen told) ∙ gone_on-alike observer task onward asked seen reply hidden same opens pure ∙ sym (ap (hide_task observer) (goes asked reply)));
      stays = λ e.
          let is : resumed program task seen told ≡ hide_task observer (gone_on task onward asked reply) =
          goes seen told ∙ gone_on-seen observer task onward asked seen reply hidden same opens (shows-sealed observer onward asked leads (sym (hides-erased observer asked) ∙ e)) pure in
          ap (hide_task observer) is ∙ hide_task-twice observer (gone_on task onward asked reply) ∙ sym is;
    }

-- a task that exposed a content above the observer's label
goes-blind : (observer : Label) (program : Program) (task : TaskState) (name : List ℕ) (label : Label) (asked : Act) (reply : Reply) → hide_task observer task ≡ task → flows label observer ≡ false
    → IsContentPure (released asked) → ((a : Act) (r : Reply) → resumed program task a r ≡ gone_on task (Expose name label) a r) → GoesAsSeen observer program task asked reply
unfolding gone_on spent
goes-blind observer program task name label asked reply hidden above pure goes = record {
  alike = unseen seen told ∙ sym (unseen asked reply);
  stays = λ e. ap (hide_task observer) (goes seen told) ∙ held ∙ sym (goes seen told);
}
  where
    seen : Act
    seen = erase_act observer asked

    told : Reply
    told = erase_reply observer reply

    unseen : (a : Act) (r : Reply) → seen_task observer (resumed program task a r) ≡ None
    unseen a r =
        let gone_on_to : TaskState = gone_on task (Expose name label) a r in
        ap (seen_task observer) (goes a r)
        ∙ ap (λ (b : Bool). if b then Some (hide_task observer gone_on_to) else None) (ap (λ (l : Label). flows l observer) (gone_on-label task (Expose name label) a r) ∙ above)

    held : hide_task observer (gone_on task (Expose name label) seen told) ≡ gone_on task (Expose name label) seen told
    held =
        sym (given-pure observer (record (spent task) { label = label }) name (released seen) (released-pure observer asked pure))
        ∙ ap (λ (t : TaskState). given (record t { label = label }) name (released seen)) (spent-hidden observer task hidden)

goes-seen : (observer : Label) (program : Program) (task : TaskState) (onward : Onward) (asked : Act) (reply : Reply) → hide_task observer task ≡ task → hide_onward observer onward ≡ onward → Leads asked onward → GivesPure onward asked reply
    → ((a : Act) (r : Reply) → resumed program task a r ≡ gone_on task onward a r) → GoesAsSeen observer program task asked reply
goes-seen observer program task (Expose name label) asked reply hidden same leads pure goes = by (flows label observer) refl
  where
    by : (b : Bool) → flows label observer ≡ b → GoesAsSeen observer program task asked reply
    by true e = goes-open observer program task (Expose name label) asked reply hidden same leads e pure goes
    by false e = goes-blind observer program task name label asked reply hidden e pure goes
goes-seen observer program task onward asked reply hidden same leads pure goes = goes-open observer program task onward asked reply hidden same leads tt pure goes

-- the plan of a task that is as the observer sees it
plan-seen : (program : Program) (observer : Label) (task : TaskState) (p : Plan) → hide_task observer task ≡ task → plan program task ≡ p → p ≡ hide_plan observer p
plan-seen program observer task p hidden plans = sym plans ∙ ap (plan program) (sym hidden) ∙ plan-hidden program observer task ∙ ap (hide_plan observer) plans

-- an act whose values the observer sees is shown as it is, but for a content that it releases or exposes
release-shown : (observer source target : Label) (power : Priv) (content : Content) → erase_act observer (act.Release source target power content) ≡ shown_act observer (act.Release source target power content)
unfolding erase_content
release-shown observer source target power content = by (flows target observer)
  where
    by : (b : Bool) → act.Release source target power (if b then content else Hidden) ≡ (if not b then act.Release source target power Hidden else act.Release source target power content)
    by true = refl
    by false = refl

exposure-shown : (observer source target : Label) (power : Priv) (content : Content) → erase_act observer (act.Expose source target power content) ≡ shown_act observer (act.Expose source target power content)
unfolding erase_content
exposure-shown observer source target power content = by (flows target observer)
  where
    by : (b : Bool) → act.Expose source target power (if b then content else Hidden) ≡ (if not b then act.Expose source target power Hidden else act.Expose source target power content)
    by true = refl
    by false = refl

act-shown : (observer : Label) (asked : Act) → hide_asked observer asked ≡ asked → erase_act observer asked ≡ shown_act observer asked
unfolding hide_asked
act-shown observer (act.Release source target power content) same = release-shown observer source target power content
act-shown observer (act.Expose source target power content) same = exposure-shown observer source target power content
act-shown observer asked same = same

told-shown : (observer : Label) (asked : Act) (content : Content) → hide_asked observer asked ≡ asked → erase_act observer (with_content asked content) ≡ shown_act observer (with_content asked content)
unfolding hide_asked
told-shown observer (act.Release source target power hidden) content same = release-shown observer source target power content
told-shown observer (act.Expose source target power hidden) content same = exposure-shown observer source target power content
told-shown observer asked content same = same

-- What a turn of a task that is as the observer sees it gives: the observer sees the act's values and the reply, and sees the task go on.
pub record ActsAsSeen (observer : Label) (program : Program) (task : TaskState) (asked : Act) (reply : Reply) : Type 0 where
  pub seen : IsAsSeen observer asked reply
  pub goes : GoesAsSeen observer program task asked reply

-- what holds of the act that was planned, and of it with another content
pub by_told : (P : Act → Type 0) (planned asked : Act) → IsTold planned asked → P planned → ((content : Content) → IsContentPure content → P (with_content planned content)) → P asked
by_told P planned asked (inl p) plain other = subst P (sym p) plain
by_told P planned asked (inr p) plain other = subst P (sym p.2) (other p.0 p.1)

-- an act of the task's own
pub own-seen : (observer : Label) (program : Program) (task : TaskState) (planned asked : Act) (reply : Reply) (onward : Onward) → hide_task observer task ≡ task → plan program task ≡ Own planned reply onward → IsTold planned asked
    → GivesPure onward asked reply → ActsAsSeen observer program task asked reply
own-seen observer program task planned asked reply onward hidden plans told pure =
    let p : Own planned reply onward ≡ Own (hide_asked observer planned) (erase_reply observer reply) (hide_onward observer onward) = plan-seen program observer task (Own planned reply onward) hidden plans in
    let act_is : hide_asked observer planned ≡ planned = cc in
    let reply_is : erase_reply observer reply ≡ reply = cc in
    let same : hide_onward observer onward ≡ onward = cc in
    let leads : Leads planned onward = subst LeadsPlan plans (plan-leads program task) in
    record {
      seen = record {
        act_is = by_told (λ a. erase_act observer a ≡ shown_act observer a) planned asked told (act-shown observer planned act_is) (λ content is. told-shown observer planned content act_is);
        reply_is = reply_is;
      };
      goes = goes-seen observer program task onward asked reply hidden same (by_told (λ a. Leads a onward) planned asked told leads (λ content is. told-leads planned content onward leads)) pure
          (λ a r. ap (resumed_by task a r) plans);
    }

-- an act that meets a node
pub visit-seen : (observer : Label) (program : Program) (task : TaskState) (asked : Act) (reply : Reply) (target : Target) (onward : Onward) → hide_task observer task ≡ task → plan program task ≡ Visit asked target onward → erase_reply observer reply ≡ reply
    → GivesPure onward asked reply → ActsAsSeen observer program task asked reply
visit-seen observer program task asked reply target onward hidden plans reply_is pure =
    let p : Visit asked target onward ≡ Visit (hide_asked observer asked) target (hide_onward observer onward) = plan-seen program observer task (Visit asked target onward) hidden plans in
    let act_is : hide_asked observer asked ≡ asked = cc in
    let same : hide_onward observer onward ≡ onward = cc in
    let leads : Leads asked onward = subst LeadsPlan plans (plan-leads program task) in
    record {
      seen = record { act_is = act-shown observer asked act_is; reply_is = reply_is };
      goes = goes-seen observer program task onward asked reply hidden same leads pure (λ a r. ap (resumed_by task a r) plans);
    }

-- the reply of a node that is as the observer sees it
pub answer-seen : (observer : Label) (program : Program) (task : TaskState) (asked : Act) (target : Target) (onward : Onward) (state : State) → hide_task observer task ≡ task → plan program task ≡ Visit asked target onward → hide_state observer state ≡ state
    → erase_reply observer (answer state asked) ≡ answer state asked
answer-seen observer program task asked target onward state hidden plans same =
    let p : Visit asked target onward ≡ Visit (hide_asked observer asked) target (hide_onward observer onward) = plan-seen program observer task (Visit asked target onward) hidden plans in
    let act_is : hide_asked observer asked ≡ asked = cc in
    sym (answer-hidden observer state asked) ∙ ap (λ (s : State). answer s (hide_asked observer asked)) same ∙ ap (answer state) act_is
