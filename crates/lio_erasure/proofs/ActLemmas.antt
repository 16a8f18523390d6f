-- What acts that are seen with values erased ask of nodes, and what they make of them.
use Rattle.std.proofs.Common.{◌≡◌, ◌∙◌, refl, sym, ap, Bool, true, false, true≢false, ◌&&◌, if◌then◌else◌, Option, Some, None}
use Rattle.lio_labels.specs.declared.label.Label.{Label}
use Rattle.lio_values.specs.declared.value.Content.{Content}
use Rattle.lio_values.specs.declared.value.Handle.{Handle}
use Rattle.lio_values.specs.declared.act.Act.{Act}
use Rattle.lio_values.specs.declared.act.Act.TheVariants as act
use Rattle.lio_values.specs.Erasure.{erase_act}
use Rattle.lio_cells.specs.declared.state.State.{State}
use Rattle.lio_cells.specs.declared.state.State.TheVariants.{Absent, Var, Job}
use Rattle.lio_cells.specs.State.{Kind, Reference, Variable, Channel, Result, is_absent, is_job, is_of, label_of, ready, state_after}
use Rattle.lio_calculus.specs.Plan.{Program, Node}
use Rattle.lio_calculus.specs.Hiding.{hide_asked}
use Rattle.lio_calculus.specs.Step.{born, has_label, is_met, met, waits}
use Rattle.lio_calculus.specs.Erased.{hide_state}
use Rattle.lio_calculus.specs.Afforded.{kind_met, makes}
use Rattle.lio_calculus.proofs.CellLemmas.{state_after-hidden, label_of-received, label_of-written, label_of-filled}

-- an erased act changes a node as the act that is asked for with hidden values does
after-asked : (observer : Label) (state : State) (asked : Act) → state_after state (erase_act observer asked) ≡ state_after state (hide_asked observer asked)
unfolding state_after hide_asked
after-asked observer state (act.Release source target power content) = refl
after-asked observer state (act.Expose source target power content) = refl
after-asked observer state asked = refl

-- so the state after it is the erased one
pub state_after-erased : (observer : Label) (state : State) (asked : Act) → hide_state observer state ≡ state → state_after state (erase_act observer asked) ≡ hide_state observer (state_after state asked)
state_after-erased observer state asked hidden =
    after-asked observer state asked ∙ ap (λ (s : State). state_after s (hide_asked observer asked)) (sym hidden) ∙ state_after-hidden observer state asked

-- a node is ready for it where it is ready for the act
pub ready-erased : (observer : Label) (state : State) (asked : Act) → ready state (erase_act observer asked) ≡ ready state asked
unfolding ready
ready-erased observer state (act.Release source target power content) = refl
ready-erased observer state (act.Expose source target power content) = refl
ready-erased observer state asked = refl

pub makes-erased : (observer : Label) (asked : Act) → makes (erase_act observer asked) ≡ makes asked
makes-erased observer (act.NewRef label value) = refl
makes-erased observer asked = refl

-- for a new node both are the same
pub made-asked : (observer : Label) (asked : Act) → makes asked ≡ true → erase_act observer asked ≡ hide_asked observer asked
unfolding hide_asked
made-asked observer (act.NewRef label value) e = refl
made-asked observer (act.NewVar label value) e = refl
made-asked observer (act.Fork birth) e = refl
made-asked observer (act.Spawn birth) e = refl
made-asked observer asked e = absurd (true≢false (sym e))

-- an act that meets a node by a handle gives birth to none, and keeps the node's label
pub met-unborn : (kind : Kind) (program : Program) (label : Label) (asked : Act) → kind_met asked ≡ Some kind → born program label asked ≡ None
met-unborn kind program label (act.Fork birth) e = absurd (cc)
met-unborn kind program label (act.Spawn birth) e = absurd (cc)
met-unborn kind program label asked e = refl

pub met-label : (kind : Kind) (state : State) (asked : Act) → kind_met asked ≡ Some kind → label_of (state_after state asked) ≡ label_of state
unfolding state_after
met-label kind state act.Read e = refl
met-label kind state act.Wait e = refl
met-label kind state (act.Write value) e = label_of-written state value
met-label kind state act.Take e = label_of-filled state None
met-label kind state (act.Put value) e = label_of-filled state (Some value)
met-label kind state (act.Send text) e = label_of-received state text
met-label kind state asked e = absurd (cc)

-- a node that is ready for it is of the kind
pub ready-kind : (kind : Kind) (state : State) (asked : Act) → kind_met asked ≡ Some kind → ready state asked ≡ true → is_of kind state ≡ true
unfolding ready
ready-kind kind state act.Read e r = let same : Reference ≡ kind = cc in ap (λ (k : Kind). is_of k state) (sym same) ∙ r
ready-kind kind state (act.Write value) e r = let same : Reference ≡ kind = cc in ap (λ (k : Kind). is_of k state) (sym same) ∙ r
ready-kind kind state act.Take e r = let same : Variable ≡ kind = cc in ap (λ (k : Kind). is_of k state) (sym same) ∙ full state r
  where
    full : (s : State) → ready s act.Take ≡ true → is_of Variable s ≡ true
    full (Var label value) r = refl
    full state r = r
ready-kind kind state (act.Put value) e r = let same : Variable ≡ kind = cc in ap (λ (k : Kind). is_of k state) (sym same) ∙ empty state r
  where
    empty : (s : State) → ready s (act.Put value) ≡ true → is_of Variable s ≡ true
    empty (Var label held) r = refl
    empty state r = r
ready-kind kind state act.Wait e r = let same : Result ≡ kind = cc in ap (λ (k : Kind). is_of k state) (sym same) ∙ job state r
  where
    job : (s : State) → ready s act.Wait ≡ true → is_of Result s ≡ true
    job (Job label result) r = refl
    job state r = r
ready-kind kind state (act.Send text) e r = let same : Channel ≡ kind = cc in ap (λ (k : Kind). is_of k state) (sym same) ∙ r
ready-kind kind state asked e r = absurd (cc)

-- where nothing is, nothing is ready for it
pub absent-unready : (kind : Kind) (asked : Act) → kind_met asked ≡ Some kind → ready Absent asked ≡ false
unfolding ready
absent-unready kind act.Read e = refl
absent-unready kind (act.Write value) e = refl
absent-unready kind act.Take e = refl
absent-unready kind (act.Put value) e = refl
absent-unready kind act.Wait e = refl
absent-unready kind (act.Send text) e = refl
absent-unready kind asked e = absurd (cc)

-- a new node is placed where nothing is, and never waits
pub made-ready : (asked : Act) → makes asked ≡ true → ready Absent asked ≡ true
unfolding ready
made-ready (act.NewRef label value) e = refl
made-ready (act.NewVar label value) e = refl
made-ready (act.Fork birth) e = refl
made-ready (act.Spawn birth) e = refl
made-ready asked e = absurd (true≢false (sym e))

pub made-unwaiting : (asked : Act) → makes asked ≡ true → waits asked ≡ false
made-unwaiting (act.NewRef label value) e = refl
made-unwaiting (act.NewVar label value) e = refl
made-unwaiting (act.Fork birth) e = refl
made-unwaiting (act.Spawn birth) e = refl
made-unwaiting asked e = absurd (true≢false (sym e))

-- a job stays a job, and changes only where its task ends
job-stays : (label : Label) (result : Option Content) (asked : Act) → is_job (state_after (Job label result) asked) ≡ true
unfolding state_after
job-stays label result (act.Ended content) = refl
job-stays label result asked = refl

pub job-after : (state : State) (asked : Act) → is_job state ≡ true → is_job (state_after state asked) ≡ true
job-after (Job label result) asked e = job-stays label result asked
job-after state asked e = absurd (true≢false (sym e))

-- a job is there
pub job-there : (state : State) → is_job state ≡ true → is_absent state ≡ false
job-there (Job label result) e = refl
job-there state e = absurd (true≢false (sym e))

job-kept : (kind : Kind) (label : Label) (result : Option Content) (asked : Act) → kind_met asked ≡ Some kind → state_after (Job label result) asked ≡ Job label result
unfolding state_after
job-kept kind label result (act.Ended content) e = absurd (cc)
job-kept kind label result asked e = refl

job-made : (label : Label) (result : Option Content) (asked : Act) → makes asked ≡ true → state_after (Job label result) asked ≡ Job label result
unfolding state_after
job-made label result (act.Ended content) e = absurd (true≢false (sym e))
job-made label result asked e = refl

pub met-job : (kind : Kind) (state : State) (asked : Act) → is_job state ≡ true → kind_met asked ≡ Some kind → state_after state asked ≡ state
met-job kind (Job label result) asked j e = job-kept kind label result asked e
met-job kind state asked j e = absurd (true≢false (sym j))

pub made-job : (state : State) (asked : Act) → is_job state ≡ true → makes asked ≡ true → state_after state asked ≡ state
made-job (Job label result) asked j e = job-made label result asked e
made-job state asked j e = absurd (true≢false (sym j))

-- the node that a handle names is ready where the node has the label and is ready
pub ready-named : (kind : Kind) (handle : Handle) (state : State) (asked : Act) → kind_met asked ≡ Some kind → (has_label state handle.label && ready state asked) ≡ ready (met (Node kind handle) state) asked
ready-named kind handle state asked meets = by (has_label state handle.label) (is_of kind state) (ready state asked) refl refl refl
  where
    named : (b c : Bool) → is_of kind state ≡ b → has_label state handle.label ≡ c → ready (met (Node kind handle) state) asked ≡ ready (if b && c then state else Absent) asked
    named b c e f = ap (λ (x : Bool). ready (if x && has_label state handle.label then state else Absent) asked) e ∙ ap (λ (x : Bool). ready (if b && x then state else Absent) asked) f

    by : (label kinds is : Bool) → has_label state handle.label ≡ label → is_of kind state ≡ kinds → ready state asked ≡ is → (has_label state handle.label && ready state asked) ≡ ready (met (Node kind handle) state) asked
    by true true is l k r = ap (λ (b : Bool). b && ready state asked) l ∙ sym (named true true k l)
    by true false true l k r = absurd (true≢false (sym (ready-kind kind state asked meets r) ∙ k))
    by true false false l k r = ap (λ (b : Bool). b && ready state asked) l ∙ r ∙ sym (named false true k l ∙ absent-unready kind asked meets)
    by false true is l k r = ap (λ (b : Bool). b && ready state asked) l ∙ sym (named true false k l ∙ absent-unready kind asked meets)
    by false false is l k r = ap (λ (b : Bool). b && ready state asked) l ∙ sym (named false false k l ∙ absent-unready kind asked meets)

-- where nothing is, no node that a handle names is ready
pub nothing-ready : (kind : Kind) (handle : Handle) (asked : Act) → kind_met asked ≡ Some kind → ready (met (Node kind handle) Absent) asked ≡ false
nothing-ready kind handle asked meets = by (is_met (Node kind handle) Absent)
  where
    by : (b : Bool) → ready (if b then Absent else Absent) asked ≡ false
    by true = absent-unready kind asked meets
    by false = absent-unready kind asked meets
