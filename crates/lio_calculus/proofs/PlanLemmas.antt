-- The plan of a task that is seen with hidden values: what each part of a plan is then.
use Rattle.std.proofs.Common.{◌≡◌, refl, ap, subst, ℕ, ◌+◌, ◌-◌, Bool, true, false, if◌then◌else◌, nat_le, List, map, Option, Some, None}
use Rattle.std.specs.Prelude.{option_map}
use Rattle.lio_labels.specs.declared.label.Label.{Label}
use Rattle.lio_labels.specs.declared.privilege.Priv.{Priv}
use Rattle.lio_values.specs.declared.fault.FaultKind.{FaultKind}
use Rattle.lio_values.specs.declared.value.Handle.{Handle}
use Rattle.lio_values.specs.declared.value.Content.{Content}
use Rattle.lio_values.specs.declared.value.Content.TheVariants.{Hidden}
use Rattle.lio_labels.specs.Flow.{flows}
use Rattle.lio_values.specs.declared.value.Value.{Value}
use Rattle.lio_values.specs.declared.value.Plain.{Plain}
use Rattle.lio_values.specs.declared.act.Act.{Act}
use Rattle.lio_values.specs.declared.act.Act.TheVariants as act
use Rattle.lio_values.specs.declared.act.Op.{Op}
use Rattle.lio_values.specs.declared.act.Op.TheVariants as op
use Rattle.lio_values.specs.declared.act.Birth.{Birth}
use Rattle.lio_values.specs.Erasure.{erase_content, erase_value, erase_birth}
use Rattle.lio_syntax_lines.specs.declared.line.Simple.{Simple}
use Rattle.lio_guards.specs.declared.verdict.Verdict.{Verdict}
use Rattle.lio_guards.specs.declared.verdict.Verdict.TheVariants.{Go, No}
use Rattle.lio_calculus.specs.Operands.{Labelled}
use Rattle.lio_calculus.specs.Task.{TaskState}
use Rattle.lio_values.specs.declared.act.Reply.TheVariants.{Done}
use Rattle.lio_guards.specs.Guard.{guarded_relabel, guarded_expose}
use Rattle.lio_cells.specs.State.{Reference, Channel}
use Rattle.lio_calculus.specs.Going.{Advance, Seal, RaiseTo, Unlabel, Release, Expose, HoldReference, HoldVariable, Fork, Spawn}
use Rattle.lio_calculus.specs.Plan.{Plan, Own, Visit, Node, New, bad_type, refused, with_seen, with_verdict, verdict_on, with_cells, with_turns, with_room, raising, releasing, exposed_to, exposing, new_reference, new_variable, birth_of, forking, spawning}
use Rattle.lio_calculus.specs.Hiding.{hide_task, hide_asked, hide_onward, hide_plan}

-- a refusal looks at the label alone
pub refused-hidden : (observer : Label) (task : TaskState) (asked : Act) (kind : FaultKind) → refused (hide_task observer task) (hide_asked observer asked) kind ≡ hide_plan observer (refused task asked kind)
unfolding hide_onward
refused-hidden observer task asked kind = refl

pub bad_type-hidden : (observer : Label) (task : TaskState) → bad_type (hide_task observer task) ≡ hide_plan observer (bad_type task)
unfolding hide_asked hide_onward
bad_type-hidden observer task = refl

-- what is looked up and isn't hidden
pub with_seen-same : {X : Type 0} (observer : Label) (task : TaskState) (seen : Option X) (next hidden : X → Plan) → ((x : X) → hidden x ≡ hide_plan observer (next x))
    → with_seen (hide_task observer task) seen hidden ≡ hide_plan observer (with_seen task seen next)
with_seen-same observer task None next hidden is = bad_type-hidden observer task
with_seen-same observer task (Some x) next hidden is = is x

-- what is looked up and is hidden
pub with_seen-mapped : {X : Type 0} (observer : Label) (task : TaskState) (seen : Option X) (hide : X → X) (next hidden : X → Plan) → ((x : X) → hidden (hide x) ≡ hide_plan observer (next x))
    → with_seen (hide_task observer task) (option_map hide seen) hidden ≡ hide_plan observer (with_seen task seen next)
with_seen-mapped observer task None hide next hidden is = bad_type-hidden observer task
with_seen-mapped observer task (Some x) hide next hidden is = is x

-- a guard's verdict goes by labels
pub with_verdict-hidden : (observer : Label) (task : TaskState) (asked : Act) (verdict : Verdict) (next hidden : Label → Plan) → ((label : Label) → hidden label ≡ hide_plan observer (next label))
    → with_verdict (hide_task observer task) (hide_asked observer asked) verdict hidden ≡ hide_plan observer (with_verdict task asked verdict next)
with_verdict-hidden observer task asked (Go label) next hidden is = is label
with_verdict-hidden observer task asked (No kind) next hidden is = refused-hidden observer task asked kind

if-hidden : (observer : Label) (b : Bool) (yes_ no_ yes' no' : Plan) → yes' ≡ hide_plan observer yes_ → no' ≡ hide_plan observer no_ → (if b then yes' else no') ≡ hide_plan observer (if b then yes_ else no_)
if-hidden observer true yes_ no_ yes' no' is is' = is
if-hidden observer false yes_ no_ yes' no' is is' = is'

pub with_cells-hidden : (observer : Label) (task : TaskState) (asked : Act) (count : ℕ) (next hidden : Plan) → hidden ≡ hide_plan observer next
    → with_cells (hide_task observer task) (hide_asked observer asked) count hidden ≡ hide_plan observer (with_cells task asked count next)
with_cells-hidden observer task asked count next hidden is = if-hidden observer (nat_le count task.cells) next _ hidden _ is (refused-hidden observer task asked _)

pub with_turns-hidden : (observer : Label) (task : TaskState) (asked : Act) (count : ℕ) (next hidden : Plan) → hidden ≡ hide_plan observer next
    → with_turns (hide_task observer task) (hide_asked observer asked) count hidden ≡ hide_plan observer (with_turns task asked count next)
with_turns-hidden observer task asked count next hidden is = if-hidden observer (nat_le count (task.turns - 1)) next _ hidden _ is (refused-hidden observer task asked _)

-- a raise before an access
pub raising-hidden : (observer : Label) (task : TaskState) (op : Op) (access : Simple) (handle : Handle) → raising (hide_task observer task) op access handle ≡ hide_plan observer (raising task op access handle)
unfolding hide_asked hide_onward
raising-hidden observer task op access handle =
    let next : Label → Plan = λ label. Own (act.Raise op handle.label) Done (RaiseTo label access) in
    with_verdict-hidden observer task (act.Raise op handle.label) (verdict_on task op handle.label) next next (λ label. refl)

-- sealing
pub sealing-hidden : (observer : Label) (task : TaskState) (name : List ℕ) (label : Label) (plain : Plain)
    → with_verdict (hide_task observer task) (act.Seal label) (verdict_on task op.Seal label) (λ current. Own (act.Seal label) Done (Seal name label plain))
    ≡ hide_plan observer (with_verdict task (act.Seal label) (verdict_on task op.Seal label) (λ current. Own (act.Seal label) Done (Seal name label plain)))
unfolding hide_asked hide_onward
sealing-hidden observer task name label plain =
    let next : Label → Plan = λ current. Own (act.Seal label) Done (Seal name label plain) in
    with_verdict-hidden observer task (act.Seal label) (verdict_on task op.Seal label) next next (λ current. refl)

-- what is hidden stays hidden
pub hidden-twice : (observer source : Label) → erase_content observer source Hidden ≡ Hidden
unfolding erase_content
hidden-twice observer source = elim (flows source observer) as (λ b. (if b then Hidden else Hidden) ≡ Hidden) [ true ↦ refl | false ↦ refl ]

-- releases
pub releasing-hidden : (observer : Label) (task : TaskState) (name : List ℕ) (source : Labelled) (target : Label) (power : Priv)
    → releasing (hide_task observer task) name (record source { content = erase_content observer source.label source.content }) target power ≡ hide_plan observer (releasing task name source target power)
unfolding hide_asked hide_onward
releasing-hidden observer task name source target power =
    let verdict : Verdict = guarded_relabel task.label task.clearance source.label target power in
    let asked : Act = act.Release source.label target power Hidden in
    let next : Label → Plan = λ current. Own (act.Release source.label target power source.content) Done (Release name target) in
    let hidden : Label → Plan = λ current. Own (act.Release source.label target power (erase_content observer source.label source.content)) Done (Release name target) in
    let same : hide_asked observer asked ≡ asked = ap (λ (content : Content). act.Release source.label target power content) (hidden-twice observer source.label) in
    subst (λ (a : Act). with_verdict (hide_task observer task) a verdict hidden ≡ hide_plan observer (with_verdict task asked verdict next)) same
    (with_verdict-hidden observer task asked verdict next hidden (λ current. refl))

-- exposures
pub exposing-hidden : (observer : Label) (task : TaskState) (name : List ℕ) (source : Labelled) (power : Priv)
    → exposing (hide_task observer task) name (record source { content = erase_content observer source.label source.content }) power ≡ hide_plan observer (exposing task name source power)
unfolding hide_asked hide_onward
exposing-hidden observer task name source power =
    let verdict : Verdict = guarded_expose task.label task.clearance source.label power in
    let target : Label = exposed_to source.label verdict in
    let asked : Act = act.Expose source.label target power Hidden in
    let next : Label → Plan = λ label. Own (act.Expose source.label label power source.content) Done (Expose name label) in
    let hidden : Label → Plan = λ label. Own (act.Expose source.label label power (erase_content observer source.label source.content)) Done (Expose name label) in
    let same : hide_asked observer asked ≡ asked = ap (λ (content : Content). act.Expose source.label target power content) (hidden-twice observer source.label) in
    subst (λ (a : Act). with_verdict (hide_task observer task) a verdict hidden ≡ hide_plan observer (with_verdict task asked verdict next)) same
    (with_verdict-hidden observer task asked verdict next hidden (λ label. refl))

-- new references and variables
pub new_reference-hidden : (observer : Label) (task : TaskState) (name : List ℕ) (label : Label) (value : Value)
    → new_reference (hide_task observer task) name label (erase_value observer value) ≡ hide_plan observer (new_reference task name label value)
unfolding hide_asked hide_onward
new_reference-hidden observer task name label value =
    let asked : Act = act.NewRef label value in
    let last : Plan = Visit asked (New task.first) (HoldReference name label) in
    with_verdict-hidden observer task asked (verdict_on task op.NewRef label) (λ current. with_cells task asked 1 last) (λ current. with_cells (hide_task observer task) (hide_asked observer asked) 1 (hide_plan observer last))
    (λ current. with_cells-hidden observer task asked 1 last (hide_plan observer last) refl)

pub new_variable-hidden : (observer : Label) (task : TaskState) (name : List ℕ) (label : Label) (value : Option Value)
    → new_variable (hide_task observer task) name label (option_map (erase_value observer) value) ≡ hide_plan observer (new_variable task name label value)
unfolding hide_asked hide_onward
new_variable-hidden observer task name label value =
    let asked : Act = act.NewVar label value in
    let last : Plan = Visit asked (New task.first) (HoldVariable name label) in
    with_verdict-hidden observer task asked (verdict_on task op.NewVar label) (λ current. with_cells task asked 1 last) (λ current. with_cells (hide_task observer task) (hide_asked observer asked) 1 (hide_plan observer last))
    (λ current. with_cells-hidden observer task asked 1 last (hide_plan observer last) refl)

-- writes and sends
pub writing-hidden : (observer : Label) (task : TaskState) (handle : Handle) (value : Value)
    → with_verdict (hide_task observer task) (act.Write (erase_value observer value)) (verdict_on task op.Write handle.label) (λ current. Visit (act.Write (erase_value observer value)) (Node Reference handle) Advance)
    ≡ hide_plan observer (with_verdict task (act.Write value) (verdict_on task op.Write handle.label) (λ current. Visit (act.Write value) (Node Reference handle) Advance))
unfolding hide_asked hide_onward
writing-hidden observer task handle value =
    let next : Label → Plan = λ current. Visit (act.Write value) (Node Reference handle) Advance in
    with_verdict-hidden observer task (act.Write value) (verdict_on task op.Write handle.label) next (λ current. hide_plan observer (next current)) (λ current. refl)

pub sending-hidden : (observer : Label) (task : TaskState) (handle : Handle) (text : List ℕ)
    → with_verdict (hide_task observer task) (act.Send text) (verdict_on task op.Send handle.label) (λ current. Visit (act.Send text) (Node Channel handle) Advance)
    ≡ hide_plan observer (with_verdict task (act.Send text) (verdict_on task op.Send handle.label) (λ current. Visit (act.Send text) (Node Channel handle) Advance))
unfolding hide_asked hide_onward
sending-hidden observer task handle text =
    let next : Label → Plan = λ current. Visit (act.Send text) (Node Channel handle) Advance in
    with_verdict-hidden observer task (act.Send text) (verdict_on task op.Send handle.label) next next (λ current. refl)

-- births
birth-hidden : (observer : Label) (place : ℕ) (values : List Value) (label clearance : Label) (turns first cells : ℕ)
    → birth_of place (map (erase_value observer) values) label clearance turns first cells ≡ erase_birth observer (birth_of place values label clearance turns first cells)
birth-hidden observer place values label clearance turns first cells = refl

with_room-hidden : (observer : Label) (task : TaskState) (asked : Act) (cells turns : ℕ) (next hidden : Plan) → hidden ≡ hide_plan observer next
    → with_room (hide_task observer task) (hide_asked observer asked) cells turns hidden ≡ hide_plan observer (with_room task asked cells turns next)
with_room-hidden observer task asked cells turns next hidden is =
    with_cells-hidden observer task asked (cells + 1) (with_turns task asked turns next) (with_turns (hide_task observer task) (hide_asked observer asked) turns hidden)
    (with_turns-hidden observer task asked turns next hidden is)

pub forking-hidden : (observer : Label) (task : TaskState) (name : List ℕ) (label : Label) (turns cells : ℕ) (birth : Birth)
    → forking (hide_task observer task) name label turns cells (erase_birth observer birth) ≡ hide_plan observer (forking task name label turns cells birth)
unfolding hide_asked hide_onward
forking-hidden observer task name label turns cells birth =
    let asked : Act = act.Fork birth in
    let last : Plan = Visit asked (New task.first) (Fork name label cells turns) in
    with_verdict-hidden observer task asked (verdict_on task op.Fork label) (λ current. with_room task asked cells turns last) (λ current. with_room (hide_task observer task) (hide_asked observer asked) cells turns (hide_plan observer last))
    (λ current. with_room-hidden observer task asked cells turns last (hide_plan observer last) refl)

pub spawning-hidden : (observer : Label) (task : TaskState) (turns cells : ℕ) (birth : Birth)
    → spawning (hide_task observer task) turns cells (erase_birth observer birth) ≡ hide_plan observer (spawning task turns cells birth)
unfolding hide_asked hide_onward
spawning-hidden observer task turns cells birth =
    let asked : Act = act.Spawn birth in
    let last : Plan = Visit asked (New task.first) (Spawn cells turns) in
    with_room-hidden observer task asked cells turns last (hide_plan observer last) refl

-- unlabelling
pub unlabelling-hidden : (observer : Label) (task : TaskState) (name : List ℕ) (source : Labelled)
    → with_verdict (hide_task observer task) (act.Raise op.Unlabel source.label) (verdict_on task op.Unlabel source.label) (λ current. Own (act.Raise op.Unlabel source.label) Done (Unlabel name current source.label (erase_content observer source.label source.content)))
    ≡ hide_plan observer (with_verdict task (act.Raise op.Unlabel source.label) (verdict_on task op.Unlabel source.label) (λ current. Own (act.Raise op.Unlabel source.label) Done (Unlabel name current source.label source.content)))
unfolding hide_asked hide_onward
unlabelling-hidden observer task name source =
    let next : Label → Plan = λ current. Own (act.Raise op.Unlabel source.label) Done (Unlabel name current source.label source.content) in
    with_verdict-hidden observer task (act.Raise op.Unlabel source.label) (verdict_on task op.Unlabel source.label) next (λ current. hide_plan observer (next current)) (λ current. refl)
