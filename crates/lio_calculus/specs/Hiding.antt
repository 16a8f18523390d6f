-- What an observer sees of a task, and of the plan of its next turn: each value with its content hidden where its label doesn't flow to the observer's
-- (the erasure of the concurrent calculus of LIO, ICFP 2012).
use Rattle.std.specs.Prelude.{◌≡◌, map}
use Rattle.lio_labels.specs.declared.label.Label.{Label}
use Rattle.lio_values.specs.declared.act.Act.{Act}
use Rattle.lio_values.specs.declared.act.Act.TheVariants as act
use Rattle.lio_values.specs.Erasure.{erase_content, erase_value, erase_act, erase_reply}
use Rattle.lio_syntax.specs.Hiding.{hide_environment, hide_item}
use Rattle.lio_calculus.specs.Task.{TaskState}
use Rattle.lio_calculus.specs.Going.{Onward, Advance, Bind, Seal, Enter, Repeat, Try, Call, Return, Leave, Raise, RaiseTo, Unlabel, Lower, Release, Expose, HoldReference, HoldVariable, Fork, Spawn, BindReply, Throw, End}
use Rattle.lio_calculus.specs.Plan.{Program, Plan, Over, Own, Visit, plan}

-- a task, with its values hidden
abbrev pub hide_task : Label → TaskState → TaskState
hide_task observer task =
    record task { environment = hide_environment observer task.environment; items = map (hide_item observer) task.items }

-- what a task that is seen so asks for. It differs from the entry that is seen at a release and at an exposure: there the content that the task holds is under the source
unfoldable pub hide_asked : Label → Act → Act
hide_asked observer (act.Release source target power content) = act.Release source target power (erase_content observer source content)
hide_asked observer (act.Expose source target power content) = act.Expose source target power (erase_content observer source content)
hide_asked observer asked = erase_act observer asked

-- how a task that is seen so goes on
unfoldable pub hide_onward : Label → Onward → Onward
hide_onward observer (Bind name value) = Bind name (erase_value observer value)
hide_onward observer (Call name environment body) = Call name (hide_environment observer environment) body
hide_onward observer (Return value) = Return (erase_value observer value)
hide_onward observer (Leave caller name) = Leave (hide_environment observer caller) name
hide_onward observer (Unlabel name label source content) = Unlabel name label source (erase_content observer source content)
hide_onward observer Advance = Advance
hide_onward observer (Seal name label plain) = Seal name label plain
hide_onward observer (Enter block) = Enter block
hide_onward observer (Repeat condition block) = Repeat condition block
hide_onward observer (Try block code payload handler) = Try block code payload handler
hide_onward observer (Raise label) = Raise label
hide_onward observer (RaiseTo label access) = RaiseTo label access
hide_onward observer (Lower clearance) = Lower clearance
hide_onward observer (Release name label) = Release name label
hide_onward observer (Expose name label) = Expose name label
hide_onward observer (HoldReference name label) = HoldReference name label
hide_onward observer (HoldVariable name label) = HoldVariable name label
hide_onward observer (Fork name label cells turns) = Fork name label cells turns
hide_onward observer (Spawn cells turns) = Spawn cells turns
hide_onward observer (BindReply name) = BindReply name
hide_onward observer (Throw fault) = Throw fault
hide_onward observer End = End

-- the plan of a task that is seen so
abbrev pub hide_plan : Label → Plan → Plan
hide_plan observer Over = Over
hide_plan observer (Own asked reply onward) = Own (hide_asked observer asked) (erase_reply observer reply) (hide_onward observer onward)
hide_plan observer (Visit asked target onward) = Visit (hide_asked observer asked) target (hide_onward observer onward)

-- the law of hiding: the plan of a task that is seen with hidden values is its plan with hidden values
abbrev pub PlanHidden : Type 0
PlanHidden = (program : Program) (observer : Label) (task : TaskState) → plan program (hide_task observer task) ≡ hide_plan observer (plan program task)
