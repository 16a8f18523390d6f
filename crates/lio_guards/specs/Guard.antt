-- Which operations the labels of a task let go, and at which current label it goes on (the rules of LIO, ICFP 2012).
use Rattle.std.specs.Prelude.{Option, Some, None, ◌||◌, if◌then◌else◌}
use Rattle.std.specs.Option.{option_or}
use Rattle.lio_labels.specs.declared.label.Label.{Label}
use Rattle.lio_labels.specs.declared.privilege.Priv.{Priv}
use Rattle.lio_labels.specs.Flow.{flows}
use Rattle.lio_labels.specs.Bounds.{join}
use Rattle.lio_labels.specs.Privilege.{flows_with, downgraded}
use Rattle.lio_values.specs.declared.act.Op.{Op}
use Rattle.lio_values.specs.declared.fault.FaultKind.{FaultKind}
use Rattle.lio_values.specs.declared.fault.FaultKind.TheVariants.{FlowCurrent, FlowClearance, FlowRaise, FlowPrivilege, LabelWide}
use Rattle.lio_guards.specs.declared.class.Class.{Class}
use Rattle.lio_guards.specs.declared.class.Class.TheVariants.{Write, Raise, Exchange}
use Rattle.lio_guards.specs.declared.verdict.Verdict.{Verdict}
use Rattle.lio_guards.specs.declared.verdict.Verdict.TheVariants.{Go, No}
use Rattle.lio_guards.specs.Class.{class_of}
use Rattle.lio_guards.specs.Width.{is_wide}

-- a target is made, or written to, where the current label flows to it and it flows to the clearance; else the fault of the first test that fails
unfoldable pub write_fault : Label → Label → Label → Option FaultKind
write_fault current clearance target =
    if flows current target then
    (if flows target clearance then None else Some (FlowClearance target clearance))
    else Some (FlowCurrent current target)

-- the current label is raised where it isn't wide then and flows to the clearance
unfoldable pub raise_fault : Label → Label → Label → Option FaultKind
raise_fault current clearance target =
    if is_wide (join current target) then Some (LabelWide current target)
    else (if flows (join current target) clearance then None else Some (FlowRaise (join current target) clearance))

-- what has a label is released to another where the label flows to it with the privilege
unfoldable pub release_fault : Label → Label → Priv → Option FaultKind
release_fault source target power = if flows_with power source target then None else Some (FlowPrivilege power source target)

-- an operation goes on at a label, unless there is a fault
abbrev pub go_unless : Option FaultKind → Label → Verdict
go_unless None label = Go label
go_unless (Some kind) label = No kind

-- the tests of a class of operations, and the current label at which an operation goes on
abbrev pub guarded_as : Class → Label → Label → Label → Verdict
guarded_as Write current clearance target = go_unless (write_fault current clearance target) current
guarded_as Raise current clearance target = go_unless (raise_fault current clearance target) (join current target)
guarded_as Exchange current clearance target = go_unless (write_fault current clearance target) target

-- the verdict on an operation, of the current label, the clearance and the target's label
unfoldable pub guarded : Op → Label → Label → Label → Verdict
guarded op current clearance target = guarded_as (class_of op) current clearance target

-- the verdict on a release by a privilege, of the current label, the clearance, the source's and the target's label: the tests of a write, and then its own
unfoldable pub guarded_relabel : Label → Label → Label → Label → Priv → Verdict
guarded_relabel current clearance source target power = go_unless (option_or (write_fault current clearance target) (release_fault source target power)) current

-- the current label at which a task goes on that exposes by a privilege what has a label: joined with that label, as the privilege lowers it
unfoldable pub exposed : Label → Label → Priv → Label
exposed current source power = join current (downgraded power source)

-- what has a label is exposed where neither that label, as the privilege lowers it, nor the new current label is wide, and the new label flows to the clearance
unfoldable pub expose_fault : Label → Label → Label → Priv → Option FaultKind
expose_fault current clearance source power =
    if is_wide (downgraded power source) || is_wide (exposed current source power) then Some (LabelWide current source)
    else (if flows (exposed current source power) clearance then None else Some (FlowRaise (exposed current source power) clearance))

-- the verdict on exposing by a privilege, of the current label, the clearance and the source's label
unfoldable pub guarded_expose : Label → Label → Label → Priv → Verdict
guarded_expose current clearance source power = go_unless (expose_fault current clearance source power) (exposed current source power)
