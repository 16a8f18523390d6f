use Rattle.std.proofs.Common.{◌∙◌}
use Rattle.lio_events_reading.proofs.KindLemmas.{flow_current, flow_clearance, flow_raise, flow_privilege, no_cells, child_turns, label_wide}
use Rattle.lio_events_reading.proofs.faults.kind_behind.Goals as goal

pub returns-in_ok-current-in-FlowCurrent-clause-finds : goal.returns-in_ok-current-in-FlowCurrent-clause-finds
returns-in_ok-current-in-FlowCurrent-clause-finds c = λ kind rest o e is.
    flow_current c.args.names.now c.args.text.now c.in_ok-current-in-FlowCurrent.current c.in_ok-current-in-FlowCurrent.target _ c.in_ok-current-in-FlowCurrent.ensures.finds kind rest (o.0, o.1 ∙ c.in-FlowCurrent.is) e is

pub returns-in_ok-target-in-FlowClearance-clause-finds : goal.returns-in_ok-target-in-FlowClearance-clause-finds
returns-in_ok-target-in-FlowClearance-clause-finds c = λ kind rest o e is.
    flow_clearance c.args.names.now c.args.text.now c.in_ok-target-in-FlowClearance.target c.in_ok-target-in-FlowClearance.clearance _ c.in_ok-target-in-FlowClearance.ensures.finds kind rest (o.0, o.1 ∙ c.in-FlowClearance.is) e is

pub returns-in_ok-raised-in-FlowRaise-clause-finds : goal.returns-in_ok-raised-in-FlowRaise-clause-finds
returns-in_ok-raised-in-FlowRaise-clause-finds c = λ kind rest o e is.
    flow_raise c.args.names.now c.args.text.now c.in_ok-raised-in-FlowRaise.raised c.in_ok-raised-in-FlowRaise.clearance _ c.in_ok-raised-in-FlowRaise.ensures.finds kind rest (o.0, o.1 ∙ c.in-FlowRaise.is) e is

pub returns-in_ok-left-in-LabelWide-clause-finds : goal.returns-in_ok-left-in-LabelWide-clause-finds
returns-in_ok-left-in-LabelWide-clause-finds c = λ kind rest o e is.
    label_wide c.args.names.now c.args.text.now c.in_ok-left-in-LabelWide.left c.in_ok-left-in-LabelWide.right _ c.in_ok-left-in-LabelWide.ensures.finds kind rest (o.0, o.1 ∙ c.in-LabelWide.is) e is

pub returns-in-NoCells-clause-finds : goal.returns-in-NoCells-clause-finds
returns-in-NoCells-clause-finds c = λ kind rest o e is.
    no_cells c.args.names.now c.args.text.now c.two_longs-asked.result.0 c.two_longs-asked.result.1 c.two_longs-asked.new.text c.two_longs-asked.ensures.finds kind rest (o.0, o.1 ∙ c.in-NoCells.is) e is

pub returns-in-ChildTurns-clause-finds : goal.returns-in-ChildTurns-clause-finds
returns-in-ChildTurns-clause-finds c = λ kind rest o e is.
    child_turns c.args.names.now c.args.text.now c.two_longs-asked-in-ChildTurns.result.0 c.two_longs-asked-in-ChildTurns.result.1 c.two_longs-asked-in-ChildTurns.new.text c.two_longs-asked-in-ChildTurns.ensures.finds
    kind rest (o.0, o.1 ∙ c.in-ChildTurns.is) e is

pub returns-in_ok-source-in-FlowPrivilege-clause-finds : goal.returns-in_ok-source-in-FlowPrivilege-clause-finds
returns-in_ok-source-in-FlowPrivilege-clause-finds c = λ kind rest o e is.
    flow_privilege c.args.names.now c.args.text.now c.in_ok-power-in-FlowPrivilege.power c.power.new.text c.in_ok-source-in-FlowPrivilege.source c.in_ok-source-in-FlowPrivilege.target c.two_labels-in-FlowPrivilege.new.text
    c.in_ok-power-in-FlowPrivilege.ensures.finds c.in_ok-source-in-FlowPrivilege.ensures.finds kind rest (o.0, o.1 ∙ c.in-FlowPrivilege.is) e is
