-- The laws of labels as privileges raise them, and of what a policy lets flow (Disjunction Category Labels, 2011).
use Rattle.std.specs.Prelude.{◌≡◌, ◌↔◌, IsTrue, IsFalse, List}
use Rattle.std.specs.List.{Contains, list_all}
use Rattle.lio_clauses.specs.Canonical.{is_clause}
use Rattle.lio_labels.specs.declared.label.Label.{Label}
use Rattle.lio_labels.specs.declared.privilege.Priv.{Priv}
use Rattle.lio_labels.specs.Flow.{flows}
use Rattle.lio_labels.specs.IsLabel.{IsWide, IsLabel}
use Rattle.lio_labels.specs.Privilege.{flows_with}
use Rattle.lio_policy.specs.Policy.{PolicyParts}
use Rattle.lio_policy.specs.Powers.{powers_of}
use Rattle.lio_policy.specs.declared.policy.FileEntry.{FileEntry}
use Rattle.lio_policy.specs.declared.flows.MayFlow.{MayFlow}
use Rattle.lio_policy.specs.declared.flows.MayFlow.TheVariants.{May, OnlyByPrivilege, Never}
use Rattle.lio_policy.specs.Flows.{together, raised, raised_by, may_flow}

-- what flows to a label with a privilege is exactly what flows to the label as the privilege raises it
abbrev pub FlowsToRaised : Type 0
FlowsToRaised = (p : Priv) (from to : Label) → flows_with p from to ≡ flows from (raised p to)

-- a label flows to itself as a privilege raises it
abbrev pub FlowsToItselfRaised : Type 0
FlowsToItselfRaised = (p : Priv) (a : Label) → IsTrue (flows a (raised p a))

-- as a privilege raises it, a label is the greatest that flows to it with the privilege
abbrev pub RaisedIsGreatest : Type 0
RaisedIsGreatest = (p : Priv) (a : Label) → IsTrue (flows_with p (raised p a) a) × ((b : Label) → IsTrue (flows_with p b a) → IsTrue (flows b (raised p a)))

-- it is a label where it is not wide, also as some privileges together raise it, of whose clauses one may imply another
abbrev pub RaisedIsLabel : Type 0
RaisedIsLabel = (p : Priv) (a : Label) → IsTrue (list_all is_clause p.power) → IsLabel a → ¬ IsWide (raised p a) → IsLabel (raised p a)

-- privileges compose: what flows with one of some privileges to what flows to a label as all together raise it, flows there itself. So nothing is released with one of
-- them from above that label to below it
abbrev pub PrivilegesCompose : Type 0
PrivilegesCompose = (powers : List Priv) (power : Priv) (from to label : Label) → Contains powers power
    → IsTrue (flows_with power from to) → IsTrue (flows to (raised (together powers) label)) → IsTrue (flows from (raised (together powers) label))

-- what an answer says of two labels, under some privileges; what flows flows with a privilege too, so no two answers say the same
abbrev pub Says : Priv → Label → Label → MayFlow → Type 0
Says p from to May = IsTrue (flows from to)
Says p from to OnlyByPrivilege = IsFalse (flows from to) × IsTrue (flows_with p from to)
Says p from to Never = IsFalse (flows_with p from to)

-- each answer of what may flow is right, with all the policy's privileges together
abbrev pub MayFlowIsExact : Type 0
MayFlowIsExact = (policy : PolicyParts) (input channel : FileEntry) → Says (together (powers_of policy)) input.label channel.label (may_flow policy input channel)

-- what never flows to a channel is exactly what doesn't flow to the channel's label as the policy's privileges raise it
abbrev pub NeverIsAbove : Type 0
NeverIsAbove = (policy : PolicyParts) (input channel : FileEntry) → (may_flow policy input channel ≡ Never) ↔ IsFalse (flows input.label (raised_by policy channel))
