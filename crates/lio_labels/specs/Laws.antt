-- The laws of flow, of the bounds of labels, and of flow with a privilege (Disjunction Category Labels, 2011).
use Rattle.std.specs.Prelude.{◌≡◌, ◌↔◌, IsTrue, []}
use Rattle.lio_clauses.specs.Implication.{implies}
use Rattle.lio_clauses.specs.Canonical.{IsCanonical}
use Rattle.lio_labels.specs.declared.label.Label.{Label}
use Rattle.lio_labels.specs.declared.privilege.Priv.{Priv}
use Rattle.lio_labels.specs.Flow.{Flows, flows}
use Rattle.lio_labels.specs.Bounds.{join, meet}
use Rattle.lio_labels.specs.Extremes.{least, greatest}
use Rattle.lio_labels.specs.IsLabel.{IsWide, IsLabel}
use Rattle.lio_labels.specs.Privilege.{FlowsWith, flows_with, downgraded}

-- the test of flow and flow over all sets of principals agree
abbrev pub FlowIsTested : Type 0
FlowIsTested = (a b : Label) → IsTrue (flows a b) ↔ Flows a b

-- flow is a partial order on labels
abbrev pub FlowIsReflexive : Type 0
FlowIsReflexive = (a : Label) → IsTrue (flows a a)

abbrev pub FlowIsTransitive : Type 0
FlowIsTransitive = (a b c : Label) → IsTrue (flows a b) → IsTrue (flows b c) → IsTrue (flows a c)

abbrev pub FlowIsAntisymmetric : Type 0
FlowIsAntisymmetric = (a b : Label) → IsLabel a → IsLabel b → IsTrue (flows a b) → IsTrue (flows b a) → a ≡ b

-- both labels flow to their join, which flows to each label that both flow to
abbrev pub LeftFlowsToJoin : Type 0
LeftFlowsToJoin = (a b : Label) → IsTrue (flows a (join a b))

abbrev pub RightFlowsToJoin : Type 0
RightFlowsToJoin = (a b : Label) → IsTrue (flows b (join a b))

abbrev pub JoinIsLeast : Type 0
JoinIsLeast = (a b c : Label) → IsTrue (flows a c) → IsTrue (flows b c) → IsTrue (flows (join a b) c)

-- the meet flows to both labels, and each label that flows to both flows to it
abbrev pub MeetFlowsToLeft : Type 0
MeetFlowsToLeft = (a b : Label) → IsTrue (flows (meet a b) a)

abbrev pub MeetFlowsToRight : Type 0
MeetFlowsToRight = (a b : Label) → IsTrue (flows (meet a b) b)

abbrev pub MeetIsGreatest : Type 0
MeetIsGreatest = (a b c : Label) → IsTrue (flows c a) → IsTrue (flows c b) → IsTrue (flows c (meet a b))

-- the bounds of labels are labels where they are not wide
abbrev pub JoinIsLabel : Type 0
JoinIsLabel = (a b : Label) → IsLabel a → IsLabel b → ¬ IsWide (join a b) → IsLabel (join a b)

abbrev pub MeetIsLabel : Type 0
MeetIsLabel = (a b : Label) → IsLabel a → IsLabel b → ¬ IsWide (meet a b) → IsLabel (meet a b)

-- a label that flows to another is the meet of the two, and the other is their join
abbrev pub JoinWithAbove : Type 0
JoinWithAbove = (a b : Label) → IsLabel a → IsLabel b → IsTrue (flows a b) → join a b ≡ b

abbrev pub MeetWithAbove : Type 0
MeetWithAbove = (a b : Label) → IsLabel a → IsLabel b → IsTrue (flows a b) → meet a b ≡ a

-- the least label flows to each label, and each flows to the greatest
abbrev pub LeastFlowsToAll : Type 0
LeastFlowsToAll = (a : Label) → IsTrue (flows least a)

abbrev pub AllFlowToGreatest : Type 0
AllFlowToGreatest = (a : Label) → IsTrue (flows a greatest)

-- the test of flow with a privilege and flow with a privilege over all sets of principals agree
abbrev pub PrivilegeIsTested : Type 0
PrivilegeIsTested = (p : Priv) (a b : Label) → IsTrue (flows_with p a b) ↔ FlowsWith p a b

-- what flows with a privilege flows with each privilege that implies it
abbrev pub PrivilegeGrows : Type 0
PrivilegeGrows = (p q : Priv) (a b : Label) → IsTrue (implies q.power p.power) → IsTrue (flows_with p a b) → IsTrue (flows_with q a b)

-- with the privilege True it is flow
abbrev pub TruePrivilegeIsFlow : Type 0
TruePrivilegeIsFlow = (a b : Label) → flows_with (record { power = [] }) a b ≡ flows a b

-- what flows, flows with each privilege
abbrev pub FlowIsWithPrivilege : Type 0
FlowIsWithPrivilege = (p : Priv) (a b : Label) → IsTrue (flows a b) → IsTrue (flows_with p a b)

-- a flow before or after a flow with a privilege changes nothing
abbrev pub FlowThenPrivilege : Type 0
FlowThenPrivilege = (p : Priv) (a b c : Label) → IsTrue (flows a b) → IsTrue (flows_with p b c) → IsTrue (flows_with p a c)

abbrev pub PrivilegeThenFlow : Type 0
PrivilegeThenFlow = (p : Priv) (a b c : Label) → IsTrue (flows_with p a b) → IsTrue (flows b c) → IsTrue (flows_with p a c)

-- as a privilege lowers it, a label flows back to itself; the label flows to it with the privilege, and it flows to each label to which the label flows so
abbrev pub DowngradedFlowsBack : Type 0
DowngradedFlowsBack = (p : Priv) (a : Label) → IsTrue (flows (downgraded p a) a)

abbrev pub FlowsToDowngraded : Type 0
FlowsToDowngraded = (p : Priv) (a : Label) → IsTrue (flows_with p a (downgraded p a))

abbrev pub DowngradedIsLeast : Type 0
DowngradedIsLeast = (p : Priv) (a b : Label) → IsTrue (flows_with p a b) → IsTrue (flows (downgraded p a) b)

-- it is a label where it is not wide
abbrev pub DowngradedIsLabel : Type 0
DowngradedIsLabel = (p : Priv) (a : Label) → IsCanonical p.power → IsLabel a → ¬ IsWide (downgraded p a) → IsLabel (downgraded p a)
