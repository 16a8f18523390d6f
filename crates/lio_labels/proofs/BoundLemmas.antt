-- The join is the least label above both, and the meet the greatest below both.
use Rattle.lio_clauses.specs.Canonical.{IsCanonical}
use Rattle.lio_clauses.proofs.Algebra.{conjunction_is_canonical, disjunction_is_canonical, conjunction_implies_left, conjunction_implies_right, conjunction_is_greatest, left_implies_disjunction, right_implies_disjunction, disjunction_is_least}
use Rattle.lio_labels.specs.declared.label.Label.{Label}
use Rattle.lio_labels.specs.Bounds.{join, meet}
use Rattle.lio_labels.specs.IsLabel.{IsLabel}
use Rattle.lio_labels.specs.Laws.{LeftFlowsToJoin, RightFlowsToJoin, JoinIsLeast, MeetFlowsToLeft, MeetFlowsToRight, MeetIsGreatest, JoinIsLabel, MeetIsLabel, JoinWithAbove, MeetWithAbove}
use Rattle.lio_labels.proofs.FlowLemmas.{flows-from, flows-secrecy, flows-integrity, flows-both_ways, flow_is_reflexive}

pub left_flows_to_join : LeftFlowsToJoin
unfolding join
left_flows_to_join a b = flows-from a (join a b) (conjunction_implies_left a.secrecy b.secrecy) (left_implies_disjunction a.integrity b.integrity)

pub right_flows_to_join : RightFlowsToJoin
unfolding join
right_flows_to_join a b = flows-from b (join a b) (conjunction_implies_right a.secrecy b.secrecy) (right_implies_disjunction a.integrity b.integrity)

pub join_is_least : JoinIsLeast
unfolding join
join_is_least a b c h k =
    flows-from (join a b) c
    (conjunction_is_greatest a.secrecy b.secrecy c.secrecy (flows-secrecy a c h) (flows-secrecy b c k))
    (disjunction_is_least a.integrity b.integrity c.integrity (flows-integrity a c h) (flows-integrity b c k))

pub meet_flows_to_left : MeetFlowsToLeft
unfolding meet
meet_flows_to_left a b = flows-from (meet a b) a (left_implies_disjunction a.secrecy b.secrecy) (conjunction_implies_left a.integrity b.integrity)

pub meet_flows_to_right : MeetFlowsToRight
unfolding meet
meet_flows_to_right a b = flows-from (meet a b) b (right_implies_disjunction a.secrecy b.secrecy) (conjunction_implies_right a.integrity b.integrity)

pub meet_is_greatest : MeetIsGreatest
unfolding meet
meet_is_greatest a b c h k =
    flows-from c (meet a b)
    (disjunction_is_least a.secrecy b.secrecy c.secrecy (flows-secrecy c a h) (flows-secrecy c b k))
    (conjunction_is_greatest a.integrity b.integrity c.integrity (flows-integrity c a h) (flows-integrity c b k))

-- the parts of bounds are canonical
join-secrecy : (a b : Label) → IsLabel a → IsLabel b → IsCanonical (join a b).secrecy
unfolding join
join-secrecy a b la lb = conjunction_is_canonical a.secrecy b.secrecy la.secrecy.clauses lb.secrecy.clauses

join-integrity : (a b : Label) → IsLabel a → IsLabel b → IsCanonical (join a b).integrity
unfolding join
join-integrity a b la lb = disjunction_is_canonical a.integrity b.integrity la.integrity.clauses lb.integrity.clauses

meet-secrecy : (a b : Label) → IsLabel a → IsLabel b → IsCanonical (meet a b).secrecy
unfolding meet
meet-secrecy a b la lb = disjunction_is_canonical a.secrecy b.secrecy la.secrecy.clauses lb.secrecy.clauses

meet-integrity : (a b : Label) → IsLabel a → IsLabel b → IsCanonical (meet a b).integrity
unfolding meet
meet-integrity a b la lb = conjunction_is_canonical a.integrity b.integrity la.integrity.clauses lb.integrity.clauses

pub join_is_label : JoinIsLabel
join_is_label a b la lb narrow = record { secrecy = join-secrecy a b la lb; integrity = join-integrity a b la lb; narrow = narrow }

pub meet_is_label : MeetIsLabel
meet_is_label a b la lb narrow = record { secrecy = meet-secrecy a b la lb; integrity = meet-integrity a b la lb; narrow = narrow }

pub join_with_above : JoinWithAbove
join_with_above a b la lb h =
    flows-both_ways (join a b) b (join-secrecy a b la lb) (join-integrity a b la lb) lb.secrecy lb.integrity
    (join_is_least a b b h (flow_is_reflexive b)) (right_flows_to_join a b)

pub meet_with_above : MeetWithAbove
meet_with_above a b la lb h =
    flows-both_ways (meet a b) a (meet-secrecy a b la lb) (meet-integrity a b la lb) la.secrecy la.integrity
    (meet_flows_to_left a b) (meet_is_greatest a b a (flow_is_reflexive a) h)
