-- Bounds of labels have no other principals than the labels.
use Rattle.lio_clauses.proofs.Algebra.{conjunction_is_named, disjunction_is_named}
use Rattle.lio_clauses.proofs.WithoutLemmas.{without_is_named}
use Rattle.lio_labels.specs.Bounds.{join, meet}
use Rattle.lio_labels.specs.Privilege.{downgraded}
use Rattle.lio_labels.specs.LabelPrint.{JoinIsNamed, MeetIsNamed, DowngradedIsNamed}

pub join_is_named : JoinIsNamed
unfolding join
join_is_named names a b h k = (conjunction_is_named names a.secrecy b.secrecy h.0 k.0, disjunction_is_named names a.integrity b.integrity h.1 k.1)

pub meet_is_named : MeetIsNamed
unfolding meet
meet_is_named names a b h k = (disjunction_is_named names a.secrecy b.secrecy h.0 k.0, conjunction_is_named names a.integrity b.integrity h.1 k.1)

pub downgraded_is_named : DowngradedIsNamed
unfolding downgraded
downgraded_is_named names p a h k = (without_is_named names a.secrecy p.power k.0, conjunction_is_named names a.integrity p.power k.1 h)
