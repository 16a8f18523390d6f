-- Flow is a partial order on labels, with a least and a greatest one.
use Rattle.std.proofs.Common.{◌≡◌, ℕ, Bool, true, false, ◌&&◌, List, ap, sym, ◌∙◌, IsTrue}
use Rattle.std.proofs.lemmas.Bool.{and_parts, and_from}
use Rattle.lio_clauses.specs.Implication.{implies}
use Rattle.lio_clauses.specs.Canonical.{IsCanonical}
use Rattle.lio_clauses.proofs.Algebra.{implication_is_tested, implication_is_reflexive, implication_is_transitive, implication_is_antisymmetric, falsity_is_least, truth_is_greatest}
use Rattle.lio_labels.specs.declared.label.Label.{Label}
use Rattle.lio_labels.specs.Flow.{Flows, flows}
use Rattle.lio_labels.specs.Extremes.{least, greatest}
use Rattle.lio_labels.specs.Laws.{FlowIsTested, FlowIsReflexive, FlowIsTransitive, FlowIsAntisymmetric, LeastFlowsToAll, AllFlowToGreatest}

-- the parts of a flow
pub flows-secrecy : (a b : Label) → IsTrue (flows a b) → IsTrue (implies b.secrecy a.secrecy)
unfolding flows
flows-secrecy a b h = (and_parts (implies b.secrecy a.secrecy) (implies a.integrity b.integrity) h).0

pub flows-integrity : (a b : Label) → IsTrue (flows a b) → IsTrue (implies a.integrity b.integrity)
unfolding flows
flows-integrity a b h = (and_parts (implies b.secrecy a.secrecy) (implies a.integrity b.integrity) h).1

pub flows-from : (a b : Label) → IsTrue (implies b.secrecy a.secrecy) → IsTrue (implies a.integrity b.integrity) → IsTrue (flows a b)
unfolding flows
flows-from a b s i = and_from (implies b.secrecy a.secrecy) (implies a.integrity b.integrity) s i

pub flow_is_tested : FlowIsTested
flow_is_tested a b = (
  λ h. ((implication_is_tested b.secrecy a.secrecy).0 (flows-secrecy a b h), (implication_is_tested a.integrity b.integrity).0 (flows-integrity a b h)),
  λ h. flows-from a b ((implication_is_tested b.secrecy a.secrecy).1 h.0) ((implication_is_tested a.integrity b.integrity).1 h.1),
)

pub flow_is_reflexive : FlowIsReflexive
flow_is_reflexive a = flows-from a a (implication_is_reflexive a.secrecy) (implication_is_reflexive a.integrity)

pub flow_is_transitive : FlowIsTransitive
flow_is_transitive a b c h k =
    flows-from a c
    (implication_is_transitive c.secrecy b.secrecy a.secrecy (flows-secrecy b c k) (flows-secrecy a b h))
    (implication_is_transitive a.integrity b.integrity c.integrity (flows-integrity a b h) (flows-integrity b c k))

-- labels with equal parts are equal
pub same-label : (a b : Label) → a.secrecy ≡ b.secrecy → a.integrity ≡ b.integrity → a ≡ b
same-label a b s i =
    let with : List (List ℕ) → List (List ℕ) → Label = λ x y. record { secrecy = x; integrity = y } in
    let first : a ≡ with b.secrecy a.integrity = ap (λ x. with x a.integrity) s in
    let second : with b.secrecy a.integrity ≡ b = ap (with b.secrecy) i in
    first ∙ second

-- canonical pairs that flow to each other are equal, wide or not
pub flows-both_ways : (a b : Label) → IsCanonical a.secrecy → IsCanonical a.integrity → IsCanonical b.secrecy → IsCanonical b.integrity → IsTrue (flows a b) → IsTrue (flows b a) → a ≡ b
flows-both_ways a b sa ia sb ib h k =
    same-label a b
    (implication_is_antisymmetric a.secrecy b.secrecy sa sb (flows-secrecy b a k) (flows-secrecy a b h))
    (implication_is_antisymmetric a.integrity b.integrity ia ib (flows-integrity a b h) (flows-integrity b a k))

pub flow_is_antisymmetric : FlowIsAntisymmetric
flow_is_antisymmetric a b la lb h k = flows-both_ways a b la.secrecy la.integrity lb.secrecy lb.integrity h k

pub least_flows_to_all : LeastFlowsToAll
least_flows_to_all a = flows-from least a (truth_is_greatest a.secrecy) (falsity_is_least a.integrity)

pub all_flow_to_greatest : AllFlowToGreatest
all_flow_to_greatest a = flows-from a greatest (falsity_is_least a.secrecy) (truth_is_greatest a.integrity)

-- a test that is made of two, where the second is made only after the first
pub after-both : (a b x y : Bool) → a ≡ true → a ≡ x → b ≡ y → b ≡ (x && y)
after-both a b x y t e f = f ∙ ap (λ v. v && y) (sym t ∙ e)

pub after-first : (a x y : Bool) → a ≡ false → a ≡ x → a ≡ (x && y)
after-first a x y t e = t ∙ ap (λ v. v && y) (sym t ∙ e)

-- what computes the test of flow tells flow
pub flows-by : (r : Bool) (a b : Label) → r ≡ flows a b → (IsTrue r → Flows a b) × (Flows a b → IsTrue r)
flows-by r a b e = (λ t. (flow_is_tested a b).0 (sym e ∙ t), λ h. e ∙ (flow_is_tested a b).1 h)
