-- A label as a privilege lowers it is the least label that it flows to with the privilege.
use Rattle.std.proofs.Common.{ℕ, not, inl, inr, List, [], ◌∷◌, ◌++◌, sym, ◌∙◌}
use Rattle.std.proofs.lemmas.Bool.{true≢false, not-true}
use Rattle.lio_clauses.specs.Satisfaction.{sat}
use Rattle.lio_clauses.specs.Implication.{Implies, ImplyTogether, implies}
use Rattle.lio_clauses.specs.Without.{without}
use Rattle.lio_clauses.proofs.Members.{In-append_cases, In-filter_parts}
use Rattle.lio_clauses.proofs.Implied.{Implies-implies, Implies-clause, clause-Implies, Implies-at, Implies-by, together-Implies}
use Rattle.lio_clauses.proofs.Algebra.{conjunction_is_canonical, conjunction_implies_left}
use Rattle.lio_clauses.proofs.WithoutLemmas.{without_is_canonical, without_is_implied, without_is_made_up}
use Rattle.lio_clauses.specs.Canonical.{and}
use Rattle.lio_clauses.proofs.Forms.{sat-and}
use Rattle.std.proofs.lemmas.Bool.{and_from, and_parts}
use Rattle.lio_labels.specs.Privilege.{downgraded}
use Rattle.lio_labels.specs.Laws.{DowngradedFlowsBack, FlowsToDowngraded, DowngradedIsLeast, DowngradedIsLabel}
use Rattle.lio_labels.proofs.FlowLemmas.{flows-from}
use Rattle.lio_labels.proofs.PrivilegeLemmas.{privilege_is_tested}

pub downgraded_flows_back : DowngradedFlowsBack
unfolding downgraded
downgraded_flows_back p a = flows-from (downgraded p a) a (without_is_implied a.secrecy p.power) (conjunction_implies_left a.integrity p.power)

pub flows_to_downgraded : FlowsToDowngraded
unfolding downgraded
flows_to_downgraded p a =
    (privilege_is_tested p a (downgraded p a)).1 (
      without_is_made_up a.secrecy p.power,
      λ who s t. sat-and who a.integrity p.power ∙ and_from (sat who a.integrity) (sat who p.power) t s,
    )

-- what a power and a formula imply together, without what the power implies alone, the formula implies
alone : (P B A : List (List ℕ)) → ImplyTogether P B A → Implies B (without A P)
unfolding without
alone P B A h =
    Implies-by B (without A P) (λ c m.
    let parts = In-filter_parts (λ c. not (implies P (c ∷ []))) c A m in
    let r = Implies-clause (P ++ B) c (Implies-at (P ++ B) A (together-Implies P B A h) c parts.0) in
    elim (In-append_cases r.0 P B r.1.0) [
      | inl i ↦ absurd (true≢false (sym (Implies-implies P (c ∷ []) (clause-Implies P r.0 c i r.1.1)) ∙ not-true (implies P (c ∷ [])) parts.1))
      | inr i ↦ clause-Implies B r.0 c i r.1.1
    ])

pub downgraded_is_least : DowngradedIsLeast
unfolding downgraded
downgraded_is_least p a b h =
    let r = (privilege_is_tested p a b).0 h in
    flows-from (downgraded p a) b
    (Implies-implies b.secrecy (without a.secrecy p.power) (alone p.power b.secrecy a.secrecy r.0))
    (Implies-implies (and a.integrity p.power) b.integrity (λ who s.
    let q = and_parts (sat who a.integrity) (sat who p.power) (sym (sat-and who a.integrity p.power) ∙ s) in
    r.1 who q.1 q.0))

pub downgraded_is_label : DowngradedIsLabel
unfolding downgraded
downgraded_is_label p a c la narrow = record {
  secrecy = without_is_canonical a.secrecy p.power la.secrecy;
  integrity = conjunction_is_canonical a.integrity p.power la.integrity.clauses c.clauses;
  narrow = narrow;
}
