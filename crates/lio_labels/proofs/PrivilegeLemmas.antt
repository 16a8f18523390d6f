-- Flow with a privilege grows with the privilege, and composes with flow.
use Rattle.std.proofs.Common.{◌≡◌, ℕ, Bool, List, ◌++◌, sym, ◌∙◌, refl, IsTrue}
use Rattle.std.proofs.lemmas.Bool.{and_parts, and_from}
use Rattle.lio_clauses.specs.Implication.{ImplyTogether, implies}
use Rattle.lio_clauses.proofs.Implied.{together-Implies, Implies-together}
use Rattle.lio_clauses.proofs.Algebra.{implication_is_tested}
use Rattle.lio_labels.specs.declared.label.Label.{Label}
use Rattle.lio_labels.specs.declared.privilege.Priv.{Priv}
use Rattle.lio_labels.specs.Flow.{flows}
use Rattle.lio_labels.specs.Privilege.{FlowsWith, flows_with}
use Rattle.lio_labels.specs.Laws.{PrivilegeIsTested, PrivilegeGrows, TruePrivilegeIsFlow, FlowIsWithPrivilege, FlowThenPrivilege, PrivilegeThenFlow}
use Rattle.lio_labels.proofs.FlowLemmas.{flow_is_tested}

-- two formulas together imply a third

both-tested : (A B C : List (List ℕ)) → IsTrue (implies (A ++ B) C) → ImplyTogether A B C
both-tested A B C h = Implies-together A B C ((implication_is_tested (A ++ B) C).0 h)

both-test : (A B C : List (List ℕ)) → ImplyTogether A B C → IsTrue (implies (A ++ B) C)
both-test A B C h = (implication_is_tested (A ++ B) C).1 (together-Implies A B C h)

with-sets : (p : Priv) (a b : Label) → IsTrue (flows_with p a b) → FlowsWith p a b
unfolding flows_with
with-sets p a b h =
    let r = and_parts (implies (p.power ++ b.secrecy) a.secrecy) (implies (p.power ++ a.integrity) b.integrity) h in
    (both-tested p.power b.secrecy a.secrecy r.0, both-tested p.power a.integrity b.integrity r.1)

with-test : (p : Priv) (a b : Label) → FlowsWith p a b → IsTrue (flows_with p a b)
unfolding flows_with
with-test p a b h =
    and_from (implies (p.power ++ b.secrecy) a.secrecy) (implies (p.power ++ a.integrity) b.integrity)
    (both-test p.power b.secrecy a.secrecy h.0) (both-test p.power a.integrity b.integrity h.1)

pub privilege_is_tested : PrivilegeIsTested
privilege_is_tested p a b = (with-sets p a b, with-test p a b)

pub privilege_grows : PrivilegeGrows
privilege_grows p q a b more h =
    let r = with-sets p a b h in
    let up = (implication_is_tested q.power p.power).0 more in
    with-test q a b (λ who s t. r.0 who (up who s) t, λ who s t. r.1 who (up who s) t)

pub true_privilege_is_flow : TruePrivilegeIsFlow
unfolding flows_with flows
true_privilege_is_flow a b = refl

pub flow_is_with_privilege : FlowIsWithPrivilege
flow_is_with_privilege p a b h =
    let r = (flow_is_tested a b).0 h in
    with-test p a b (λ who s t. r.0 who t, λ who s t. r.1 who t)

pub flow_then_privilege : FlowThenPrivilege
flow_then_privilege p a b c h k =
    let r = (flow_is_tested a b).0 h in
    let q = with-sets p b c k in
    with-test p a c (λ who s t. r.0 who (q.0 who s t), λ who s t. q.1 who s (r.1 who t))

pub privilege_then_flow : PrivilegeThenFlow
privilege_then_flow p a b c h k =
    let r = with-sets p a b h in
    let q = (flow_is_tested b c).0 k in
    with-test p a c (λ who s t. r.0 who s (q.0 who t), λ who s t. q.1 who (r.1 who s t))

-- what computes the test of flow with a privilege tells flow with a privilege
pub flows_with-by : (r : Bool) (p : Priv) (a b : Label) → r ≡ flows_with p a b → (IsTrue r → FlowsWith p a b) × (FlowsWith p a b → IsTrue r)
flows_with-by r p a b e = (λ t. with-sets p a b (sym e ∙ t), λ h. e ∙ with-test p a b h)
