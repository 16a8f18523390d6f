use Rattle.std.proofs.Common.{◌≡◌, ◌∙◌, sym, ap, subst, ℕ, List}
use Rattle.lio_calculus.specs.Step.{Configuration}
use Rattle.lio_erasure.specs.Low.{IsSeenOfSound, low_configuration_of}
use Rattle.lio_policy.specs.Policy.{PolicyParts}
use Rattle.lio_audit.specs.View.{IsOneViewOfTurns, SeenSays}
use Rattle.lio_audit.specs.declared.view_fault.ViewFault.TheVariants.{NotAView}
use Rattle.lio_observe_main.specs.Claim.{Claim, claim_of}
use Rattle.lio_observe_main.proofs.CheckLemmas.{same-low, right-from, wrong-from}
use Rattle.lio_observe_main.proofs.checking.check_claim.Goals as goal

pub check_view-requires-clause-seen : goal.check_view-requires-clause-seen
check_view-requires-clause-seen c =
    let job = c.args.claim.now.job in
    let script = c.script-script.result.now in
    let longest = c.policy.inside.longest in
    let start = c.in_ok-start.start in
    let same : low_configuration_of script longest start ≡ low_configuration_of job.script job.policy.longest start =
    same-low script job.script longest job.policy.longest start c.script-script.ensures.script (ap (λ (p : PolicyParts). p.longest) (c.policy.view_is ∙ c.policy-policy.ensures.policy)) in
    subst (λ (d : Configuration). IsSeenOfSound c.args.claim.now.observer d) (sym same) c.in_ok-start.ensures.seen

pub returns-in-Ok-clause-ok : goal.returns-in-Ok-clause-ok
returns-in-Ok-clause-ok c =
    let claim : Claim = claim_of c.args.claim.now in
    let job = claim.job in
    let script = c.script-script.result.now in
    let longest = c.policy.inside.longest in
    let start = c.in_ok-start.start in
    let same : low_configuration_of script longest start ≡ low_configuration_of job.script job.policy.longest start =
    same-low script job.script longest job.policy.longest start c.script-script.ensures.script (ap (λ (p : PolicyParts). p.longest) (c.policy.view_is ∙ c.policy-policy.ensures.policy)) in
    let names_are : c.policy.inside.names ≡ job.policy.names = ap (λ (p : PolicyParts). p.names) (c.policy.view_is ∙ c.policy-policy.ensures.policy) in
    let low = low_configuration_of script longest start in
    let view : List ℕ = c.as_slice-view.result.now in
    let there : IsOneViewOfTurns job.policy.names claim.observer low claim.view c.in-Ok.lines =
    subst (λ (v : List ℕ). IsOneViewOfTurns job.policy.names claim.observer low v c.in-Ok.lines) c.as_slice-view.ensures.value
    (subst (λ (n : List (List ℕ)). IsOneViewOfTurns n claim.observer low view c.in-Ok.lines) names_are c.in-Ok.ensures.ok) in
    right-from claim low c.in-Ok.lines (λ texts agrees. same ∙ c.in_ok-start.ensures.erased texts agrees) there

pub returns-in-Err-NotAView-clause-err : goal.returns-in-Err-NotAView-clause-err
returns-in-Err-NotAView-clause-err c =
    let claim : Claim = claim_of c.args.claim.now in
    let job = claim.job in
    let script = c.script-script.result.now in
    let longest = c.policy.inside.longest in
    let start = c.in_ok-start.start in
    let line : ℕ = c.in-Err-NotAView.line in
    let same : low_configuration_of script longest start ≡ low_configuration_of job.script job.policy.longest start =
    same-low script job.script longest job.policy.longest start c.script-script.ensures.script (ap (λ (p : PolicyParts). p.longest) (c.policy.view_is ∙ c.policy-policy.ensures.policy)) in
    let names_are : c.policy.inside.names ≡ job.policy.names = ap (λ (p : PolicyParts). p.names) (c.policy.view_is ∙ c.policy-policy.ensures.policy) in
    let low = low_configuration_of script longest start in
    let view : List ℕ = c.as_slice-view.result.now in
    let said : SeenSays c.policy.inside.names claim.observer low view (NotAView line) = rw c.in-Err-NotAView.field-0-is at c.in-Err-NotAView.ensures.err in
    let there : SeenSays job.policy.names claim.observer low claim.view (NotAView line) =
    subst (λ (v : List ℕ). SeenSays job.policy.names claim.observer low v (NotAView line)) c.as_slice-view.ensures.value
    (subst (λ (n : List (List ℕ)). SeenSays n claim.observer low view (NotAView line)) names_are said) in
    wrong-from claim low line (λ texts agrees. same ∙ c.in_ok-start.ensures.erased texts agrees) there
