use Rattle.std.proofs.Common.{◌≡◌, ◌∙◌, sym, ap, subst}
use Rattle.lio_calculus.specs.Step.{Configuration}
use Rattle.lio_calculus_runs.specs.Configuration.{NamesOnly}
use Rattle.lio_erasure.specs.Low.{IsSeenOfSound, low_configuration_of}
use Rattle.lio_erasure.specs.LowParts.{ErasedState, low_of}
use Rattle.lio_labels.specs.declared.label.Label.{Label}
use Rattle.lio_policy.specs.Policy.{PolicyParts}
use Rattle.lio_observe_main.proofs.CheckLemmas.{same-low}
use Rattle.lio_observe_main.proofs.expected.first_of.Goals as goal

pub new-requires-clause-seen : goal.new-requires-clause-seen
new-requires-clause-seen c =
    let job = c.args.claim.now.job in
    let script = c.in_ok-script.script in
    let longest = c.policy.inside.longest in
    let start = c.in_ok-start.start in
    let same : low_configuration_of script longest start ≡ low_configuration_of job.script job.policy.longest start =
    same-low script job.script longest job.policy.longest start (c.in_ok-script.ensures ∙ c.script.ensures.script) (ap (λ (p : PolicyParts). p.longest) (c.policy.view_is ∙ c.policy-policy.ensures.policy)) in
    subst (λ (o : Label). IsSeenOfSound o (low_configuration_of script longest start)) (sym c.in_ok-observer.ensures.ok)
    (subst (λ (d : Configuration). IsSeenOfSound c.args.claim.now.observer d) (sym same) c.in_ok-start.ensures.seen)

pub returns-clause-named : goal.returns-clause-named
returns-clause-named c =
    let job = c.args.claim.now.job in
    let script = c.in_ok-script.script in
    let longest = c.policy.inside.longest in
    let start = c.in_ok-start.start in
    let same : low_configuration_of script longest start ≡ low_configuration_of job.script job.policy.longest start =
    same-low script job.script longest job.policy.longest start (c.in_ok-script.ensures ∙ c.script.ensures.script) (ap (λ (p : PolicyParts). p.longest) (c.policy.view_is ∙ c.policy-policy.ensures.policy)) in
    let at : (low_of c.new.result).configuration ≡ low_configuration_of job.script job.policy.longest start = ap (λ (s : ErasedState). s.configuration) c.new.ensures ∙ same in
    subst (NamesOnly job.policy.names) (sym at) c.in_ok-start.ensures.named

pub returns-clause-observer : goal.returns-clause-observer
returns-clause-observer c = ap (λ (s : ErasedState). s.observer) c.new.ensures ∙ c.in_ok-observer.ensures.ok

pub returns-clause-first : goal.returns-clause-first
returns-clause-first c = λ texts agrees.
    let job = c.args.claim.now.job in
    let script = c.in_ok-script.script in
    let longest = c.policy.inside.longest in
    let start = c.in_ok-start.start in
    let same : low_configuration_of script longest start ≡ low_configuration_of job.script job.policy.longest start =
    same-low script job.script longest job.policy.longest start (c.in_ok-script.ensures ∙ c.script.ensures.script) (ap (λ (p : PolicyParts). p.longest) (c.policy.view_is ∙ c.policy-policy.ensures.policy)) in
    let at : (low_of c.new.result).configuration ≡ low_configuration_of job.script job.policy.longest start = ap (λ (s : ErasedState). s.configuration) c.new.ensures ∙ same in
    at ∙ c.in_ok-start.ensures.erased texts agrees
