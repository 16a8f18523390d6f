use Rattle.std.proofs.Common.{◌∙◌, sym, ap, subst}
use Rattle.std.proofs.lemmas.Option.{IfSome_then}
use Rattle.std.proofs.lemmas.Result.{IfOk-weaker}
use Rattle.lio_policy.specs.Policy.{PolicyParts}
use Rattle.lio_calculus_runs.specs.Configuration.{NamesOnly}
use Rattle.lio_erasure.specs.LowParts.{low_of}
use Rattle.lio_observe_main.specs.Claim.{claim_of}
use Rattle.lio_observe_main.proofs.ExpectedLemmas.{could-stand}
use Rattle.lio_observe_main.proofs.expected.expected_line.Goals as goal

pub line_behind-text-requires : goal.line_behind-text-requires
line_behind-text-requires c =
    subst (λ (p : PolicyParts). NamesOnly p.names (low_of c.in_ok-low.low).configuration) (sym (c.policy.view_is ∙ c.policy-policy.ensures.policy)) c.in_ok-low.ensures.named

pub returns : goal.returns
returns c =
    let names_are = ap (λ (p : PolicyParts). p.names) (c.policy.view_is ∙ c.policy-policy.ensures.policy) in
    IfOk-weaker c.line_behind-text.result _ _
    (λ text some. IfSome_then text some
    (λ t could texts agrees. could-stand (claim_of c.args.claim.now) texts c.args.line t.items c.policy.inside.names (low_of c.in_ok-low.low).observer (low_of c.in_ok-low.low).configuration names_are c.in_ok-low.ensures.observer
    (c.in_ok-low.ensures.first texts agrees) could))
    c.line_behind-text.ensures
