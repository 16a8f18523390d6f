use Rattle.std.proofs.Common.{◌∙◌, sym, subst, All}
use Rattle.lio_calculus_runs.specs.NameLaws.{IsContentPrintable}
use Rattle.lio_policy.specs.Policy.{PolicyParts}
use Rattle.lio_calculus_runs.specs.Configuration.{NamesOnly}
use Rattle.lio_erasure.specs.LowParts.{low_of}
use Rattle.lio_rows.proofs.low.asked_with.Goals as goal

pub turns-requires-clause-named : goal.turns-requires-clause-named
turns-requires-clause-named c =
    subst (λ (p : PolicyParts). NamesOnly p.names (low_of c.in_ok-low.low).configuration) (sym (c.policy.view_is ∙ c.policy-policy.ensures.policy)) c.in_ok-low.ensures

pub turns-requires-clause-contents : goal.turns-requires-clause-contents
turns-requires-clause-contents c =
    subst (λ (p : PolicyParts). All (IsContentPrintable p.names) c.args.contents.now) (sym (c.policy.view_is ∙ c.policy-policy.ensures.policy)) c.requires

pub cells-requires : goal.cells-requires
cells-requires c = λ place d within. (c.requires place d within).1
