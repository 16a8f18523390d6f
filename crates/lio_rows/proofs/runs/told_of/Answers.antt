use Rattle.std.proofs.Common.{◌∙◌, sym, subst, All}
use Rattle.lio_values.specs.Named.{IsContentNamed}
use Rattle.lio_policy.specs.Policy.{PolicyParts}
use Rattle.lio_rows.proofs.runs.told_of.Goals as goal

pub lines_of-requires : goal.lines_of-requires
lines_of-requires c =
    let names = c.args.job.now.policy.names in
    let named : All (IsContentNamed names) c.in_ok-contents.contents = λ place d within. (c.in_ok-contents.ensures place d within).0 in
    subst (λ (p : PolicyParts). All (IsContentNamed p.names) c.as_slice.result.now) (sym (c.policy.view_is ∙ c.policy-policy.ensures.policy)) (subst (All (IsContentNamed names)) (sym c.as_slice.ensures) named)
