use Rattle.std.proofs.Common.{◌∙◌, Ok, ap}
use Rattle.std.proofs.lemmas.Result.{err_from_is_err_and}
use Rattle.lio_policy.proofs.VerdictLemmas.{judged_by_declarations, judged_by_uses, judged_ok, parts_are, made_is, passes_all}
use Rattle.lio_policy.proofs.read.judge.Goals as goal

pub returns-in_err-version : goal.returns-in_err-version
returns-in_err-version c =
    let p = err_from_is_err_and c.from_residual.result c.from_residual.ensures.1 in
    rw (p.1, p.2) (judged_by_declarations c.args.draft.now c.in_err-version.field-0.0 c.in_err-version.ensures)

pub returns-in_err-uses : goal.returns-in_err-uses
returns-in_err-uses c =
    let p = err_from_is_err_and c.from_residual-in_err-uses.result c.from_residual-in_err-uses.ensures.1 in
    rw (p.1, p.2) (judged_by_uses c.args.draft.now c.in_err-uses.field-0.0 c.in_ok-version.ensures.0 c.in_err-uses.ensures)

pub invariant_of-result : goal.invariant_of-result
invariant_of-result c =
    let d = c.args.draft.now in
    let n = c.in_ok-version in
    let parts = parts_are d n.field-0.version c.in_ok-uses.uses.longest n.field-0.named.names c.into_channels.result n.field-0.labelled.inputs c.in_ok-uses.uses.tasks
    n.ensures.1.0 c.in_ok-uses.ensures.1.1 n.ensures.1.1 (c.into_channels.ensures ∙ n.ensures.1.4) n.ensures.1.5 c.in_ok-uses.ensures.1.0 in
    passes_all d _ parts n.ensures.0 c.in_ok-uses.ensures.0

pub returns : goal.returns
returns c =
    let d = c.args.draft.now in
    let n = c.in_ok-version in
    let parts = parts_are d n.field-0.version c.in_ok-uses.uses.longest n.field-0.named.names c.into_channels.result n.field-0.labelled.inputs c.in_ok-uses.uses.tasks
    n.ensures.1.0 c.in_ok-uses.ensures.1.1 n.ensures.1.1 (c.into_channels.ensures ∙ n.ensures.1.4) n.ensures.1.5 c.in_ok-uses.ensures.1.0 in
    judged_ok d n.ensures.0 c.in_ok-uses.ensures.0 ∙ ap (λ p. Ok p) (made_is d _ parts)
