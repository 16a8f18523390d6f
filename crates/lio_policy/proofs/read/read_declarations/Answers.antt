use Rattle.std.proofs.lemmas.Result.{err_from_is_err_and}
use Rattle.lio_policy.proofs.VerdictLemmas.{version_decides, names_decide, labels_decide, flow_decides, declarations_pass}
use Rattle.lio_policy.proofs.read.read_declarations.Goals as goal

pub returns-in_err-version : goal.returns-in_err-version
returns-in_err-version c =
    let p = err_from_is_err_and c.from_residual.result c.from_residual.ensures.1 in
    rw (p.1, p.2) (version_decides c.args.draft.now c.in_err-version.field-0.0 c.in_err-version.ensures)

pub returns-in_err-named : goal.returns-in_err-named
returns-in_err-named c =
    let p = err_from_is_err_and c.from_residual-in_err-named.result c.from_residual-in_err-named.ensures.1 in
    rw (p.1, p.2) (names_decide c.args.draft.now c.in_err-named.field-0.0 c.in_ok-version.ensures.0 c.in_err-named.ensures)

pub returns-in_err-labelled : goal.returns-in_err-labelled
returns-in_err-labelled c =
    let p = err_from_is_err_and c.from_residual-in_err-labelled.result c.from_residual-in_err-labelled.ensures.1 in
    rw (p.1, p.2) (labels_decide c.args.draft.now c.in_err-labelled.field-0.0 c.in_ok-version.ensures.0 c.in_ok-named.ensures.0 c.in_err-labelled.ensures)

pub returns-in_err-check_flow : goal.returns-in_err-check_flow
returns-in_err-check_flow c =
    let p = err_from_is_err_and c.from_residual-in_err-check_flow.result c.from_residual-in_err-check_flow.ensures.1 in
    rw (p.1, p.2) (flow_decides c.args.draft.now c.in_err-check_flow.field-0.0 c.in_ok-version.ensures.0 c.in_ok-named.ensures.0 c.in_ok-labelled.ensures.0 c.in_err-check_flow.ensures)

pub returns : goal.returns
returns c = (
  declarations_pass c.args.draft.now c.in_ok-version.ensures.0 c.in_ok-named.ensures.0 c.in_ok-labelled.ensures.0 c.in_ok-check_flow.ensures.0,
  (c.in_ok-version.ensures.1, c.in_ok-named.ensures.1.0, c.in_ok-named.ensures.1.1, c.in_ok-named.ensures.1.2, c.in_ok-labelled.ensures.1.0, c.in_ok-labelled.ensures.1.1, c.in_ok-labelled.ensures.1.2),
)
