use Rattle.std.proofs.lemmas.Result.{err_from_is_err_and}
use Rattle.lio_policy.proofs.VerdictLemmas.{arguments_decide, limits_decide, files_decide, uses_pass}
use Rattle.lio_policy.proofs.read.read_uses.Goals as goal

pub returns-in_err-tasks : goal.returns-in_err-tasks
returns-in_err-tasks c =
    let p = err_from_is_err_and c.from_residual.result c.from_residual.ensures.1 in
    rw (p.1, p.2) (arguments_decide c.args.draft.now c.in_err-tasks.field-0.0 c.in_err-tasks.ensures)

pub returns-in_err-longest : goal.returns-in_err-longest
returns-in_err-longest c =
    let p = err_from_is_err_and c.from_residual-in_err-longest.result c.from_residual-in_err-longest.ensures.1 in
    rw (p.1, p.2) (limits_decide c.args.draft.now c.in_err-longest.field-0.0 c.in_ok-tasks.ensures.0 c.in_err-longest.ensures)

pub returns-in_err-check_files : goal.returns-in_err-check_files
returns-in_err-check_files c =
    let p = err_from_is_err_and c.from_residual-in_err-check_files.result c.from_residual-in_err-check_files.ensures.1 in
    rw (p.1, p.2) (files_decide c.args.draft.now c.in_err-check_files.field-0.0 c.in_ok-tasks.ensures.0 c.in_ok-longest.ensures.0 c.in_err-check_files.ensures)

pub returns : goal.returns
returns c = (uses_pass c.args.draft.now c.in_ok-tasks.ensures.0 c.in_ok-longest.ensures.0 c.in_ok-check_files.ensures.0, (c.in_ok-tasks.ensures.1, c.in_ok-longest.ensures.1))
