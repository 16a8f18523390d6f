use Rattle.std.proofs.lemmas.Result.{err_from_is_err_and}
use Rattle.lio_policy.proofs.VerdictLemmas.{no_draft, is_judged, gives_ok, gives_fault}
use Rattle.lio_policy.proofs.read.read_policy.Goals as goal

pub returns-clause-ok : goal.returns-clause-ok
returns-clause-ok c = gives_ok c.judge.result c.in_ok-draft.draft c.args.bytes.now (is_judged c.args.bytes.now c.in_ok-draft.draft c.in_ok-draft.ensures.ok) c.judge.ensures

pub returns-clause-fault : goal.returns-clause-fault
returns-clause-fault c = gives_fault c.judge.result c.in_ok-draft.draft c.args.bytes.now (is_judged c.args.bytes.now c.in_ok-draft.draft c.in_ok-draft.ensures.ok) c.judge.ensures

pub returns-in_err-draft-clause-fault : goal.returns-in_err-draft-clause-fault
returns-in_err-draft-clause-fault c =
    let p = err_from_is_err_and c.from_residual.result c.from_residual.ensures.1 in
    rw (p.1, p.2) (no_draft c.args.bytes.now c.in_err-draft.field-0.0 c.in_err-draft.ensures.fault)
