use Rattle.std.proofs.Common.{inr}
use Rattle.std.proofs.lemmas.Result.{err_from_is_err_and}
use Rattle.lio_clauses.proofs.ReadLemmas.{reading-fault, reading-masks, written-Ok}
use Rattle.lio_clauses.proofs.formula.Formula.read.Goals as goal

pub returns-in_err-read_clauses-clause-fault : goal.returns-in_err-read_clauses-clause-fault
returns-in_err-read_clauses-clause-fault c =
    let p = err_from_is_err_and c.from_residual.result c.from_residual.ensures.1 in
    rw (p.1, p.2) (inr (reading-fault c.args.names.now c.args.text.now c.in_err-read_clauses.field-0.0 c.in_err-read_clauses.ensures.fault))

pub returns : goal.returns
returns c =
    let r = reading-masks c.args.names.now c.args.text.now c.in_ok-read_clauses.field-0 c.in_ok-read_clauses.ensures.ok c.canonical.result c.canonical.ensures.ok c.canonical.ensures.fault in
    record { ok = r.0; named = r.1; fault = r.2; grammar = written-Ok c.args.names.now c.args.text.now c.in_ok-read_clauses.field-0 c.in_ok-read_clauses.ensures.ok _ }
