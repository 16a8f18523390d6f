use Rattle.std.proofs.Common.{inr}
use Rattle.std.proofs.lemmas.Result.{err_from_is_err_and}
use Rattle.lio_clauses.proofs.KnownLemmas.{reading_two-named}
use Rattle.lio_clauses.proofs.ReadLemmas.{reading_two-fault, two-first_fault, two-second_fault, two-Ok}
use Rattle.lio_clauses.proofs.formula.Formula.read_two.Goals as goal

pub returns-in_err-first-clause-fault : goal.returns-in_err-first-clause-fault
returns-in_err-first-clause-fault c =
    let p = err_from_is_err_and c.from_residual.result c.from_residual.ensures.1 in
    rw (p.1, p.2) (inr (reading_two-fault c.args.names.now c.args.text.now c.in_err-first.field-0.0 c.in_err-first.ensures.fault))

pub returns-in_err-canonical-clause-fault : goal.returns-in_err-canonical-clause-fault
returns-in_err-canonical-clause-fault c =
    let p = err_from_is_err_and c.from_residual-in_err-canonical.result c.from_residual-in_err-canonical.ensures.1 in
    rw (p.1, p.2) (two-first_fault c.args.names.now c.args.text.now c.in_ok-first.first c.in_ok-first.second c.in_ok-first.ensures.ok c.in_err-canonical.field-0.0 c.in_err-canonical.ensures.fault)

pub returns-in_err-canonical-2-clause-fault : goal.returns-in_err-canonical-2-clause-fault
returns-in_err-canonical-2-clause-fault c =
    let p = err_from_is_err_and c.from_residual-in_err-canonical-2.result c.from_residual-in_err-canonical-2.ensures.1 in
    rw (p.1, p.2) (two-second_fault c.args.names.now c.args.text.now c.in_ok-first.first c.in_ok-first.second c.in_ok-first.ensures.ok c.in_ok-canonical.field-0 c.in_ok-canonical.ensures.ok
    c.in_err-canonical-2.field-0.0 c.in_err-canonical-2.ensures.fault)

pub returns-clause-ok : goal.returns-clause-ok
returns-clause-ok c =
    two-Ok c.args.names.now c.args.text.now c.in_ok-first.first c.in_ok-first.second c.in_ok-first.ensures.ok c.in_ok-canonical.field-0 c.in_ok-canonical.ensures.ok
    c.in_ok-canonical-2.field-0 c.in_ok-canonical-2.ensures.ok

pub returns-clause-named : goal.returns-clause-named
returns-clause-named c = reading_two-named c.args.names.now c.args.text.now (c.in_ok-canonical.field-0, c.in_ok-canonical-2.field-0) (returns-clause-ok c)
