use Rattle.std.proofs.lemmas.Result.{err_from_is_err_and}
use Rattle.lio_clauses.specs.Cursor.{left}
use Rattle.lio_clauses.proofs.ReadLemmas.{written-fault, written-left, written-all}
use Rattle.lio_clauses.proofs.text.read.read_clauses.Goals as goal

pub returns-in_err-clauses-clause-fault : goal.returns-in_err-clauses-clause-fault
returns-in_err-clauses-clause-fault c =
    let p = err_from_is_err_and c.from_residual.result c.from_residual.ensures.1 in
    rw (p.1, p.2) (written-fault c.args.names.now c.args.text.now (left c.new.result) c.new.ensures c.in_err-clauses.field-0.0 c.in_err-clauses.ensures.fault)

pub returns-in_err-end-clause-fault : goal.returns-in_err-end-clause-fault
returns-in_err-end-clause-fault c =
    let p = err_from_is_err_and c.from_residual-in_err-end.result c.from_residual-in_err-end.ensures.1 in
    rw (p.1, p.2) (written-left c.args.names.now c.args.text.now (left c.new.result) c.new.ensures c.in_ok-clauses.clauses (left c.in_ok-clauses.rest) c.in_ok-clauses.ensures.ok
    c.in_err-end.field-0.0 c.in_err-end.ensures.fault)

pub returns-clause-ok : goal.returns-clause-ok
returns-clause-ok c =
    written-all c.args.names.now c.args.text.now (left c.new.result) c.new.ensures c.in_ok-clauses.clauses (left c.in_ok-clauses.rest) c.in_ok-clauses.ensures.ok c.in_ok-end.ensures.ok
