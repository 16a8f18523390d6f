use Rattle.std.proofs.lemmas.Result.{err_from_is_err_and}
use Rattle.lio_clauses.specs.Cursor.{left}
use Rattle.lio_clauses.proofs.ReadLemmas.{two-fault_first, two-fault_over, two-fault_second, two-left, two-all}
use Rattle.lio_clauses.proofs.text.read.read_two_clauses.Goals as goal

pub returns-in_err-first-clause-fault : goal.returns-in_err-first-clause-fault
returns-in_err-first-clause-fault c =
    let p = err_from_is_err_and c.from_residual.result c.from_residual.ensures.1 in
    rw (p.1, p.2) (two-fault_first c.args.names.now c.args.text.now (left c.new.result) c.new.ensures c.in_err-first.field-0.0 c.in_err-first.ensures.fault)

pub returns-in_err-expect-clause-fault : goal.returns-in_err-expect-clause-fault
returns-in_err-expect-clause-fault c =
    let p = err_from_is_err_and c.from_residual-in_err-expect.result c.from_residual-in_err-expect.ensures.1 in
    rw (p.1, p.2) (two-fault_over c.args.names.now c.args.text.now (left c.new.result) c.new.ensures c.in_ok-first.first (left c.in_ok-first.rest) c.in_ok-first.ensures.ok
    c.in_err-expect.field-0.0 c.in_err-expect.ensures.fault)

pub returns-in_err-second-clause-fault : goal.returns-in_err-second-clause-fault
returns-in_err-second-clause-fault c =
    let p = err_from_is_err_and c.from_residual-in_err-second.result c.from_residual-in_err-second.ensures.1 in
    rw (p.1, p.2) (two-fault_second c.args.names.now c.args.text.now (left c.new.result) c.new.ensures c.in_ok-first.first (left c.in_ok-first.rest) c.in_ok-first.ensures.ok
    (left c.in_ok-expect.field-0) c.in_ok-expect.ensures.ok c.in_err-second.field-0.0 c.in_err-second.ensures.fault)

pub returns-in_err-end-clause-fault : goal.returns-in_err-end-clause-fault
returns-in_err-end-clause-fault c =
    let p = err_from_is_err_and c.from_residual-in_err-end.result c.from_residual-in_err-end.ensures.1 in
    rw (p.1, p.2) (two-left c.args.names.now c.args.text.now (left c.new.result) c.new.ensures c.in_ok-first.first (left c.in_ok-first.rest) c.in_ok-first.ensures.ok
    (left c.in_ok-expect.field-0) c.in_ok-expect.ensures.ok c.in_ok-second.second (left c.in_ok-second.rest) c.in_ok-second.ensures.ok c.in_err-end.field-0.0 c.in_err-end.ensures.fault)

pub returns-clause-ok : goal.returns-clause-ok
returns-clause-ok c =
    two-all c.args.names.now c.args.text.now (left c.new.result) c.new.ensures c.in_ok-first.first (left c.in_ok-first.rest) c.in_ok-first.ensures.ok
    (left c.in_ok-expect.field-0) c.in_ok-expect.ensures.ok c.in_ok-second.second (left c.in_ok-second.rest) c.in_ok-second.ensures.ok c.in_ok-end.ensures.ok
