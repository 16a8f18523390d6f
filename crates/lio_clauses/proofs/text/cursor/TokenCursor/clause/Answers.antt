use Rattle.std.proofs.Common.{◌∙◌, sym, ap}
use Rattle.std.specs.Option.{option_map}
use Rattle.std.proofs.lemmas.Result.{err_from_is_err_and}
use Rattle.lio_clauses.specs.Cursor.{left}
use Rattle.lio_clauses.proofs.ReadLemmas.{clause-one, clause-one_fault, clause-fault_names, clause-fault_close, clause-several}
use Rattle.lio_clauses.proofs.text.cursor.TokenCursor.clause.Goals as goal

pub returns-in_err-number : goal.returns-in_err-number
returns-in_err-number c =
    let p = err_from_is_err_and c.from_residual.result c.from_residual.ensures.1 in
    rw (p.1, p.2) (clause-one_fault (left c.args.self.now) c.in_err-number.field-0.0 (sym c.after.ensures ∙ ap (option_map left) c.in_default.is) c.in_err-number.ensures.name)

pub returns-in_default : goal.returns-in_default
returns-in_default c =
    clause-one c.in_ok-number.number (left c.args.self.now) (left c.in_ok-number.rest) (sym c.after.ensures ∙ ap (option_map left) c.in_default.is) c.in_ok-number.ensures.name c.in_ok-number.ensures.small

pub returns-in_err-clause : goal.returns-in_err-clause
returns-in_err-clause c =
    let p = err_from_is_err_and c.from_residual-in_err-clause.result c.from_residual-in_err-clause.ensures.1 in
    rw (p.1, p.2) (clause-fault_names (left c.args.self.now) (left c.in-Some.inside) (sym c.in-Some.ensures) c.in_err-clause.field-0.0 c.in_err-clause.ensures)

pub returns-in_err-expect : goal.returns-in_err-expect
returns-in_err-expect c =
    let p = err_from_is_err_and c.from_residual-in_err-expect.result c.from_residual-in_err-expect.ensures.1 in
    rw (p.1, p.2) (clause-fault_close (left c.args.self.now) (left c.in-Some.inside) (sym c.in-Some.ensures) c.in_ok-clause.clause (left c.in_ok-clause.rest) c.in_ok-clause.ensures
    c.in_err-expect.field-0.0 c.in_err-expect.ensures.fault)

pub returns : goal.returns
returns c =
    clause-several (left c.args.self.now) (left c.in-Some.inside) (sym c.in-Some.ensures) c.in_ok-clause.clause (left c.in_ok-clause.rest) c.in_ok-clause.ensures
    (left c.in_ok-expect.field-0) c.in_ok-expect.ensures.ok
