use Rattle.std.proofs.Common.{◌∙◌, sym, ap}
use Rattle.std.specs.Option.{option_map}
use Rattle.std.proofs.lemmas.Result.{err_from_is_err_and}
use Rattle.lio_clauses.specs.Cursor.{left}
use Rattle.lio_clauses.proofs.ReadLemmas.{names-next, names-last, names-fault_next}
use Rattle.lio_clauses.proofs.text.cursor.TokenCursor.names.Goals as goal

pub returns-in_err-number-2 : goal.returns-in_err-number-2
returns-in_err-number-2 c =
    let p = err_from_is_err_and c.from_residual-in_err-number-2.result c.from_residual-in_err-number-2.ensures.1 in
    rw (p.1, p.2) (names-fault_next c.names.clause (left c.names.cursor) (left c.in-Some.more) c.in_err-number-2.field-0.0 (sym c.in-Some.ensures) c.in_err-number-2.ensures.name ∙ c.names.invariant)

pub names-preserved : goal.names-preserved
names-preserved c =
    names-next c.names.clause c.in_ok-number-2.number (left c.names.cursor) (left c.in-Some.more) (left c.in_ok-number-2.rest) (sym c.in-Some.ensures) c.in_ok-number-2.ensures.name c.in_ok-number-2.ensures.small
    ∙ c.names.invariant

pub returns : goal.returns
returns c = names-last c.names.clause (left c.names.cursor) (sym c.after.ensures ∙ ap (option_map left) c.in_default.is) ∙ c.names.invariant
