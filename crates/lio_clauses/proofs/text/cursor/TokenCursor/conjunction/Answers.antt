use Rattle.std.proofs.Common.{◌∙◌, sym, ap}
use Rattle.std.specs.Option.{option_map}
use Rattle.std.proofs.lemmas.Result.{err_from_is_err_and}
use Rattle.lio_clauses.specs.declared.text.token.Token.TheVariants.{And}
use Rattle.lio_clauses.specs.FormulaText.{listed, clause_at}
use Rattle.lio_clauses.specs.Cursor.{left}
use Rattle.lio_clauses.proofs.ReadLemmas.{ReadsOn-first, ReadsOn-next, ReadsOn-last, ReadsOn-fault, clause-fewer}
use Rattle.lio_clauses.proofs.text.cursor.TokenCursor.conjunction.Goals as goal

pub clauses-init : goal.clauses-init
clauses-init c =
    ReadsOn-first c.new-clauses.result c.push.new.self c.in_ok-clause.clause (left c.args.self.now) (left c.in_ok-clause.cursor) c.in_ok-clause.ensures c.new-clauses.ensures
    (record { complete = c.push.ensures.complete; masks = c.push.ensures.masks })

pub returns-in_err-clause-2-clause-fault : goal.returns-in_err-clause-2-clause-fault
returns-in_err-clause-2-clause-fault c =
    let p = err_from_is_err_and c.from_residual-in_err-clause-2.result c.from_residual-in_err-clause-2.ensures.1 in
    rw (p.1, p.2) (ReadsOn-fault (listed And clause_at (left c.args.self.now)) c.clauses.clauses (left c.clauses.cursor) (left c.in-Some.more) c.in_err-clause-2.field-0.0
    c.clauses.invariant (sym c.in-Some.ensures) c.in_err-clause-2.ensures)

pub clauses-smaller : goal.clauses-smaller
clauses-smaller c =
    clause-fewer c.in_ok-clause-2.clause (left c.clauses.cursor) (left c.in-Some.more) (left c.in_ok-clause-2.rest) (sym c.in-Some.ensures) c.in_ok-clause-2.ensures

pub clauses-preserved : goal.clauses-preserved
clauses-preserved c =
    ReadsOn-next (listed And clause_at (left c.args.self.now)) c.clauses.clauses c.push-in-Some.new.self c.in_ok-clause-2.clause (left c.clauses.cursor) (left c.in-Some.more) (left c.in_ok-clause-2.rest)
    c.clauses.invariant (sym c.in-Some.ensures) c.in_ok-clause-2.ensures (record { complete = c.push-in-Some.ensures.complete; masks = c.push-in-Some.ensures.masks })

pub returns-clause-ok : goal.returns-clause-ok
returns-clause-ok c =
    ReadsOn-last (listed And clause_at (left c.args.self.now)) c.clauses.clauses (left c.clauses.cursor) c.clauses.invariant (sym c.after.ensures ∙ ap (option_map left) c.in_default.is)
