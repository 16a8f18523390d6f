use Rattle.std.proofs.Common.{◌∙◌, sym, ap}
use Rattle.std.specs.Option.{option_map}
use Rattle.lio_clauses.specs.Cursor.{left}
use Rattle.lio_clauses.proofs.ReadLemmas.{formula-truth, formula-falsity, formula-conjunction}
use Rattle.lio_clauses.proofs.text.cursor.TokenCursor.formula.Goals as goal

pub returns-in-Some-clause-ok : goal.returns-in-Some-clause-ok
returns-in-Some-clause-ok c = formula-truth (left c.args.self.now) c.new.result (left c.in-Some.rest) (sym c.in-Some.ensures) c.new.ensures

pub returns-in-Some-after-clause-ok : goal.returns-in-Some-after-clause-ok
returns-in-Some-after-clause-ok c =
    formula-falsity (left c.args.self.now) (sym c.after.ensures ∙ ap (option_map left) c.in_default.is) c.new-clauses.result c.push.new.self (left c.in-Some-after.rest)
    (sym c.in-Some-after.ensures) c.new-clauses.ensures (record { complete = c.push.ensures.complete; masks = c.push.ensures.masks })

pub returns-clause-ok : goal.returns-clause-ok
returns-clause-ok c =
    rw (formula-conjunction (left c.args.self.now) (sym c.after.ensures ∙ ap (option_map left) c.in_default.is) (sym c.after-2.ensures ∙ ap (option_map left) c.in_default-after.is))
    c.conjunction.ensures.ok

pub returns-clause-fault : goal.returns-clause-fault
returns-clause-fault c =
    rw (formula-conjunction (left c.args.self.now) (sym c.after.ensures ∙ ap (option_map left) c.in_default.is) (sym c.after-2.ensures ∙ ap (option_map left) c.in_default-after.is))
    c.conjunction.ensures.fault
