use Rattle.std.proofs.Common.{◌-◌, sym, ◌∙◌, arith}
use Rattle.lio_clauses.proofs.Reduced.{not_before-ahead}
use Rattle.lio_clauses.proofs.reduce.place_of.Goals as goal

pub returns-then-not-precedes-clause-before : goal.returns-then-not-precedes-clause-before
returns-then-not-precedes-clause-before c =
    λ k l. not_before-ahead c.args.clause c.args.kept.now (c.loop-i.i - 1) c.requires.ordered (omega arith) (sym c.precedes.ensures ∙ c.if-not-precedes.true) k (omega arith)
