use Rattle.std.proofs.Common.{ℕ, List, inr, sym, subst}
use Rattle.std.proofs.lemmas.Result.{err_from_is_err_and}
use Rattle.lio_clauses.specs.Width as formula
use Rattle.lio_labels.specs.Privilege.{downgraded}
use Rattle.lio_labels.specs.IsLabel.{IsWide}
use Rattle.lio_labels.proofs.FlowLemmas.{same-label}
use Rattle.lio_labels.proofs.WidthLemmas.{wide-part, wide-integrity}
use Rattle.lio_labels.proofs.label.Label.downgraded.Goals as goal

abbrev IsWidePart : List (List ℕ) → Type 0
IsWidePart A = formula.IsWide A

pub returns-in_err-integrity-clause-wide : goal.returns-in_err-integrity-clause-wide
unfolding downgraded
returns-in_err-integrity-clause-wide c =
    let p = err_from_is_err_and c.from_residual-in_err-integrity.result c.from_residual-in_err-integrity.ensures.1 in
    rw (p.1, p.2) (wide-part _ _ (IsWide (downgraded c.args.p.now c.args.self.now)) inr c.in_err-integrity.ensures.wide)

pub returns-clause-ok : goal.returns-clause-ok
unfolding downgraded
returns-clause-ok c = same-label _ (downgraded c.args.p.now c.args.self.now) c.in_ok-secrecy.ensures.ok c.in_ok-integrity.ensures.ok

pub returns-clause-wide : goal.returns-clause-wide
unfolding downgraded
returns-clause-wide c =
    wide-integrity _ _ (downgraded c.args.p.now c.args.self.now) (λ w. c.in_ok-secrecy.ensures.narrow (subst IsWidePart (sym c.in_ok-secrecy.ensures.ok) w)) c.in_ok-integrity.ensures.wide
