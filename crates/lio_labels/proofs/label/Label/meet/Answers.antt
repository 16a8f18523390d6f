use Rattle.std.proofs.Common.{inl, inr}
use Rattle.std.proofs.lemmas.Result.{err_from_is_err_and}
use Rattle.lio_labels.specs.Bounds.{meet}
use Rattle.lio_labels.specs.IsLabel.{IsWide}
use Rattle.lio_labels.proofs.FlowLemmas.{same-label}
use Rattle.lio_labels.proofs.WidthLemmas.{wide-part, wide-neither}
use Rattle.lio_labels.proofs.label.Label.meet.Goals as goal

pub returns-in_err-secrecy-clause-wide : goal.returns-in_err-secrecy-clause-wide
unfolding meet
returns-in_err-secrecy-clause-wide c =
    let p = err_from_is_err_and c.from_residual.result c.from_residual.ensures.1 in
    rw (p.1, p.2) (wide-part _ _ (IsWide (meet c.args.self.now c.args.other.now)) inl c.in_err-secrecy.ensures.wide)

pub returns-in_err-integrity-clause-wide : goal.returns-in_err-integrity-clause-wide
unfolding meet
returns-in_err-integrity-clause-wide c =
    let p = err_from_is_err_and c.from_residual-in_err-integrity.result c.from_residual-in_err-integrity.ensures.1 in
    rw (p.1, p.2) (wide-part _ _ (IsWide (meet c.args.self.now c.args.other.now)) inr c.in_err-integrity.ensures.wide)

pub returns-clause-ok : goal.returns-clause-ok
unfolding meet
returns-clause-ok c = same-label _ (meet c.args.self.now c.args.other.now) c.in_ok-secrecy.ensures.ok c.in_ok-integrity.ensures.ok

pub returns-clause-wide : goal.returns-clause-wide
unfolding meet
returns-clause-wide c = wide-neither _ _ _ (meet c.args.self.now c.args.other.now) c.in_ok-secrecy.ensures.wide c.in_ok-integrity.ensures.wide
