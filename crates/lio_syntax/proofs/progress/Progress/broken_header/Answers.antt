use Rattle.std.proofs.Common.{◌≡◌, ◌∙◌, sym, refl, false}
use Rattle.lio_syntax.proofs.progress.Progress.broken_header.Goals as goal

pub returns-then-repeats_parameter : goal.returns-then-repeats_parameter
returns-then-repeats_parameter c = λ before stands.
    let other : c.is_again.result ≡ false = (assumption) in
    rw (sym (c.is_again.ensures before stands) ∙ other, sym c.if-repeats_parameter.ensures) refl
