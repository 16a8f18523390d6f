use Rattle.std.specs.Prelude.{bytes_eq}
use Rattle.std.proofs.Common.{◌∙◌, sym, ap, arith, lt-ltb}
use Rattle.lio_values.proofs.NameLemmas.{is_same}
use Rattle.lio_values.proofs.name.Name.is.Goals as goal

pub returns-then-self-lt-LONG : goal.returns-then-self-lt-LONG
returns-then-self-lt-LONG c =
    lt-ltb _ _ c.if-self-lt-LONG.true
    ∙ sym (ap (λ n. bytes_eq n c.args.other.now) (sym c.self.view_is) ∙ ap (bytes_eq c.self.inside.text) (sym c.other.view_is)
    ∙ is_same c.self.inside.text c.other.inside.text c.self.invariant.0 c.other.invariant.0 (sym c.self.invariant.1 ∙ c.if-self-other.true ∙ c.other.invariant.1) (omega (arith, c.self.invariant.1, c.if-self-lt-LONG.true)))
