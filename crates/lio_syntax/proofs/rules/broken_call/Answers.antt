use Rattle.std.proofs.Common.{◌≡◌, ◌∙◌, Some, sym, refl}
use Rattle.std.proofs.lemmas.Bool.{eq-eqb}
use Rattle.lio_syntax.specs.Rules.{parameters_of}
use Rattle.lio_syntax.proofs.rules.broken_call.Goals as goal

pub returns-in-Some-2 : goal.returns-in-Some-2
returns-in-Some-2 c = λ all knows.
    let known : parameters_of all c.in_ok-name.name.now ≡ Some c.in-Some.parameters = sym (knows.same c.in_ok-name.name.now) ∙ sym c.find.ensures ∙ c.in-Some.is in
    let same : c.in-Some.parameters ≡ c.in_ok-name.count = (assumption) in
    rw (c.in_ok-name.ensures, known, eq-eqb _ _ same) refl
