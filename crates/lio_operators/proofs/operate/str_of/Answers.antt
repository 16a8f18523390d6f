use Rattle.std.proofs.Common.{◌≡◌, ◌∙◌, true, sym}
use Rattle.lio_operators.proofs.operate.str_of.Goals as goal

pub returns-in-Flag-true : goal.returns-in-Flag-true
returns-in-Flag-true c =
    let flag : c.in-Flag-true.field-0 ≡ true = sym c.in-Flag-true.field-0-is ∙ c.in-Flag-true.field-0-test in
    rw (c.in-Flag-true.is, flag) c.made-in-Flag-true.ensures
