use Rattle.lio_syntax_lines.specs.Literals.{is_name}
use Rattle.lio_syntax_lines.proofs.literals.is_name.Goals as goal

pub returns-then-is_none : goal.returns-then-is_none
unfolding is_name
returns-then-is_none c =
    let faultless = rw c.name_fault.ensures at c.if-is_none.ensures in
    rw faultless (cc)
