use Rattle.std.proofs.Common.{int_div}
use Rattle.lio_operators.specs.Outcomes.{given_by}
use Rattle.lio_operators.proofs.WholeLemmas.{divided_is}
use Rattle.lio_operators.proofs.wholes.quotient.Goals as goal

pub returns : goal.returns
returns c = divided_is int_div c.args.a c.args.b _ (given_by c.whole.result) c.whole.ensures (assumption) c.ranges.a c.ranges.b c.if-b-eq0.false
