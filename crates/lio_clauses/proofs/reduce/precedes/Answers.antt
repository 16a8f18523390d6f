use Rattle.lio_clauses.proofs.ClauseBits.{is_before-xor}
use Rattle.lio_clauses.proofs.reduce.precedes.Goals as goal

pub overflow_shr-result : goal.overflow_shr-result
overflow_shr-result c =
    (is_before-xor c.args.a c.args.b c.ranges.a.fits c.ranges.b.fits c.if-differing-ne0.true c.requires.a_apart c.requires.b_apart).0

pub returns-then-differing-ne0 : goal.returns-then-differing-ne0
returns-then-differing-ne0 c =
    (is_before-xor c.args.a c.args.b c.ranges.a.fits c.ranges.b.fits c.if-differing-ne0.true c.requires.a_apart c.requires.b_apart).1
