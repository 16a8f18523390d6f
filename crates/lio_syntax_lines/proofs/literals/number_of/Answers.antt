use Rattle.std.proofs.Common.{arith, ◌∙◌, sym, ◌≤◌, ◌-◌, get_or}
use Rattle.lio_syntax_lines.proofs.LiteralLemmas.{digit_at, next_below, next_fits, number_from-step, number_from-end}
use Rattle.lio_syntax_lines.proofs.literals.number_of.Goals as goal

pub overflow_mul-number : goal.overflow_mul-number
overflow_mul-number c = omega (arith, next_fits c.loop-digit.number c.loop-digit.digit-index 0 c.loop-digit.invariant.1)

pub overflow_add-number : goal.overflow_add-number
overflow_add-number c =
    let small : get_or c.args.digits.now c.loop-digit.digit-index 0 - 48 ≤ 9 = digit_at c.args.digits.now c.loop-digit.digit-index c.loop-digit-test.true c.requires.digits in
    omega (arith, next_fits c.loop-digit.number c.loop-digit.digit-index _ c.loop-digit.invariant.1 (omega arith) small)

pub loop-digit-preserved : goal.loop-digit-preserved
loop-digit-preserved c =
    let small : get_or c.args.digits.now c.loop-digit.digit-index 0 - 48 ≤ 9 = digit_at c.args.digits.now c.loop-digit.digit-index c.loop-digit-test.true c.requires.digits in
    rw c.from.ensures (
      sym (number_from-step c.loop-digit.number c.loop-digit.digit-index c.args.digits.now c.loop-digit-test.true) ∙ c.loop-digit.invariant.0,
      next_below c.loop-digit.number c.loop-digit.digit-index _ c.loop-digit.invariant.1 small,
    )

pub returns : goal.returns
returns c = sym (number_from-end c.loop-digit.number c.loop-digit.digit-index c.args.digits.now (omega arith)) ∙ c.loop-digit.invariant.0
