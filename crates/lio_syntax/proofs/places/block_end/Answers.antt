use Rattle.std.proofs.Common.{◌<◌, length, ap, arith, subst, sym}
use Rattle.lio_syntax.proofs.ClosingLemmas.{end_in_table, end_within, length-ends_behind}
use Rattle.lio_syntax.proofs.places.block_end.Goals as goal

pub bounds-ends-at : goal.bounds-ends-at
bounds-ends-at c = omega (arith, ap length c.requires.table, length-ends_behind 0 c.args.lines.now, c.requires.within)

pub returns-clause-end : goal.returns-clause-end
returns-clause-end c = end_in_table c.args.lines.now c.args.ends.now c.args.at c.requires.table c.requires.within

pub returns-clause-within : goal.returns-clause-within
returns-clause-within c =
    subst (λ n. n < length c.args.lines.now) (sym (end_in_table c.args.lines.now c.args.ends.now c.args.at c.requires.table c.requires.within)) (end_within c.args.lines.now c.args.at c.requires.within)
