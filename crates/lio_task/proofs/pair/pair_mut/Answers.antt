use Rattle.std.proofs.Common.{rules, refl}
use Rattle.std.proofs.Math.Seq.{of_parts}
use Rattle.lio_task.proofs.PairLemmas.{written, written-back}
use Rattle.lio_task.proofs.pair.pair_mut.Goals as goal

pub returns-then-i-j : goal.returns-then-i-j
returns-then-i-j g c =
    let parts = c.split_at_mut-front in (
      ((refl, refl), λ x y. written c.args.xs.now parts.result.0.now parts.result.1.now c.args.i c.args.j x y parts.ensures.value parts.ensures.front_len c.if-i-j.true),
      record { writes_back = tt; first = search (rules, of_parts); second = search (rules, of_parts) },
    )

pub returns-else-i-j : goal.returns-else-i-j
returns-else-i-j g c =
    let parts = c.split_at_mut-front-else-i-j in (
      ((refl, refl), λ x y. written-back c.args.xs.now parts.result.0.now parts.result.1.now c.args.i c.args.j x y parts.ensures.value parts.ensures.front_len c.if-i-j.false c.requires.other),
      record { writes_back = tt; first = search (rules, of_parts); second = search (rules, of_parts) },
    )
