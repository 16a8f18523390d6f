use Rattle.std.proofs.Common.{ap, arith, length, List, ℕ}
use Rattle.lio_values.specs.declared.entry.Entry.{Entry}
use Rattle.lio_task.proofs.LogLemmas.{fresh-later}
use Rattle.lio_ask_main.proofs.standing.standing_from.Goals as goal

pub loop-place-init : goal.loop-place-init
loop-place-init c = record {
  sound = c.requires.sound;
  later = fresh-later c.args.config 0 c.requires.fresh;
  count = ap (λ (ns : List ℕ). length ns) c.new-numbers.ensures.items;
  within = omega arith;
}

pub returns : goal.returns
returns c = omega (arith, c.loop-place.invariant.count, c.loop-place.invariant.within, c.loop-place-test.false, ap (λ (es : List Entry). length es) c.entries-entries.ensures.entries)
