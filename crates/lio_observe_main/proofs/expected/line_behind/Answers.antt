use Rattle.std.proofs.Common.{◌∙◌, subst, inr, arith}
use Rattle.lio_calculus.specs.Step.{Configuration}
use Rattle.lio_erasure.specs.LowParts.{low_of}
use Rattle.lio_labels.specs.declared.label.Label.{Label}
use Rattle.lio_observe_main.specs.Expected.{MovesOn}
use Rattle.lio_observe_main.proofs.ExpectedLemmas.{turns-next}
use Rattle.lio_observe_main.proofs.expected.line_behind.Goals as goal

pub loop-before-preserved : goal.loop-before-preserved
loop-before-preserved c =
    let middle : Configuration = (low_of c.loop-before.low).configuration in
    let after : Configuration = (low_of c.take_line.new.low).configuration in
    let moves : MovesOn (low_of c.loop-before.low).observer middle after = rw c.in-Some-2.is at c.in_ok-len.ensures.moves in
    record {
      named = c.take_line.ensures.named;
      observer = c.take_line.ensures.observer ∙ c.loop-before.invariant.observer;
      some = omega arith;
      within = inr (omega (arith, c.loop-before-test.true));
      turns = turns-next (low_of c.args.low.now).observer c.loop-before._before (low_of c.args.low.now).configuration middle after c.loop-before.invariant.some c.loop-before.invariant.turns
          (subst (λ (o : Label). MovesOn o middle after) c.loop-before.invariant.observer moves);
    }
