use Rattle.lio_start.specs.Start.{sealed_inputs}
use Rattle.lio_start.proofs.MakingLemmas.{inputs-next, inputs-short, inputs-end}
use Rattle.lio_start.proofs.inputs.sealed_inputs.Goals as goal

pub returns-in_default : goal.returns-in_default
returns-in_default c =
    inputs-short c.args.longest c.loop-place.place c.args.inputs.now c.args.texts.now c.loop-place.values (sealed_inputs c.args.longest c.args.inputs.now c.args.texts.now)
    c.in_default.ensures.lookup.3 c.loop-place.invariant

pub loop-place-preserved : goal.loop-place-preserved
loop-place-preserved c =
    let i = c.loop-place.place in
    rw c.in_ok-push.ensures.ok
    (inputs-next c.args.longest i c.args.inputs.now c.args.texts.now c.loop-place.values (sealed_inputs c.args.longest c.args.inputs.now c.args.texts.now)
    c.index-inputs-place.result c.in-Some.text.now c.in_ok-sealed_input.field-0 c.loop-place-test.true c.index-inputs-place.is c.in-Some.ensures.lookup.3.0 c.in-Some.ensures.lookup.1
    c.in_ok-sealed_input.ensures c.loop-place.invariant)

pub returns : goal.returns
returns c =
    inputs-end c.args.longest c.loop-place.place c.args.inputs.now c.args.texts.now c.loop-place.values (sealed_inputs c.args.longest c.args.inputs.now c.args.texts.now)
    c.loop-place-test.false c.loop-place.invariant
