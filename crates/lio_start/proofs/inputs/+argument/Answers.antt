use Rattle.std.proofs.Common.{◌<◌, ◌≤◌, [], List, All, map, sym, ap, subst, arith, ◌∙◌}
use Rattle.lio_values.specs.Measures.{value_depth}
use Rattle.lio_policy.specs.Lists.{extent, in_all}
use Rattle.lio_policy.specs.declared.policy.Arg.{Arg}
use Rattle.lio_policy.proofs.ArgumentLemmas.{extent-items}
use Rattle.lio_start.specs.Start.{argument_of}
use Rattle.lio_start.proofs.ShallowLemmas.{items-shallow, items-next, deepest-item}
use Rattle.lio_start.proofs.inputs.+argument.Goals as goal

pub argument-items-requires : goal.argument-items-requires
argument-items-requires t c =
    let inputs = c.args.inputs.now in
    let is_list = subst (λ (a : Arg). value_depth (argument_of inputs a) ≤ 8) c.in-Items.is c.requires in
    let deeper = ap (λ (a : Arg). (extent [] a).depth) c.in-Items.is ∙ ap (λ e. e.depth) (extent-items [] c.in-Items.args) in
    let same = ap (λ (args : List Arg). (in_all (map (extent []) args)).depth) c.as_slice-in-Items.ensures in (
      omega (arith, c.decreases, deeper, same),
      subst (All (λ (a : Arg). value_depth (argument_of inputs a) < 8)) (sym c.as_slice-in-Items.ensures) (items-shallow inputs c.in-Items.args is_list),
    )

pub items-argument-requires : goal.items-argument-requires
items-argument-requires t c =
    let less = deepest-item [] c.args.args.now c.loop-arg.arg-index c.arg-item.result c.loop-arg-test.true c.arg-item.is in
    let shallow = c.requires c.loop-arg.arg-index c.arg-item.result c.loop-arg-test.true in
    let same = ap (λ (a : Arg). value_depth (argument_of c.args.inputs.now a)) c.arg-item.is in
    (omega (arith, c.decreases, less), omega (arith, shallow, same))

pub items-loop-arg-preserved : goal.items-loop-arg-preserved
items-loop-arg-preserved t c =
    items-next (argument_of c.args.inputs.now) c.args.args.now c.loop-arg.arg-index c.arg-item.result c.loop-arg-test.true c.arg-item.is c.loop-arg.items c.push.new.self c.in_ok-argument.field-0
    c.loop-arg.invariant c.in_ok-argument.ensures c.in_ok-push.ensures.ok
