use Rattle.std.proofs.Common.{◌≡◌, ◌∙◌, ℕ, List, sym, ap, subst, arith}
use Rattle.lio_values.specs.declared.value.Value.{Value}
use Rattle.lio_values.specs.Named.{IsValueNamed}
use Rattle.lio_values.specs.Views.{forest_of}
use Rattle.lio_values.proofs.ItemsLemmas.{item-height}
use Rattle.lio_values.proofs.ListTextLemmas.{text-more, joint-more, values-named}
use Rattle.lio_values.proofs.print_values.+append.Goals as goal

pub append_kind-returns-in_ok-append_flow-in-FlowCurrent-clause-ok : goal.append_kind-returns-in_ok-append_flow-in-FlowCurrent-clause-ok
append_kind-returns-in_ok-append_flow-in-FlowCurrent-clause-ok t c = rw c.in-FlowCurrent.is c.in_ok-append_flow-in-FlowCurrent.ensures.ok

pub append_kind-returns-in_ok-append_numbers-in-ChildTurns-clause-ok : goal.append_kind-returns-in_ok-append_numbers-in-ChildTurns-clause-ok
append_kind-returns-in_ok-append_numbers-in-ChildTurns-clause-ok t c = rw c.in-ChildTurns.is c.in_ok-append_numbers-in-ChildTurns.ensures.ok

pub append_items-append_value-requires : goal.append_items-append_value-requires
append_items-append_value-requires t c =
    let high = item-height _ _ _ c.loop-value.value-index c.value-item.result c.as_slice-value-items.ensures c.items.view_is c.loop-value-test.true c.value-item.is in
    let view : forest_of c.as_slice-value-items.result.now ≡ c.args.items.now = ap forest_of c.as_slice-value-items.ensures ∙ c.items.view_is in
    let named = values-named c.args.names.now c.as_slice-value-items.result.now c.args.items.now view c.requires in (
      omega (arith, c.decreases, high),
      subst (IsValueNamed c.args.names.now) (sym c.value-item.is) (named c.loop-value.value-index c.value-item.result c.loop-value-test.true),
    )

pub append_items-loop-value-preserved : goal.append_items-loop-value-preserved
append_items-loop-value-preserved t c =
    let values : List Value = c.as_slice-value-items.result.now in
    let place : ℕ = c.loop-value.value-index in (
      text-more values place c.value-item.result c.loop-value-test.true c.value-item.is c.args.names.now c.args.out.now.items c.loop-value.out.items c.loop-value.between.now
          c.extend_from_slice.new.self.items c.append_value.new.out.items c.loop-value.invariant.0 c.loop-value.invariant.1 c.in_ok-extend_from_slice.ensures.items
          c.in_ok-append_value.ensures.ok,
      joint-more values place c.value-item.result c.loop-value-test.true c.value-item.is,
    )
