use Rattle.std.proofs.Common.{◌≡◌, ◌≤◌, ◌+◌, ◌&&◌, [], ◌∷◌, codes, false, IfOk, Some, map, sym, subst, ◌∙◌, arith}
use Rattle.serde_json.specs.Data.{depth, items_depth}
use Rattle.serde_json.specs.View.{view, items_view}
use Rattle.lio_policy_draft.specs.Shape as spec
use Rattle.lio_policy_draft.proofs.ArgLemmas.{arg_is_single, args_found, items_fall, item_depth, first_false, second_false}
use Rattle.lio_policy_draft.proofs.shape.+args.Goals as goal
use Rattle.lio_policy_draft.proofs.shape.+args.Goals.{arg_draft-else-has_lists-via-then-has_lists+else-has_keys, arg_draft-else-has_lists-via-else-has_lists}

pub arg_draft-returns : goal.arg_draft-returns
arg_draft-returns t c =
    let version = c.args.version in
    let seen = view c.args.value.now in
    let lists = spec.has_lists version in
    let keys = spec.has_keys (codes "items" ∷ []) seen in
    let none : (lists && keys) ≡ false = elim c.else-has_lists.branch [
      | arg_draft-else-has_lists-via-then-has_lists+else-has_keys w ↦ second_false lists keys (sym w.has_keys.ensures ∙ w.if-has_keys.false)
      | arg_draft-else-has_lists-via-else-has_lists w ↦ first_false lists keys (sym c.has_lists.ensures ∙ w.if-has_lists.false)
    ] in
    subst (λ e. IfOk c.single_arg.result (λ draft. draft ≡ e)) (arg_is_single version seen none) c.single_arg.ensures

pub args_at-each_arg-requires : goal.args_at-each_arg-requires
args_at-each_arg-requires t c =
    let items = c.in-Some.items.now in
    let found : Some (map view items) ≡ spec.items_at c.args.key.now (view c.args.value.now) = c.in-Some.ensures in
    let falls : items_depth (items_view items) + 2 ≤ depth (view c.args.value.now) = items_fall c.args.key.now (view c.args.value.now) (map view items) found in
    (omega (arith, c.requires.1.0, falls), tt)

pub args_at-returns-in-Some : goal.args_at-returns-in-Some
args_at-returns-in-Some t c =
    subst (λ e. IfOk c.each_arg.result (λ args. args ≡ e)) (args_found c.args.version c.args.key.now (view c.args.value.now) _ c.in-Some.ensures) c.each_arg.ensures

pub each_arg-arg_draft-requires : goal.each_arg-arg_draft-requires
each_arg-arg_draft-requires t c =
    let fall = item_depth c.args.items.now c.loop-item.item-index c.item-item.result c.loop-item-test.true c.item-item.is in
    (omega (arith, c.decreases, fall), tt)
