use Rattle.std.proofs.Common.{◌≡◌, ◌+◌, ◌*◌, ◌++◌, List, option_map, drop}
use Rattle.serde_json.specs.Data.{depth, items_depth}
use Rattle.serde_json.specs.View.{view, items_view}
use Rattle.lio_policy_draft.specs.Shape.{each_arg}
use Rattle.lio_policy_draft.specs.declared.draft.ArgDraft.{ArgDraft}
use Rattle.lio_policy_draft.proofs.shape.+args.Given as goal

abbrev pub decreases-arg_draft : goal.decreases-arg_draft
decreases-arg_draft l = 2 * depth (view l.value.now) + 1

abbrev pub decreases-args_at : goal.decreases-args_at
decreases-args_at l = 2 * depth (view l.value.now)

abbrev pub decreases-each_arg : goal.decreases-each_arg
decreases-each_arg l = 2 * items_depth (items_view l.items.now) + 2

-- the arguments so far stand before those that are left
abbrev pub invariant-each_arg-loop-item : goal.invariant-each_arg-loop-item
invariant-each_arg-loop-item l =
    each_arg l.version (items_view l.items) ≡ option_map (λ (more : List ArgDraft). l.args ++ more) (each_arg l.version (items_view (drop l.item-index l.items)))
