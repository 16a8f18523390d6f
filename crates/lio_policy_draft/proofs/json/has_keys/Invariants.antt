use Rattle.std.proofs.Common.{◌≡◌, map}
use Rattle.serde_json.specs.View.{members_view}
use Rattle.lio_policy_draft.specs.Shape.{are_keys}
use Rattle.lio_policy_draft.proofs.json.has_keys.Given as goal

-- the keys and members that are left agree exactly where all do
abbrev pub invariant-loop-name : goal.invariant-loop-name
invariant-loop-name l = are_keys (map (λ key. key.now) l.left) (members_view l.name-iterator) ≡ are_keys (map (λ key. key.now) l.fn.keys) (members_view l.initial.name-iterator)
