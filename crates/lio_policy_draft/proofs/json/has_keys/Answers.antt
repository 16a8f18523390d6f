use Rattle.std.proofs.Common.{◌≡◌, ◌∙◌, [], sym, ap, map, unwrap_or, option_map, false}
use Rattle.serde_json.specs.View.{members_view}
use Rattle.lio_policy_draft.specs.Shape.{are_keys}
use Rattle.lio_policy_draft.proofs.ShapeLemmas.{are_keys_end}
use Rattle.lio_policy_draft.proofs.json.has_keys.Goals as goal

pub returns : goal.returns
returns c =
    let keys = c.args.keys.now in
    let behind = c.loop-name.left.now in
    let none : c.loop-name.name-iterator ≡ [] = c.in-None.ensures.steps.0 in
    let all : c.into_iter-name-iterator.result ≡ c.in-Some.members.now.entries = c.into_iter-name-iterator.ensures.into_iter_gives.0 in
    c.is_empty.ensures ∙ sym (are_keys_end behind) ∙ ap (λ es. are_keys (map (λ key. key.now) behind) (members_view es)) (sym none) ∙ c.loop-name.invariant
    ∙ ap (λ es. are_keys (map (λ key. key.now) keys) (members_view es)) all
    ∙ ap (λ o. unwrap_or (option_map (are_keys (map (λ key. key.now) keys)) o) false) c.in-Some.ensures
