use Rattle.std.proofs.Common.{◌∙◌, ◌+◌, Some, option_map, ap, refl, length, map}
use Rattle.std.proofs.lemmas.Option.{slice_get-map, slice_get_read}
use Rattle.serde_json.specs.View.{view}
use Rattle.lio_policy_draft.proofs.EntryLemmas.{placed_at}
use Rattle.lio_policy_draft.proofs.numbering.item_at.Goals as goal

pub returns : goal.returns
returns c =
    let items = c.args.items.now in
    let item = c.index-items-index.result in
    let at = slice_get-map view items c.args.index ∙ ap (option_map view) (slice_get_read items (length items) c.args.index item refl c.requires.within c.index-items-index.is) in
    ap (λ n. Some (record { kind = c.args.kind; place = 1 + c.args.index; name = n })) c.in_ok-name.ensures
    ∙ placed_at c.args.kind 1 (map view items) c.args.index (view item) at
