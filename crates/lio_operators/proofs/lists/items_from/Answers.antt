-- The items from the place in the list on are those from the place on.
use Rattle.std.proofs.Common.{◌∙◌, Ok, drop, ap, sym, w64}
use Rattle.std.proofs.lemmas.Int.{to_z-of_z}
use Rattle.std.proofs.lemmas.List.{take_rest, drop_min}
use Rattle.lio_values.specs.declared.value.Plain.TheVariants.{Items}
use Rattle.lio_values.specs.declared.value.Value.TheVariants.{Bare}
use Rattle.lio_values.specs.Forest.{Forest}
use Rattle.lio_values.specs.Views.{forest_of}
use Rattle.lio_operators.specs.Texts.{place_at}
use Rattle.lio_operators.proofs.lists.items_from.Goals as goal

pub returns : goal.returns
returns c =
    let values = c.as_slice-values.result.now in
    let place = rw (to_z-of_z w64 c.args.at c.ranges.at) at c.place_in-place.ensures in
    ap (λ (items : Forest). Ok (Bare (Items items)))
    (sym
    (c.in_ok-of.ensures
    ∙ ap forest_of
    (take_rest values c.place_in-place.result ∙ ap (λ n. drop n values) place ∙ drop_min (place_at c.args.at) values
    ∙ ap (drop (place_at c.args.at)) c.as_slice-values.ensures.items)))
