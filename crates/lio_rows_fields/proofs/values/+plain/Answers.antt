use Rattle.std.proofs.Common.{◌≡◌, ◌∙◌, ap, List, [], ◌∷◌, ◌++◌, ◌-◌}
use Rattle.lio_values.specs.declared.value.Value.{Value}
use Rattle.lio_values.specs.declared.value.Value.TheVariants.{Bare}
use Rattle.lio_values.specs.Views.{values_of, values_of-forest_of}
use Rattle.lio_rows_fields.proofs.Added.{All-with}
use Rattle.lio_rows_fields.proofs.ListLemmas.{IsPureItem, pures_within}
use Rattle.lio_rows_fields.proofs.values.+plain.Goals as goal

pub pure_items-loop-preserved : goal.pure_items-loop-preserved
pure_items-loop-preserved t c =
    let found : List Value = values_of c.loop.items in
    let pushed : values_of c.push.new.self ≡ found ++ Bare c.in_ok-item-in-bare.item ∷ [] = ap values_of c.in_ok-push-in-bare.ensures.ok ∙ values_of-forest_of (found ++ Bare c.in_ok-item-in-bare.item ∷ []) in
    rw pushed (All-with (IsPureItem c.args.names.now (c.args.depth - 1)) found (Bare c.in_ok-item-in-bare.item) c.loop.invariant c.in_ok-item-in-bare.ensures)

pub pure_items-returns : goal.pure_items-returns
pure_items-returns t c = pures_within c.args.names.now c.args.depth c.loop.items c.requires.some c.loop.invariant
