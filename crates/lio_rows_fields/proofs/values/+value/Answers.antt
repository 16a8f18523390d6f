use Rattle.std.proofs.Common.{◌≡◌, ◌∙◌, ap, List, [], ◌∷◌, ◌++◌, ◌-◌}
use Rattle.lio_values.specs.declared.value.Value.{Value}
use Rattle.lio_values.specs.Views.{values_of, values_of-forest_of}
use Rattle.lio_rows_fields.specs.Within.{IsValueWithin}
use Rattle.lio_rows_fields.proofs.Added.{All-with}
use Rattle.lio_rows_fields.proofs.ListLemmas.{values_within}
use Rattle.lio_rows_fields.proofs.values.+value.Goals as goal

pub items-loop-preserved : goal.items-loop-preserved
items-loop-preserved t c =
    let found : List Value = values_of c.loop.items in
    let pushed : values_of c.push.new.self ≡ found ++ c.in_ok-value_within.field-0 ∷ [] = ap values_of c.in_ok-push.ensures.ok ∙ values_of-forest_of (found ++ c.in_ok-value_within.field-0 ∷ []) in
    rw pushed (All-with (IsValueWithin c.args.names.now (c.args.depth - 1)) found c.in_ok-value_within.field-0 c.loop.invariant c.in_ok-value_within.ensures)

pub items-returns : goal.items-returns
items-returns t c = values_within c.args.names.now c.args.depth c.loop.items c.requires.some c.loop.invariant
