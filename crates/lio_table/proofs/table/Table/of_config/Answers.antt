use Rattle.std.proofs.Common.{rules}
use Rattle.lio_table.specs.Views.{beginning_of}
use Rattle.lio_table.proofs.OpenLemmas.{opens}
use Rattle.lio_table.proofs.table.Table.of_config.Goals as goal

pub new-requires : goal.new-requires
new-requires c =
    let origin = c.of-origin in
    opens c.args.script.now c.args.config (beginning_of origin.result) c.as_slice.result.now c.in_ok-slots.slots.items
    (λ i. record { holders = (origin.ensures.config i).holders.items; longest = (origin.ensures.config i).longest; script = origin.ensures.script i })
    (search rules) (search rules) c.requires.sound c.requires.fresh
