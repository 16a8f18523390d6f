use Rattle.std.proofs.Common.{◌∙◌, subst, sym, List}
use Rattle.std.specs.Mem.Slots.{slots_items}
use Rattle.lio_task.specs.declared.config.Holder.{Holder}
use Rattle.lio_table.specs.Views.{beginning_of}
use Rattle.lio_table.specs.Ends.{HasRun}
use Rattle.lio_table.proofs.Closing.{closed-run}
use Rattle.lio_table.proofs.SlotLemmas.{same-values}
use Rattle.lio_table.proofs.table.Table.close.Goals as goal

pub unboxed-holders-requires-clause-each : goal.unboxed-holders-requires-clause-each
unboxed-holders-requires-clause-each c =
    let seat = c.args.seat.seat in
    let ran = closed-run (beginning_of c.args.self.nodes.shared.key) seat.id seat.me.0 (slots_items c.close_with.result.words) (slots_items c.close_with.result.slots) c.close_with.ensures.values.2 c.requires.all c.requires.bare in
    (ran.0, ran.1)

pub returns-in-Ok-clause-ok : goal.returns-in-Ok-clause-ok
returns-in-Ok-clause-ok c =
    let seat = c.args.seat.seat in
    let first = beginning_of c.args.self.nodes.shared.key in
    let ran = closed-run first seat.id seat.me.0 (slots_items c.close_with.result.words) (slots_items c.close_with.result.slots) c.close_with.ensures.values.2 c.requires.all c.requires.bare in
    record {
      has_run = subst (λ (holders : List Holder). HasRun first seat.me.0 holders) (same-values ran.0 c.unboxed-holders.result.items (sym ran.1 ∙ c.unboxed-holders.ensures)) ran.2;
      longest = sym c.args.self.texts;
    }
