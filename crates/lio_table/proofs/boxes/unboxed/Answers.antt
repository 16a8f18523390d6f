use Rattle.std.proofs.Common.{rules, ◌∙◌, ap, sym}
use Rattle.std.specs.Mem.Slots.{slots_items}
use mathlib.Core.Option.{some}
use lib.ListN.{get_elem?}
use Rattle.lio_table.proofs.SlotLemmas.{none-never, taken-more}
use Rattle.lio_table.proofs.boxes.unboxed.Goals as goal

pub unreachable-requires : goal.unreachable-requires
unreachable-requires g c =
    none-never c.requires.each.0 c.loop-i.i (sym (ap (λ xs. get_elem? xs c.loop-i.i) (c.loop-i.invariant.same ∙ c.requires.each.1)) ∙ (c.take.ensures.value ∙ ap some c.in-None.is))

pub loop-i-preserved : goal.loop-i-preserved
loop-i-preserved g c = record {
  filled = search rules;
  emptied = search rules;
  same = search rules;
  size = search rules;
  below = search rules;
  room = search rules;
  count = search rules;
  values = search (rules, taken-more (slots_items c.loop-i.closed.slots) c.loop-i.values.items c.loop-i.i c.in-Some.value c.loop-i.invariant.values (c.take.ensures.value ∙ ap some c.in-Some.is));
}
