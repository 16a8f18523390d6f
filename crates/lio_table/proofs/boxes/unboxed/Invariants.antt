use Rattle.std.proofs.Common.{◌≡◌, ◌-◌, ◌≤◌, ℕ, ◌<◌, false, Some, map, take, get_or, vec_capacity, vec_len}
use Rattle.std.specs.Mem.Slots.{slots_filled, slots_items, slots_len}
use Rattle.std.specs.Mem.Slots.Ownership.{Filled}
use Rattle.lio_table.proofs.boxes.unboxed.Given as goal

-- the values of the slots so far are taken out
abbrev pub invariant-loop-i : goal.invariant-loop-i
invariant-loop-i g l = record {
  filled : Filled (slots_filled l.closed.slots) l.i (slots_len l.closed.slots);
  emptied : (k : ℕ) → k < l.i → get_or (slots_filled l.closed.slots) k false ≡ false;
  same : slots_items l.closed.slots ≡ slots_items l.fn.closed.slots;
  size : slots_len l.closed.slots ≡ slots_len l.fn.closed.slots;
  below : l.i ≤ slots_len l.closed.slots;
  room : vec_capacity l.values ≡ vec_capacity l.fn.values;
  count : vec_len l.values ≡ l.i;
  values : map Some l.values.items ≡ take l.i (slots_items l.closed.slots);
}

abbrev pub decreases-loop-i : goal.decreases-loop-i
decreases-loop-i g l = slots_len l.closed.slots - l.i
