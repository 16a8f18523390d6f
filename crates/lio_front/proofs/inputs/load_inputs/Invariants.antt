use Rattle.std.proofs.Common.{◌≡◌, ◌≤◌, take}
use Rattle.lio_front.proofs.InputLemmas.{EachGave}
use Rattle.lio_front.proofs.inputs.load_inputs.Given as goal

-- the inputs so far were given their texts, and the store's files are as before
abbrev pub invariant-loop-input : goal.invariant-loop-input
invariant-loop-input g l = record {
  files : g.S.Store.holds l.store ≡ g.S.Store.holds l.initial.store;
  count : (g.S.Store.faults l.initial.store).count ≤ (g.S.Store.faults l.store).count;
  each : EachGave (g.S.Store.holds l.initial.store) l.policy.longest (take l.input-index l.policy.inputs) l.texts;
}
