use Rattle.std.proofs.Common.{◌≡◌, ◌≤◌, take}
use Rattle.lio_outside.specs.Outputs.{kept}
use Rattle.lio_front.specs.Outputs.{outputs_from}
use Rattle.lio_front.proofs.write.keep_channels.Given as goal

-- the files of the channels so far are kept
abbrev pub invariant-loop-number : goal.invariant-loop-number
invariant-loop-number g l = record {
  count : (g.S.Store.faults l.initial.store).count ≤ (g.S.Store.faults l.store).count;
  files : g.S.Store.holds l.store ≡ kept (g.S.Store.holds l.initial.store) (outputs_from l.journal 0 (take l.number l.policy.channels));
}
