use Rattle.std.proofs.Common.{length, ap, arith}
use Rattle.lio_policy.specs.declared.policy.TaskEntry.{TaskEntry}
use Rattle.lio_policy.proofs.PolicyLemmas.{limits_are_small}
use Rattle.lio_start.proofs.fitting.fits.Goals as goal

pub first_fault-requires : goal.first_fault-requires
first_fault-requires c =
    omega (arith, c.policy.invariant.limits.tasks, (limits_are_small c.policy.inside.version).entries, ap (length {A = TaskEntry}) c.as_slice.ensures)
