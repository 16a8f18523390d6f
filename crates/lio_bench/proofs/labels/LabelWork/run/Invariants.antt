use Rattle.std.proofs.Common.{◌≡◌}
use Rattle.lio_bench.proofs.labels.LabelWork.run.Given as goal

-- the labels are equal
abbrev pub invariant-loop : goal.invariant-loop
invariant-loop l = l.other ≡ l.label
