use Rattle.std.proofs.Common.{◌≡◌, ◌++◌}
use Rattle.lio_host_main.specs.Generated.{listed}
use Rattle.lio_host_main.proofs.workload.patterns.append_listed.Given as goal

-- the numbers so far
abbrev pub invariant-loop-number : goal.invariant-loop-number
invariant-loop-number l = l.out.items ≡ l.fn.out.items ++ listed l.pattern l.number
