use Rattle.std.proofs.Common.{◌≡◌, ◌++◌, take}
use Rattle.std.specs.List.{flat_map}
use Rattle.lio_host_main.specs.Generated.{stands_for}
use Rattle.lio_host_main.proofs.workload.patterns.append_filled.Given as goal

-- what the bytes so far stand for
abbrev pub invariant-loop-byte : goal.invariant-loop-byte
invariant-loop-byte l = l.out.items ≡ l.fn.out.items ++ flat_map (stands_for l.number) (take l.byte-index l.pattern)
