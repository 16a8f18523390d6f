use Rattle.std.proofs.Common.{◌≡◌, ◌++◌, take, codes}
use Rattle.std.specs.List.{flat_map}
use Rattle.lio_values.specs.Quoted.{escaped}
use Rattle.lio_values.proofs.print.append_quoted.Given as goal

-- the bytes so far stand behind the quote
abbrev pub invariant-loop-byte : goal.invariant-loop-byte
invariant-loop-byte l = l.out.items ≡ l.fn.out.items ++ (codes "\"" ++ flat_map escaped (take l.byte-index l.bytes))
