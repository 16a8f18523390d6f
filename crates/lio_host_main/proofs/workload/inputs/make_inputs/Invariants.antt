use Rattle.std.proofs.Common.{◌≡◌, map}
use Rattle.std.specs.List.{range_with_len}
use Rattle.lio_host_main.specs.Generated.{input_text}
use Rattle.lio_host_main.proofs.workload.inputs.make_inputs.Given as goal

-- the inputs so far
abbrev pub invariant-loop-number : goal.invariant-loop-number
invariant-loop-number l = l.inputs ≡ map input_text (range_with_len 0 l.number)
