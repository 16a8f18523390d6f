use Rattle.std.proofs.Common.{◌≡◌, ◌+◌, ◌%◌, map}
use Rattle.std.specs.List.{range_with_len}
use Rattle.lio_host_main.proofs.workload.inputs.make_input.Given as goal

-- the letters so far
abbrev pub invariant-loop-place : goal.invariant-loop-place
invariant-loop-place l = l.input.items ≡ map (λ place. 97 + (l.number + place) % 26) (range_with_len 0 l.place)
