use Rattle.std.proofs.Common.{◌≡◌, drop}
use Rattle.lio_host_main.specs.Workload.{with_inputs}
use Rattle.lio_host_main.proofs.workload_files.put_inputs.Given as goal

-- those that are left are still to be put
abbrev pub invariant-loop-number : goal.invariant-loop-number
invariant-loop-number l = with_inputs 0 l.inputs l.initial.store ≡ with_inputs l.number (drop l.number l.inputs) l.store
