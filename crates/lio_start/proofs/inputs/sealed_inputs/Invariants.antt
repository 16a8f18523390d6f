use Rattle.std.proofs.Common.{◌≡◌, ◌++◌, drop}
use Rattle.lio_start.specs.Start.{sealed_inputs}
use Rattle.lio_start.proofs.inputs.sealed_inputs.Given as goal

-- the values so far stand before those of the inputs that are left
abbrev pub invariant-loop-place : goal.invariant-loop-place
invariant-loop-place l = l.values ++ sealed_inputs l.longest (drop l.place l.inputs) (drop l.place l.texts) ≡ sealed_inputs l.longest l.inputs l.texts
