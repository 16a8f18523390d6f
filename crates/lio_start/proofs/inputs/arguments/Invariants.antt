use Rattle.std.proofs.Common.{◌≡◌, map, take}
use Rattle.lio_start.specs.Start.{argument_of}
use Rattle.lio_start.proofs.inputs.arguments.Given as goal

-- the values so far are those of the arguments so far
abbrev pub invariant-loop-arg : goal.invariant-loop-arg
invariant-loop-arg l = l.values ≡ map (argument_of l.inputs) (take l.arg-index l.args)
