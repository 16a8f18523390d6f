use Rattle.std.proofs.Common.{◌≡◌, ◌+◌, ◌*◌, [], map, take}
use Rattle.lio_values.specs.Views.{forest_of}
use Rattle.lio_policy.specs.Lists.{extent, in_all}
use Rattle.lio_start.specs.Start.{argument_of}
use Rattle.lio_start.proofs.inputs.+argument.Given as goal

-- by how deep the arguments are
abbrev pub decreases-argument : goal.decreases-argument
decreases-argument l = 2 * (extent [] l.arg.now).depth

abbrev pub decreases-items : goal.decreases-items
decreases-items l = 2 * (in_all (map (extent []) l.args.now)).depth + 1

-- the items so far are those of the arguments so far
abbrev pub invariant-items-loop-arg : goal.invariant-items-loop-arg
invariant-items-loop-arg l = l.items ≡ forest_of (map (argument_of l.inputs) (take l.arg-index l.args))
