use Rattle.std.proofs.Common.{◌≡◌, [], drop}
use Rattle.lio_syntax.specs.Environment.{bind_all}
use Rattle.lio_task_control.proofs.environment.Environment.of.Given as goal

-- the names before the place are bound
abbrev pub invariant-loop-i : goal.invariant-loop-i
invariant-loop-i l = bind_all [] l.names l.values ≡ bind_all l.environment (drop l.i l.names) (drop l.i l.values)
