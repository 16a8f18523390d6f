use Rattle.std.proofs.Common.{◌≡◌, drop}
use Rattle.lio_syntax.specs.Rules as spec
use Rattle.lio_syntax.proofs.rules.has_twice.Given as goal

-- none of the names before the place is there twice
abbrev pub invariant-loop-i : goal.invariant-loop-i
invariant-loop-i l = spec.has_twice l.fn.names ≡ spec.has_twice (drop l.i l.names)
