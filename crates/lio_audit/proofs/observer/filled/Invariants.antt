use Rattle.std.proofs.Common.{◌≡◌, map, take}
use Rattle.lio_audit.specs.Inputs.{or_empty}
use Rattle.lio_audit.proofs.observer.filled.Given as goal

-- the texts so far
abbrev pub invariant-loop-text : goal.invariant-loop-text
invariant-loop-text l = l.texts ≡ map or_empty (take l.text-index l.held)
