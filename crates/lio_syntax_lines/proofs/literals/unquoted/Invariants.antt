use Rattle.std.proofs.Common.{◌≡◌, ◌++◌, length}
use Rattle.std.specs.Option.{option_map}
use Rattle.lio_syntax_lines.specs.Literals as spec
use Rattle.lio_syntax_lines.proofs.literals.unquoted.Given as goal

-- the bytes so far stand before those of what is left
abbrev pub invariant-loop-rest : goal.invariant-loop-rest
invariant-loop-rest l = spec.unquoted l.fn.bytes ≡ option_map (λ more. l.text.items ++ more) (spec.unquoted l.rest)

abbrev pub decreases-loop-rest : goal.decreases-loop-rest
decreases-loop-rest l = length l.rest
