use Rattle.std.proofs.Common.{◌≡◌, ◌<◌, ◌^◌, drop}
use Rattle.lio_syntax_lines.specs.Literals.{number_from}
use Rattle.lio_syntax_lines.proofs.literals.number_of.Given as goal

-- the number so far, before the digits that are left
abbrev pub invariant-loop-digit : goal.invariant-loop-digit
invariant-loop-digit l = (number_from l.number (drop l.digit-index l.digits) ≡ number_from 0 l.fn.digits) × (l.number < 10 ^ l.digit-index)
