use Rattle.std.proofs.Common.{◌≡◌, ◌++◌, length, All}
use Rattle.std.specs.Option.{option_map}
use Rattle.lio_syntax_lines.specs.Forms as spec
use Rattle.lio_syntax_lines.specs.Operands.{IsOperand}
use Rattle.lio_syntax_lines.proofs.forms.Words.operands.Given as goal

-- the operands so far stand before those of the words that are left
abbrev pub invariant-words : goal.invariant-words
invariant-words l = record {
  so_far : spec.operands l.names l.fn.self ≡ option_map (λ more. l.operands ++ more) (spec.operands l.names l.self);
  sound : All (IsOperand l.names) l.operands;
}

abbrev pub decreases-words : goal.decreases-words
decreases-words l = length l.self
