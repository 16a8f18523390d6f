use Rattle.std.proofs.Common.{◌≡◌, ◌++◌, take}
use Rattle.lio_syntax_lines.specs.Operands.{operands_spaced}
use Rattle.lio_syntax_lines.proofs.print.print_operands.Given as goal

-- the operands so far are printed
abbrev pub invariant-loop-operand : goal.invariant-loop-operand
invariant-loop-operand l = l.out.items ≡ l.fn.out.items ++ operands_spaced l.names (take l.operand-index l.operands)
