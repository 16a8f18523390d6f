use Rattle.std.proofs.Common.{◌≡◌}
use Rattle.lio_task_turns.proofs.OperandLemmas.{Goes}
use Rattle.lio_task_turns.proofs.operands.values.Given as goal

-- what the operands so far stand for is there
abbrev pub invariant-loop-operand : goal.invariant-loop-operand
invariant-loop-operand l = record {
  items : l.operand-items ≡ l.operands;
  goes : Goes l.environment l.operand-items l.operand-index l.values;
}
