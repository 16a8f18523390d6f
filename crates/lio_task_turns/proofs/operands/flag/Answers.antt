use Rattle.std.proofs.Common.{◌∙◌, ap, sym}
use Rattle.lio_calculus.specs.Operands.{bound, flag_of}
use Rattle.lio_task_turns.proofs.OperandLemmas.{seen-view}
use Rattle.lio_task_turns.proofs.operands.flag.Goals as goal

pub returns-in-Flag : goal.returns-in-Flag
returns-in-Flag c = sym (ap flag_of c.in-Flag.is) ∙ seen-view flag_of c.in_ok-flag.field-0.now (bound c.args.environment.now c.args.operand.now) c.in_ok-flag.ensures
