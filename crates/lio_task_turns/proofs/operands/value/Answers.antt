use Rattle.std.proofs.Common.{◌∙◌, ap, sym}
use Rattle.lio_calculus.specs.Operands.{bound}
use Rattle.lio_task_turns.proofs.operands.value.Goals as goal

pub returns-in-None : goal.returns-in-None
returns-in-None c = c.in-None.ensures ∙ ap (bound c.args.environment.now) (sym c.in-Name.is)
