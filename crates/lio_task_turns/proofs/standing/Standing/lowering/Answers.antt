use Rattle.std.specs.Prelude.{IfOk}
use Rattle.std.proofs.Common.{subst}
use Rattle.lio_values.specs.declared.act.Op.TheVariants as op
use Rattle.lio_task_turns.specs.declared.turn.Turn.{Turn}
use Rattle.lio_task_turns.specs.Turns.{Guards}
use Rattle.lio_task_turns.proofs.standing.Standing.lowering.Goals as goal

pub returns-in-Ok : goal.returns-in-Ok
returns-in-Ok c = subst (λ (turn : Turn). IfOk c.guarded.result (Guards c.args.self.now op.Lower c.args.label.now turn)) c.in-Ok.ensures c.guarded.ensures
