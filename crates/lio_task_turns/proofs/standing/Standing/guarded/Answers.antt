use Rattle.std.proofs.Common.{◌∙◌, sym, ap}
use Rattle.lio_guards.proofs.GuardLemmas.{write_lets}
use Rattle.lio_guards.specs.declared.verdict.Verdict.{Verdict}
use Rattle.lio_calculus.specs.Plan.{with_verdict}
use Rattle.lio_task_turns.specs.StateOf.{state_of}
use Rattle.lio_task_turns.specs.Turns.{act_in, turn_of}
use Rattle.lio_task_turns.proofs.standing.Standing.guarded.Goals as goal

pub returns-then-may_write : goal.returns-then-may_write
returns-then-may_write c = λ simple lines.
    let task = c.args.self.now in let turn = turn_of lines simple c.args.turn in
    ap (λ (v : Verdict). with_verdict (state_of lines task) (act_in c.args.turn) v (λ current. turn))
    (sym (write_lets c.args.op task.label.now task.clearance.now c.args.label.now c.requires (sym c.if-may_write.true ∙ c.may_write.ensures)))
