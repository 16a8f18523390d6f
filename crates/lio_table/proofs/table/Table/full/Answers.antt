use Rattle.std.proofs.Common.{◌∙◌, sym, ap}
use Rattle.lio_syntax.specs.Lines.{script_lines}
use Rattle.lio_task_turns.specs.declared.turn.Turn.TheVariants as turn
use Rattle.lio_task_turns.specs.Turns.{target_of, turn_of}
use Rattle.lio_task_turns.specs.StateOf.{program_of}
use Rattle.lio_task_plan.specs.Planned.{simple_of}
use Rattle.lio_task.specs.StateOf.{state_in}
use Rattle.lio_task.proofs.PlannedLemmas.{turn_afforded}
use Rattle.lio_task.specs.declared.config.Holder.{Holder}
use Rattle.lio_task.proofs.TurnLemmas.{full-of}
use Rattle.lio_table.proofs.AnswerLemmas.{one-refused}
use Rattle.lio_table.proofs.EndLemmas.{one-can_put}
use Rattle.lio_table.proofs.table.Table.full.Goals as goal

pub planned-requires : goal.planned-requires
planned-requires c =
    (full-of c.args.script.now c.args.self.now.longest c.args.holder.task c.args.full c.in-Some.task c.requires.plans (ap (λ (h : Holder). h.task) (sym c.get.ensures) ∙ c.in-Some.is)).leads

pub put-requires-clause-can_put : goal.put-requires-clause-can_put
put-requires-clause-can_put c = one-can_put c.requires.has.0 c.args.k c.args.holder c.args.seat.now.me c.requires.has.1

pub returns-in-Err-clause-err : goal.returns-in-Err-clause-err
returns-in-Err-clause-err c = λ before has. one-refused before c.args.k c.args.holder c.args.seat.now.me has c.put.new.seat.me c.put.ensures.put

pub own-requires-clause-plans : goal.own-requires-clause-plans
own-requires-clause-plans c =
    let script = c.args.script.now in let state = state_in script c.in-Some.task in let lines = script_lines script in
    let is = ap (λ (h : Holder). h.task) (sym c.get.ensures) ∙ c.in-Some.is in
    let full = full-of script c.args.self.now.longest c.args.holder.task c.args.full c.in-Some.task c.requires.plans is in
    let plans = ap (turn_of lines (simple_of state.items)) (sym c.in-Ok-Step.field-0-is) ∙ c.in-Ok-Step.ensures ∙ full.plans in
    record {
      task = c.in-Some.task;
      is = is;
      can_go = (full.at, turn_afforded (program_of script c.args.self.now.longest) lines state (turn.Step c.in-Ok-Step.onward) c.in-Some.task.cleared plans);
      plans = sym plans;
    }

pub own-requires-in-Ok-Own-clause-plans : goal.own-requires-in-Ok-Own-clause-plans
own-requires-in-Ok-Own-clause-plans c =
    let script = c.args.script.now in let state = state_in script c.in-Some.task in let lines = script_lines script in
    let is = ap (λ (h : Holder). h.task) (sym c.get.ensures) ∙ c.in-Some.is in
    let full = full-of script c.args.self.now.longest c.args.holder.task c.args.full c.in-Some.task c.requires.plans is in
    let plans = ap (turn_of lines (simple_of state.items)) (sym c.in-Ok-Own.field-0-is) ∙ c.in-Ok-Own.ensures ∙ full.plans in
    record {
      task = c.in-Some.task;
      is = is;
      can_go = (full.at, turn_afforded (program_of script c.args.self.now.longest) lines state (turn.Own c.in-Ok-Own.act c.in-Ok-Own.reply c.in-Ok-Own.onward) c.in-Some.task.cleared plans);
      plans = sym plans;
    }

pub visit-requires-clause-plans : goal.visit-requires-clause-plans
visit-requires-clause-plans c =
    let script = c.args.script.now in let state = state_in script c.in-Some.task in let lines = script_lines script in
    let is = ap (λ (h : Holder). h.task) (sym c.get.ensures) ∙ c.in-Some.is in
    let full = full-of script c.args.self.now.longest c.args.holder.task c.args.full c.in-Some.task c.requires.plans is in
    record {
      task = c.in-Some.task;
      is = is;
      at = full.at;
      target = target_of c.in-Ok-Visit.target;
      number = sym c.number-n.ensures;
      plans = sym (ap (turn_of lines (simple_of state.items)) (sym c.in-Ok-Visit.field-0-is) ∙ c.in-Ok-Visit.ensures ∙ full.plans);
    }
