use Rattle.std.proofs.Common.{◌∙◌, sym, ap, subst}
use Rattle.lio_values.specs.declared.act.Act.{Act}
use Rattle.lio_values.specs.declared.act.Reply.TheVariants.{Done}
use Rattle.lio_calculus.specs.Going.{End}
use Rattle.lio_calculus.specs.Plan.{Own}
use Rattle.lio_task_plan.specs.Planned.{IsPlanned}
use Rattle.lio_task_plan.specs.Leads.{LeadsOn}
use Rattle.lio_task_turns.specs.StateOf.{program_of}
use Rattle.lio_task.specs.StateOf.{state_in}
use Rattle.lio_task.specs.declared.config.Holder.{Holder}
use Rattle.lio_table.proofs.AnswerLemmas.{none-over, one-refused, over-here}
use Rattle.lio_table.proofs.EndLemmas.{one-can_put}
use Rattle.lio_table.proofs.table.Table.go_on.Goals as goal

pub put-requires-clause-can_put : goal.put-requires-clause-can_put
put-requires-clause-can_put c = one-can_put c.requires.has.0 c.args.k c.args.holder c.args.seat.now.me c.requires.has.1

pub returns-in_default-clause-ok : goal.returns-in_default-clause-ok
returns-in_default-clause-ok c = λ before has.
    none-over before c.args.k c.args.holder c.args.seat.now.me has c.put.new.seat.me (ap (λ (h : Holder). h.task) (sym c.get.ensures) ∙ c.in_default.is) c.put.ensures.put

pub put-requires-in-Over-clause-can_put : goal.put-requires-in-Over-clause-can_put
put-requires-in-Over-clause-can_put c = one-can_put c.requires.has.0 c.args.k c.args.holder c.args.seat.now.me c.requires.has.1

pub returns-in-Over-clause-ok : goal.returns-in-Over-clause-ok
returns-in-Over-clause-ok c = λ before has.
    let script = c.args.script.now in let state = state_in script c.in-Some.task in
    over-here before c.args.k c.args.holder c.args.seat.now.me has c.args.self.now script c.in-Some.task c.put-in-Over.new.seat.me c.requires.turn.first c.requires.turn.script_is (ap (λ (h : Holder). h.task) (sym c.get.ensures) ∙ c.in-Some.is)
    (subst (IsPlanned (program_of script c.args.self.now.longest) state) c.in-Over.is (c.plan.ensures.plan c.args.self.now.longest)) c.put-in-Over.ensures.put

pub own-requires-clause-plans : goal.own-requires-clause-plans
own-requires-clause-plans c =
    let script = c.args.script.now in let state = state_in script c.in-Some.task in
    record {
      task = c.in-Some.task;
      is = ap (λ (h : Holder). h.task) (sym c.get.ensures) ∙ c.in-Some.is;
      can_go = subst (LeadsOn state.items) c.in-Short.is c.plan.ensures.leads;
      plans = sym (subst (IsPlanned (program_of script c.args.self.now.longest) state) c.in-Short.is (c.plan.ensures.plan c.args.self.now.longest));
    }

pub own-requires-in-Ok-clause-plans : goal.own-requires-in-Ok-clause-plans
own-requires-in-Ok-clause-plans c =
    let script = c.args.script.now in let state = state_in script c.in-Some.task in
    record {
      task = c.in-Some.task;
      is = ap (λ (h : Holder). h.task) (sym c.get.ensures) ∙ c.in-Some.is;
      can_go = tt;
      plans = sym (subst (IsPlanned (program_of script c.args.self.now.longest) state) c.in-Ends.is (c.plan.ensures.plan c.args.self.now.longest)) ∙ ap (λ (asked : Act). Own asked Done End) (sym c.in-Ok.ensures);
    }

pub put-requires-in-Err-clause-can_put : goal.put-requires-in-Err-clause-can_put
put-requires-in-Err-clause-can_put c = one-can_put c.requires.has.0 c.args.k c.args.holder c.args.seat.now.me c.requires.has.1

pub returns-in-Err-clause-err : goal.returns-in-Err-clause-err
returns-in-Err-clause-err c = λ before has. one-refused before c.args.k c.args.holder c.args.seat.now.me has c.put-in-Err.new.seat.me c.put-in-Err.ensures.put

pub full-requires-clause-plans : goal.full-requires-clause-plans
full-requires-clause-plans c =
    let script = c.args.script.now in let state = state_in script c.in-Some.task in
    record {
      task = c.in-Some.task;
      is = ap (λ (h : Holder). h.task) (sym c.get.ensures) ∙ c.in-Some.is;
      leads = subst (LeadsOn state.items) c.in-Full.is c.plan.ensures.leads;
      plans = sym (subst (IsPlanned (program_of script c.args.self.now.longest) state) c.in-Full.is (c.plan.ensures.plan c.args.self.now.longest));
    }
