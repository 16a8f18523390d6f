use Rattle.std.proofs.Common.{◌∙◌, refl, sym, ap, subst}
use Rattle.std.specs.Option.{option_copied}
use Rattle.lio_values.specs.declared.act.Act.{Act}
use Rattle.lio_values.specs.declared.act.Reply.TheVariants.{Done}
use Rattle.lio_calculus.specs.Going.{End}
use Rattle.lio_calculus.specs.Plan.{Own}
use Rattle.lio_task_plan.specs.Planned.{IsPlanned}
use Rattle.lio_task_plan.specs.Leads.{LeadsOn}
use Rattle.lio_task_turns.specs.StateOf.{program_of}
use Rattle.lio_task.specs.StateOf.{state_in}
use Rattle.lio_task.specs.Configuration.{configuration_of}
use Rattle.lio_task.proofs.HolderLemmas.{no-task-cell, task-cell}
use Rattle.lio_task.proofs.MoveLemmas.{no-task-still, over-still}
use Rattle.lio_task.proofs.SoundLemmas.{take-sound}
use Rattle.lio_task.proofs.config.Config.take.Goals as goal

pub returns-in_default-clause-fault : goal.returns-in_default-clause-fault
returns-in_default-clause-fault c =
    (refl, no-task-still (configuration_of c.args.script.now c.args.self.now) c.args.k (no-task-cell c.args.script.now c.args.self.now c.args.k (sym c.task.ensures ∙ ap option_copied c.in_default.is)))

pub returns-in-Over-clause-fault : goal.returns-in-Over-clause-fault
returns-in-Over-clause-fault c =
    let script = c.args.script.now in let state = state_in script c.in-Some.task.now in (
      refl,
      over-still (configuration_of script c.args.self.now) c.args.k state (task-cell script c.args.self.now c.args.k c.in-Some.task.now (sym c.task.ensures ∙ ap option_copied c.in-Some.is))
          (subst (IsPlanned (program_of script c.args.self.now.longest) state) c.in-Over.is (c.plan.ensures.plan c.args.self.now.longest)),
    )

pub short_step-requires-clause-plans : goal.short_step-requires-clause-plans
short_step-requires-clause-plans c =
    let script = c.args.script.now in let state = state_in script c.in-Some.task.now in
    record {
      task = c.in-Some.task.now;
      is = sym c.task.ensures ∙ ap option_copied c.in-Some.is;
      can_go = subst (LeadsOn state.items) c.in-Short.is c.plan.ensures.leads;
      plans = sym (subst (IsPlanned (program_of script c.args.self.now.longest) state) c.in-Short.is (c.plan.ensures.plan c.args.self.now.longest));
    }

pub own-requires-clause-plans : goal.own-requires-clause-plans
own-requires-clause-plans c =
    let script = c.args.script.now in let state = state_in script c.in-Some.task.now in
    record {
      task = c.in-Some.task.now;
      is = sym c.task.ensures ∙ ap option_copied c.in-Some.is;
      can_go = tt;
      plans = sym (subst (IsPlanned (program_of script c.args.self.now.longest) state) c.in-Ends.is (c.plan.ensures.plan c.args.self.now.longest)) ∙ ap (λ (asked : Act). Own asked Done End) (sym c.in_ok-act-in-Ends.ensures);
    }

pub full-requires-clause-plans : goal.full-requires-clause-plans
full-requires-clause-plans c =
    let script = c.args.script.now in let state = state_in script c.in-Some.task.now in
    record {
      task = c.in-Some.task.now;
      is = sym c.task.ensures ∙ ap option_copied c.in-Some.is;
      leads = subst (LeadsOn state.items) c.in-Full.is c.plan.ensures.leads;
      plans = sym (subst (IsPlanned (program_of script c.args.self.now.longest) state) c.in-Full.is (c.plan.ensures.plan c.args.self.now.longest));
    }

pub returns-in-Short-clause-sound : goal.returns-in-Short-clause-sound
returns-in-Short-clause-sound c =
    let script = c.args.script.now in
    take-sound (configuration_of script c.args.self.now) (configuration_of script c.short_step.new.self) c.args.k c.args.ticket c.short_step.new.entry c.short_step.result c.requires.sound c.short_step.ensures.ok

pub returns-in_ok-act-in-Ends-clause-sound : goal.returns-in_ok-act-in-Ends-clause-sound
returns-in_ok-act-in-Ends-clause-sound c =
    let script = c.args.script.now in
    take-sound (configuration_of script c.args.self.now) (configuration_of script c.own.new.self) c.args.k c.args.ticket c.own.new.entry c.own.result c.requires.sound c.own.ensures.ok

pub returns-in-Full-clause-sound : goal.returns-in-Full-clause-sound
returns-in-Full-clause-sound c =
    let script = c.args.script.now in
    take-sound (configuration_of script c.args.self.now) (configuration_of script c.full.new.self) c.args.k c.args.ticket c.full.new.entry c.full.result c.requires.sound c.full.ensures.ok
