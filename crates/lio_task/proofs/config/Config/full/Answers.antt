use Rattle.std.proofs.Common.{◌∙◌, refl, sym, ap}
use Rattle.std.specs.Option.{option_copied}
use Rattle.lio_syntax.specs.Lines.{script_lines}
use Rattle.lio_task_turns.specs.declared.turn.Turn.TheVariants as turn
use Rattle.lio_task_turns.specs.Turns.{target_of, turn_of}
use Rattle.lio_task_turns.specs.StateOf.{program_of}
use Rattle.lio_task_plan.specs.Planned.{simple_of}
use Rattle.lio_task.specs.StateOf.{state_in}
use Rattle.lio_task.proofs.PlannedLemmas.{turn_afforded}
use Rattle.lio_task.specs.Configuration.{task_in}
use Rattle.lio_task.proofs.TurnLemmas.{full-of}
use Rattle.lio_task.proofs.config.Config.full.Goals as goal

pub planned-requires : goal.planned-requires
planned-requires c = (full-of c.args.script.now c.args.self.now.longest (task_in c.args.self.now c.args.k) c.args.full c.in-Some.task.now c.requires.plans (sym c.task.ensures ∙ ap option_copied c.in-Some.is)).leads

pub returns-then-not-can_go_on-clause-fault : goal.returns-then-not-can_go_on-clause-fault
returns-then-not-can_go_on-clause-fault c =
    (refl, sym (c.can_go_on.ensures c.args.script.now c.args.k c.requires.sound (sym c.task.ensures ∙ ap option_copied c.in-Some.is) c.status.ensures) ∙ c.if-not-can_go_on.true)

pub own_step-requires-clause-plans : goal.own_step-requires-clause-plans
own_step-requires-clause-plans c =
    let script = c.args.script.now in let state = state_in script c.in-Some.task.now in let lines = script_lines script in
    let is = sym c.task.ensures ∙ ap option_copied c.in-Some.is in
    let full = full-of script c.args.self.now.longest (task_in c.args.self.now c.args.k) c.args.full c.in-Some.task.now c.requires.plans is in
    let plans = ap (turn_of lines (simple_of state.items)) (sym c.in-Ok-Step.field-0-is) ∙ c.in-Ok-Step.ensures ∙ full.plans in
    record {
      task = c.in-Some.task.now;
      is = is;
      can_go = (full.at, turn_afforded (program_of script c.args.self.now.longest) lines state (turn.Step c.in-Ok-Step.onward) c.in-Some.task.now.cleared plans);
      plans = sym plans;
    }

pub own-requires-clause-plans : goal.own-requires-clause-plans
own-requires-clause-plans c =
    let script = c.args.script.now in let state = state_in script c.in-Some.task.now in let lines = script_lines script in
    let is = sym c.task.ensures ∙ ap option_copied c.in-Some.is in
    let full = full-of script c.args.self.now.longest (task_in c.args.self.now c.args.k) c.args.full c.in-Some.task.now c.requires.plans is in
    let plans = ap (turn_of lines (simple_of state.items)) (sym c.in-Ok-Own.field-0-is) ∙ c.in-Ok-Own.ensures ∙ full.plans in
    record {
      task = c.in-Some.task.now;
      is = is;
      can_go = (full.at, turn_afforded (program_of script c.args.self.now.longest) lines state (turn.Own c.in-Ok-Own.act c.in-Ok-Own.reply c.in-Ok-Own.onward) c.in-Some.task.now.cleared plans);
      plans = sym plans;
    }

pub visit-requires-clause-plans : goal.visit-requires-clause-plans
visit-requires-clause-plans c =
    let script = c.args.script.now in let state = state_in script c.in-Some.task.now in let lines = script_lines script in
    let is = sym c.task.ensures ∙ ap option_copied c.in-Some.is in
    let full = full-of script c.args.self.now.longest (task_in c.args.self.now c.args.k) c.args.full c.in-Some.task.now c.requires.plans is in
    record {
      task = c.in-Some.task.now;
      is = is;
      at = full.at;
      target = target_of c.in-Ok-Visit.target;
      number = refl;
      plans = sym (ap (turn_of lines (simple_of state.items)) (sym c.in-Ok-Visit.field-0-is) ∙ c.in-Ok-Visit.ensures ∙ full.plans);
    }

pub visit-requires-clause-can : goal.visit-requires-clause-can
visit-requires-clause-can c =
    sym (c.can_go_on.ensures c.args.script.now c.args.k c.requires.sound (sym c.task.ensures ∙ ap option_copied c.in-Some.is) c.status.ensures) ∙ c.if-not-can_go_on.false
