use Rattle.std.proofs.Common.{◌∙◌, sym, subst}
use Rattle.lio_syntax.specs.Lines.{script_lines}
use Rattle.lio_calculus.specs.Afforded.{Affords}
use Rattle.lio_calculus.specs.Going.{gone_on}
use Rattle.lio_task_turns.specs.declared.turn.Onward.{Onward}
use Rattle.lio_task_plan.specs.declared.plan.Plan.TheVariants as planned
use Rattle.lio_task_plan.specs.Planned.{IsPlanned, simple_of}
use Rattle.lio_task_plan.specs.Leads.{LeadsOn}
use Rattle.lio_task_plan.proofs.LeadsLemmas.{full_at}
use Rattle.lio_task_turns.specs.Turns.{onward_of}
use Rattle.lio_task_turns.specs.StateOf.{program_of}
use Rattle.lio_task.specs.StateOf.{state_in}
use Rattle.lio_task.proofs.PlannedLemmas.{planned_resumes, turn_afforded}
use Rattle.lio_task.proofs.task.Task.resume.Goals as goal

pub go-requires : goal.go-requires
go-requires c =
    let script = c.args.script.now in let state = state_in script c.args.self.now in let lines = script_lines script in let program = program_of script c.args.longest in (
      full_at state.items c.in-Full.full (subst (LeadsOn state.items) c.in-Full.is c.plan.ensures.leads),
      subst (λ (onward : Onward). Affords state (onward_of lines (simple_of state.items) onward)) (sym c.onward.ensures)
          (turn_afforded program lines state c.in_ok-turn-in-Full.turn c.args.self.now.cleared (c.in_ok-turn-in-Full.ensures ∙ subst (IsPlanned program state) c.in-Full.is (c.plan.ensures.plan c.args.longest))),
    )

pub returns-in-Ends-clause-ok : goal.returns-in-Ends-clause-ok
unfolding gone_on
returns-in-Ends-clause-ok c =
    let script = c.args.script.now in let state = state_in script c.args.self.now in let program = program_of script c.args.longest in
    planned_resumes program state (state_in script c.go_to_end.new.self) c.args.act.now c.args.reply.now (planned.Ends c.in-Ends.field-0)
    (subst (IsPlanned program state) c.in-Ends.is (c.plan.ensures.plan c.args.longest)) c.go_to_end.ensures
