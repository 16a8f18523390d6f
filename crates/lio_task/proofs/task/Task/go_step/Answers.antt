use Rattle.std.proofs.Common.{◌≡◌, ◌∙◌, ◌-◌, sym, subst}
use Rattle.lio_values.specs.declared.value.Value.TheVariants.{Bare}
use Rattle.lio_values.specs.declared.value.Plain.TheVariants.{Unit as unit}
use Rattle.lio_syntax.specs.Throwing.{returned}
use Rattle.lio_calculus.specs.Going.{at}
use Rattle.lio_task_plan.specs.Leads.{Leads}
use Rattle.lio_task.specs.Goes.{Steps}
use Rattle.lio_task.specs.StateOf.{state_in}
use Rattle.lio_task.proofs.StepLemmas.{leave_on, ok_on, other_on}
use Rattle.lio_task.proofs.task.Task.go_step.Goals as goal

pub returns-in-Leave-clause-ok : goal.returns-in-Leave-clause-ok
returns-in-Leave-clause-ok c =
    let back = subst (Leads (state_in c.args.script.now c.args.self.now).items) c.in-Leave.is c.requires in
    ok_on (state_in c.args.script.now c.go_leave.new.self ≡ record (at (state_in c.args.script.now c.args.self.now) (returned (Bare unit) (state_in c.args.script.now c.args.self.now).environment (state_in c.args.script.now c.args.self.now).items)) { turns = (state_in c.args.script.now c.args.self.now).turns - 1 })
    (Steps c.args.script.now c.args.self.now c.go_leave.new.self c.args.control) c.go_leave.result
    (λ e. subst (Steps c.args.script.now c.args.self.now c.go_leave.new.self) (sym c.in-Leave.is)
    (λ asked reply. e ∙ leave_on (state_in c.args.script.now c.args.self.now) asked reply back)) c.go_leave.ensures.ok

pub returns-in-EnterOther-clause-ok : goal.returns-in-EnterOther-clause-ok
returns-in-EnterOther-clause-ok c =
    let here = subst (Leads (state_in c.args.script.now c.args.self.now).items) c.in-EnterOther.is c.requires in
    subst (Steps c.args.script.now c.args.self.now c.go_enter_other.new.self) (sym c.in-EnterOther.is)
    (λ asked reply. c.go_enter_other.ensures ∙ other_on (state_in c.args.script.now c.args.self.now) asked reply here)
