-- A release or an exposure that is carried out passed its test: the source flows to the target with the privilege.
use Rattle.std.proofs.Common.{◌≡◌, ◌∙◌, ap, subst, ℕ, List, Some}
use Rattle.lio_values.specs.declared.act.Act.{Act}
use Rattle.lio_values.specs.declared.act.Act.TheVariants as act
use Rattle.lio_values.specs.declared.act.Reply.{Reply}
use Rattle.lio_values.specs.declared.act.Reply.TheVariants.{Done, Got, Told, Refused}
use Rattle.lio_guards.proofs.GuardLemmas.{source_flows_with_privilege, exposed_flows_with_privilege}
use Rattle.lio_syntax.specs.Items.{Item}
use Rattle.lio_calculus.specs.Task.{TaskState}
use Rattle.lio_calculus.specs.Plan.{Program, Plan, Over, Own, Visit, plan}
use Rattle.lio_calculus.specs.Step.{Configuration, cell_at, Move, move_of, Turn, step}
use Rattle.lio_calculus.specs.Guarded.{IsNoRelease, IsGuarded}
use Rattle.lio_calculus.specs.Sound.{IsSound}
use Rattle.lio_calculus.proofs.Outcome as out
use Rattle.lio_calculus.proofs.PlanCases.{ItemsCase, Does, plan-by}
use Rattle.lio_calculus.proofs.StepGuarded.{turn-guarded}
use Rattle.lio_calculus.proofs.TurnParts.{parts, own-moves, visit-moves, over-moves}
use Rattle.lio_calculus_runs.specs.Given.{FlowsByPower}

-- what a plan releases where it is carried out
abbrev ReplyFlows : Reply → Act → Type 0
ReplyFlows Done asked = FlowsByPower asked
ReplyFlows (Got value) asked = Unit {0}
ReplyFlows (Told content) asked = Unit {0}
ReplyFlows (Refused fault) asked = Unit {0}

abbrev PlanFlows : Plan → Type 0
PlanFlows Over = Unit {0}
PlanFlows (Own asked reply onward) = ReplyFlows reply asked
PlanFlows (Visit asked target onward) = Unit {0}

items-flow : {program : Program} {items : List Item} {p : Plan} (task : TaskState) → ItemsCase program task items p → PlanFlows p
items-flow task (Does (out.Releases asks e f)) = source_flows_with_privilege task.label task.clearance _ _ _ _ f
items-flow task (Does (out.Exposes asks e f)) = exposed_flows_with_privilege task.label task.clearance _ _ _ f
items-flow task o = tt

plan-flows : (program : Program) (task : TaskState) → PlanFlows (plan program task)
plan-flows program task = plan-by PlanFlows program task tt tt (λ p going o. items-flow task o)

-- a visit releases nothing
quiet-flows : (asked : Act) → IsNoRelease asked → FlowsByPower asked
quiet-flows (act.Release source target power content) quiet = absurd quiet
quiet-flows (act.Expose source target power content) quiet = absurd quiet
quiet-flows asked quiet = tt

move-flows : (c : Configuration) (k : ℕ) (task : TaskState) (p : Plan) (move : Move) → IsGuarded c k task p → PlanFlows p → move_of (cell_at c) p ≡ Some move → move.reply ≡ Done → FlowsByPower move.act
move-flows c k task Over move guarded flows moves done = absurd (over-moves c move moves)
move-flows c k task (Own asked reply onward) move guarded flows moves done =
    let same = own-moves c asked reply onward move moves in
    subst (λ (m : Move). FlowsByPower m.act) same (subst (λ (r : Reply). ReplyFlows r asked) (ap (λ (m : Move). m.reply) same ∙ done) flows)
move-flows c k task (Visit asked target onward) move guarded flows moves done =
    subst (λ (m : Move). FlowsByPower m.act) (visit-moves c asked target onward move moves) (quiet-flows asked guarded.quiet)

-- a turn
pub turn-flows : (ticket : ℕ) (c : Configuration) (k : ℕ) (turn : Turn) → IsSound c → step ticket c k ≡ Some turn → turn.entry.reply ≡ Done → FlowsByPower turn.entry.act
turn-flows ticket c k turn sound steps done =
    let p = parts ticket c k turn steps in
    subst (λ (t : Turn). FlowsByPower t.entry.act) p.made
    (move-flows c k p.task (plan c.program p.task) p.move (turn-guarded ticket c k p.task turn sound p.is steps) (plan-flows c.program p.task) p.moves (ap (λ (t : Turn). t.entry.reply) p.made ∙ done))
