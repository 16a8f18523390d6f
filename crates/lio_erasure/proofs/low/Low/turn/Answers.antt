use Rattle.std.proofs.Common.{◌≡◌, ◌∙◌, refl, sym, ap, None, Some}
use Rattle.std.proofs.lemmas.Result.{IfErr-weaker, IfOk-weaker, on_err_weaker}
use Rattle.lio_calculus.specs.Plan.{plan}
use Rattle.lio_task_turns.specs.StateOf.{program_of}
use Rattle.lio_task.proofs.MoveLemmas.{no-task-still, over-still}
use Rattle.lio_task.specs.declared.next.Next.TheVariants as next
use Rattle.lio_task.specs.Next.{next_by}
use Rattle.lio_task.specs.StateOf.{state_in}
use Rattle.lio_erasure.specs.Low.{low_configuration_of, low_task_in}
use Rattle.lio_erasure.specs.LowParts.{LowParts, low_of}
use Rattle.lio_erasure.specs.Turn.{Moves, PlansVisit}
use Rattle.lio_erasure.proofs.HolderLemmas.{task-low}
use Rattle.lio_erasure.proofs.TurnLemmas.{next-over, next-own, next-visit, visit-turn}
use Rattle.lio_erasure.proofs.low.Low.turn.Goals as goal

pub returns-in_default-clause-fault : goal.returns-in_default-clause-fault
returns-in_default-clause-fault c =
    let parts = c.args.self.now in (
      refl,
      no-task-still (low_configuration_of parts.script parts.longest parts.holders) c.args.k
          (task-low parts.script parts.longest parts.holders c.args.k None (sym (c.in_default.ensures ∙ ap (λ (p : LowParts). low_task_in p.holders c.args.k) c.self.view_is))),
    )

pub release-requires-clause-plans : goal.release-requires-clause-plans
release-requires-clause-plans c =
    let parts = c.args.self.now in
    let task = c.in-Some.task.now in
    let is : next_by (plan (program_of parts.script parts.longest) (state_in parts.script task)) ≡ next.Own c.in-Own.act c.in-Own.reply =
    sym (c.in_ok-next.ensures ∙ ap (λ (p : LowParts). next_by (plan (program_of p.script p.longest) (state_in p.script task))) c.self.view_is) ∙ c.in-Own.is in
    let (onward, plans) = next-own (plan (program_of parts.script parts.longest) (state_in parts.script task)) c.in-Own.act c.in-Own.reply is in
    record { task = task; is = sym (c.in-Some.ensures ∙ ap (λ (p : LowParts). low_task_in p.holders c.args.k) c.self.view_is); onward = onward; plans = plans }

pub release-requires-clause-pure : goal.release-requires-clause-pure
release-requires-clause-pure c = c.requires

pub visit-requires : goal.visit-requires
visit-requires c =
    let parts = c.args.self.now in
    let task = c.in-Some.task.now in
    let is : next_by (plan (program_of parts.script parts.longest) (state_in parts.script task)) ≡ next.Visit c.in-Visit.act c.in-Visit.n =
    sym (c.in_ok-next.ensures ∙ ap (λ (p : LowParts). next_by (plan (program_of p.script p.longest) (state_in p.script task))) c.self.view_is) ∙ c.in-Visit.is in
    let (target, onward, plans, number) = next-visit (plan (program_of parts.script parts.longest) (state_in parts.script task)) c.in-Visit.act c.in-Visit.n is in
    record { task = task; is = sym (c.in-Some.ensures ∙ ap (λ (p : LowParts). low_task_in p.holders c.args.k) c.self.view_is); target = target; onward = onward; plans = plans; number = number }

pub returns-in-Over-clause-fault : goal.returns-in-Over-clause-fault
returns-in-Over-clause-fault c =
    let parts = c.args.self.now in
    let task = c.in-Some.task.now in
    let is : next_by (plan (program_of parts.script parts.longest) (state_in parts.script task)) ≡ next.Over =
    sym (c.in_ok-next.ensures ∙ ap (λ (p : LowParts). next_by (plan (program_of p.script p.longest) (state_in p.script task))) c.self.view_is) ∙ c.in-Over.is in (
      refl,
      over-still (low_configuration_of parts.script parts.longest parts.holders) c.args.k (state_in parts.script task)
          (task-low parts.script parts.longest parts.holders c.args.k (Some task) (sym (c.in-Some.ensures ∙ ap (λ (p : LowParts). low_task_in p.holders c.args.k) c.self.view_is)))
          (next-over (plan (program_of parts.script parts.longest) (state_in parts.script task)) is),
    )

visits : (c : goal.After-visit) → PlansVisit c.args.self.now c.args.k c.in-Visit.act c.in-Visit.n
visits c =
    let parts = c.args.self.now in
    let task = c.in-Some.task.now in
    let is : next_by (plan (program_of parts.script parts.longest) (state_in parts.script task)) ≡ next.Visit c.in-Visit.act c.in-Visit.n =
    sym (c.in_ok-next.ensures ∙ ap (λ (p : LowParts). next_by (plan (program_of p.script p.longest) (state_in p.script task))) c.self.view_is) ∙ c.in-Visit.is in
    let (target, onward, plans, number) = next-visit (plan (program_of parts.script parts.longest) (state_in parts.script task)) c.in-Visit.act c.in-Visit.n is in
    record { task = task; is = sym (c.in-Some.ensures ∙ ap (λ (p : LowParts). low_task_in p.holders c.args.k) c.self.view_is); target = target; onward = onward; plans = plans; number = number }

pub returns-in-Visit-clause-ok : goal.returns-in-Visit-clause-ok
returns-in-Visit-clause-ok c =
    IfOk-weaker c.visit.result (Moves (low_of c.args.self.now) (low_of c.visit.new.self) c.args.k c.in-Visit.act) _
    (λ entry m. visit-turn c.args.self.now (low_of c.visit.new.self) c.args.k c.in-Visit.n c.in-Visit.act entry c.args.releases.now (visits c) m) c.visit.ensures.ok

pub returns-in-Visit-clause-fault : goal.returns-in-Visit-clause-fault
returns-in-Visit-clause-fault c = IfErr-weaker c.visit.result _ _ (λ fault stays. stays c.args.releases.now) c.visit.ensures.fault

pub returns-in-Visit-clause-err : goal.returns-in-Visit-clause-err
returns-in-Visit-clause-err c = on_err_weaker c.visit.result (λ same. (same, refl)) c.visit.ensures.err
