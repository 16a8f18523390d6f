-- A task whose plan is that it is over has ended.
use Rattle.std.proofs.Common.{◌≡◌, refl, subst, sym, ◌==◌, Bool, true, false, if◌then◌else◌, List}
use Rattle.lio_values.specs.declared.fault.FaultKind.TheVariants.{NoTurns}
use Rattle.lio_values.specs.declared.value.Content.TheVariants.{Faulted}
use Rattle.lio_syntax_lines.specs.declared.line.Simple.{Simple}
use Rattle.lio_syntax.specs.Items.{Item}
use Rattle.lio_calculus.specs.Plan.{Over, Own, Plan, Program, Visit, ending, fault_at, plan, plan_items}
use Rattle.lio_calculus.specs.Task.{TaskState}
use Rattle.lio_calculus.proofs.Outcome.{Outcome}
use Rattle.lio_calculus.proofs.Outcome as out
use Rattle.lio_calculus.proofs.PlanCases.{Does, ItemsCase, items-case}

-- a plan in which the task goes on
abbrev GoesOn : Plan → Type 0
GoesOn Over = ⊥
GoesOn (Own asked reply onward) = Unit {0}
GoesOn (Visit asked target onward) = Unit {0}

outcome-goes : {program : Program} {task : TaskState} {s : Simple} {p : Plan} → Outcome program task s p → GoesOn p
outcome-goes out.Mistyped = tt
outcome-goes o = tt

items-go : {program : Program} {task : TaskState} {items : List Item} {p : Plan} → ItemsCase program task items p → GoesOn p
items-go (Does o) = outcome-goes o
items-go o = tt

pub over-ended : (program : Program) (task : TaskState) → Over ≡ plan program task → task.ended ≡ true
unfolding plan
over-ended program task over = by task.ended (task.turns == 0) refl over
  where
    by : (ended none : Bool) → task.ended ≡ ended → Over ≡ (if ended then Over else (if none then ending (Faulted (fault_at task NoTurns)) else plan_items program task task.items)) → task.ended ≡ true
    by true none is over = is
    by false true is over = absurd (cc)
    by false false is over = absurd (subst GoesOn (sym over) (items-go (items-case program task task.items)))
