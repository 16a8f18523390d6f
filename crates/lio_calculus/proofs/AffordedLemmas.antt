-- A task whose label flows to its clearance affords the plan of its next turn.
use Rattle.std.proofs.Common.{◌≡◌, ◌∙◌, refl, sym, ap, ℕ, ◌+◌, ◌<◌, ◌≤◌, IsTrue, List, ◌∷◌, length, Some, arith}
use Rattle.std.specs.Prelude.{bytes_eq}
use Rattle.lio_labels.specs.Flow.{flows}
use Rattle.lio_values.specs.declared.act.Op.TheVariants as op
use Rattle.lio_syntax_lines.specs.declared.line.Simple.{Simple}
use Rattle.lio_syntax.specs.Statements.{Procedure}
use Rattle.lio_syntax.specs.Statements as statement
use Rattle.lio_syntax.proofs.BeginningLemmas.{position_from-within}
use Rattle.lio_guards.proofs.GuardLemmas.{current_flows_to_written, label_flows_to_clearance, current_flows_to_lowered, exposed_flows_to_clearance}
use Rattle.lio_syntax.specs.Items.{Item, Do, rest_of}
use Rattle.lio_calculus.specs.Task.{TaskState}
use Rattle.lio_calculus.specs.Plan.{Program, Plan, procedure_at}
use Rattle.lio_calculus.specs.Afforded.{AffordsPlan, PlanAfforded}
use Rattle.lio_calculus.proofs.Outcome.{Reads, Outcome}
use Rattle.lio_calculus.proofs.Outcome as out
use Rattle.lio_calculus.proofs.PlanCases.{ItemsCase, Does, Visits, plan-by}

-- the place of a procedure is below their count
place-within : (program : Program) (name : List ℕ) (place : ℕ) → procedure_at program name ≡ Some place → place < length program.procedures
place-within program name place e = omega (arith, position_from-within (λ (procedure : Procedure). bytes_eq name procedure.name) 0 program.procedures place e)

-- the range of a child lies in its parent's, behind its own number
range-within : (first cells count : ℕ) → cells + 1 ≤ count → first + 1 + cells ≤ first + count
range-within first cells count room = omega (arith, room)

taken-within : (cells count : ℕ) → cells + 1 ≤ count → 1 + cells ≤ count
taken-within cells count room = omega (arith, room)

-- the first item stands in front
in-front : (task : TaskState) (item : Item) (items : List Item) → task.items ≡ item ∷ items → task.items ≡ item ∷ rest_of task.items
in-front task item items is = is ∙ ap (λ (rest : List Item). item ∷ rest) (sym (ap rest_of is))

-- the cases of a plan, whose first item stands in front
module _ (program : Program) (task : TaskState) (below : IsTrue (flows task.label task.clearance)) where
  outcome-affords : {s : Simple} {p : Plan} → task.items ≡ Do (statement.Do s) ∷ rest_of task.items → Outcome program task s p → AffordsPlan program task p
  outcome-affords front (out.Unlabels e f) = label_flows_to_clearance op.Unlabel task.label task.clearance _ _ below f
  outcome-affords front (out.Exposes asks e f) = exposed_flows_to_clearance task.label task.clearance _ _ _ f
  outcome-affords front (out.Taints e f) = label_flows_to_clearance op.Taint task.label task.clearance _ _ below f
  outcome-affords front (out.Lowers e f) = current_flows_to_lowered task.label task.clearance _ _ f
  outcome-affords front (out.IsRaised {o = o} r e) = (label_flows_to_clearance o task.label task.clearance _ _ below e, front)
  outcome-affords front (out.MakesReference asks e room) = (room, tt, (refl, refl))
  outcome-affords front (out.MakesVariable asks e room) = (room, tt, (refl, refl))
  outcome-affords front (out.MakesChild {p = name} {cells = cells} {place = place} asks e f room enough) = (
    taken-within cells task.cells room,
    record {
      procedure = place-within program name place e;
      range = range-within task.first cells task.cells room;
      cleared = current_flows_to_written op.Fork task.label task.clearance _ _ refl f;
    },
    (refl, refl),
  )
  outcome-affords front (out.MakesOrphan {p = name} {cells = cells} {place = place} asks e room enough) =
      (taken-within cells task.cells room, record { procedure = place-within program name place e; range = range-within task.first cells task.cells room; cleared = below }, (refl, refl))
  outcome-affords front (out.Writes e f g) = (tt, tt, refl)
  outcome-affords front (out.Sends e f g) = (tt, tt, refl)
  outcome-affords front o = tt

  items-affords : {items : List Item} {p : Plan} → task.items ≡ items → ItemsCase program task items p → AffordsPlan program task p
  items-affords is (Does o) = outcome-affords (in-front task _ _ is) o
  items-affords is (Visits (Reads e)) = (tt, tt, refl)
  items-affords is (Visits r) = (tt, tt, refl)
  items-affords is o = tt

-- the plan of a task
pub plan_affords : PlanAfforded
plan_affords program task below = plan-by (AffordsPlan program task) program task tt tt (λ p going o. items-affords program task below refl o)
