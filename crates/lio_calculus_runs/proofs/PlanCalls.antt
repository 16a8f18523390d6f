-- Each call fits that a plan of a task goes on with, where each in the task's items and in its program does.
use Rattle.std.proofs.Common.{◌≡◌, refl, ℕ, List, All, Option, Some, None}
use Rattle.std.specs.Prelude.{option_and_then, slice_get}
use Rattle.std.proofs.lemmas.List.Elements.{All-head}
use Rattle.lio_syntax.specs.Statements.{Procedure}
use Rattle.lio_syntax.specs.Items.{Item}
use Rattle.lio_calculus.specs.Task.{TaskState}
use Rattle.lio_calculus.specs.Going.{Onward, Enter, Repeat, Try, Call, RaiseTo}
use Rattle.lio_calculus.specs.Plan.{Program, Plan, Over, Own, Visit, procedure_at, plan}
use Rattle.lio_calculus.specs.Step.{body_of}
use Rattle.lio_calculus.proofs.Lists.{All-slice_get}
use Rattle.lio_calculus.proofs.Outcome.{Reads}
use Rattle.lio_calculus.proofs.Outcome as out
use Rattle.lio_calculus.proofs.PlanCases.{ItemsCase, Does, Enters, Chooses, ChoosesOther, Repeats, Tries, Visits, plan-by}
use Rattle.lio_calculus_runs.specs.Calls.{SimpleFits, StatementFits, BlockFits, ItemFits, ScriptFits}

-- each call that a task goes on with fits
abbrev pub OnwardFits : List Procedure → Onward → Type 0
OnwardFits script (Enter block) = BlockFits script block
OnwardFits script (Repeat condition block) = BlockFits script block
OnwardFits script (Try block code payload handler) = BlockFits script block × BlockFits script handler
OnwardFits script (Call name environment body) = BlockFits script body
OnwardFits script (RaiseTo label access) = SimpleFits script access
OnwardFits script onward = Unit {0}

-- and so with a plan
abbrev pub PlanFits : List Procedure → Plan → Type 0
PlanFits script Over = Unit {0}
PlanFits script (Own asked reply onward) = OnwardFits script onward
PlanFits script (Visit asked target onward) = OnwardFits script onward

-- the body of a procedure, if it is there
pub body-fits : (script : List Procedure) (n : ℕ) → ScriptFits script → BlockFits script (body_of (slice_get script n))
unfolding BlockFits
body-fits script n all = by (slice_get script n) refl
  where
    by : (o : Option Procedure) → slice_get script n ≡ o → BlockFits script (body_of o)
    by None e = tt
    by (Some procedure) e = All-slice_get (λ (p : Procedure). BlockFits script p.body) script n procedure all e

pub found-fits : (script : List Procedure) (place : Option ℕ) → ScriptFits script → BlockFits script (body_of (option_and_then (slice_get script) place))
unfolding BlockFits
found-fits script None all = tt
found-fits script (Some n) all = body-fits script n all

called-fits : (script : List Procedure) (place : Option ℕ) (procedure : Procedure) → ScriptFits script → option_and_then (slice_get script) place ≡ Some procedure → BlockFits script procedure.body
called-fits script None procedure all e = absurd (cc)
called-fits script (Some n) procedure all e = All-slice_get (λ (p : Procedure). BlockFits script p.body) script n procedure all e

-- the cases of a plan
items-fit : {items : List Item} {p : Plan} (program : Program) (task : TaskState) → ScriptFits program.procedures → All (ItemFits program.procedures) items → ItemsCase program task items p → PlanFits program.procedures p
unfolding StatementFits BlockFits
items-fit program task all fit (Does (out.Calls {p = name} e f g)) = called-fits program.procedures (procedure_at program name) _ all f
items-fit program task all fit (Does (out.IsRaised r e)) = All-head (ItemFits program.procedures) _ _ fit
items-fit program task all fit Enters = All-head (ItemFits program.procedures) _ _ fit
items-fit program task all fit Chooses = (All-head (ItemFits program.procedures) _ _ fit).0
items-fit program task all fit ChoosesOther = (All-head (ItemFits program.procedures) _ _ fit).1
items-fit program task all fit Repeats = All-head (ItemFits program.procedures) _ _ fit
items-fit program task all fit Tries = All-head (ItemFits program.procedures) _ _ fit
items-fit program task all fit (Visits (Reads e)) = tt
items-fit program task all fit (Visits r) = tt
items-fit program task all fit o = tt

-- the plan of a task
pub plan-fits : (program : Program) (task : TaskState) → ScriptFits program.procedures → All (ItemFits program.procedures) task.items → PlanFits program.procedures (plan program task)
plan-fits program task all fit = plan-by (PlanFits program.procedures) program task tt tt (λ p going o. items-fit program task all fit o)
