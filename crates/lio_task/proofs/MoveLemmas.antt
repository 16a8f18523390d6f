-- The moves of tasks, and the steps that they make.
use Rattle.std.proofs.Common.{◌≡◌, ◌∙◌, refl, sym, ap, subst, ℕ, ◌+◌, ◌<◌, ◌^◌, Bool, true, false, true≢false, not, ◌&&◌, if◌then◌else◌, nat_lt, List, length, get_or, Option, Some, None, option_and_then, is_some, arith}
use Rattle.std.specs.Option.{option_map}
use Rattle.std.proofs.lemmas.Bool.Decides.{nat_tests}
use Rattle.lio_values.specs.declared.act.Act.{Act}
use Rattle.lio_values.specs.declared.act.Act.TheVariants as act
use Rattle.lio_cells.specs.declared.state.State.{State}
use Rattle.lio_cells.specs.declared.state.State.TheVariants.{Absent}
use Rattle.lio_cells.specs.State.{ready as is_ready, answer}
use Rattle.lio_syntax.specs.Statements.{Procedure}
use Rattle.lio_calculus.specs.Task.{TaskState}
use Rattle.lio_calculus.specs.Going as going
use Rattle.lio_calculus.specs.Plan.{Over, Program, Target, Visit, plan}
use Rattle.lio_calculus.specs.Step.{Configuration, Move, Turn, after, can, cell_at, entry_of, is_met, met, move_of, number_of, step, turn_of, visit, waits}
use Rattle.lio_calculus.specs.Sound.{IsTaskOf}
use Rattle.lio_calculus.specs.Afforded.{AffordsAct}
use Rattle.lio_calculus.specs.Meeting.{MeetsNode}
use Rattle.lio_task.specs.declared.config.Config.{Config}
use Rattle.lio_task.specs.declared.config.Holder.{Holder}
use Rattle.lio_task.specs.Births.{CanBear}
use Rattle.lio_task.specs.Configuration.{cell_of, configuration_of}
use Rattle.lio_task.proofs.HolderLemmas.{cell_at-configuration_of, cells-length}

-- a task that isn't there, or has no move, can't take a turn
pub no-task-still : (c : Configuration) (k : ℕ) → (cell_at c k).task ≡ None → can c k ≡ false
unfolding step
no-task-still c k e = ap (λ (t : Option TaskState). is_some (option_and_then (turn_of 0 c k) t)) e

pub no-move-still : (c : Configuration) (k : ℕ) (task : TaskState) → IsTaskOf c k task → move_of (cell_at c) (plan c.program task) ≡ None → can c k ≡ false
unfolding step
no-move-still c k task there none =
    ap (λ (t : Option TaskState). is_some (option_and_then (turn_of 0 c k) t)) there
    ∙ ap (λ (m : Option Move). is_some (option_map (λ (move : Move). let turn : Turn = record { entry = entry_of 0 k task move; next = after c k task move } in turn) m)) none

-- what a task can go by that an ended one can't
pub over-still : (c : Configuration) (k : ℕ) (task : TaskState) → IsTaskOf c k task → Over ≡ plan c.program task → can c k ≡ false
over-still c k task there e = no-move-still c k task there (ap (move_of (cell_at c)) (sym e))

-- a visit of a node that is ready, and one that waits
pub visit-ready : (asked : Act) (target : Target) (onward : going.Onward) (state : State) → is_ready state asked ≡ true → visit asked target onward state ≡ Some (record { act = asked; target = Some target; reply = answer state asked; onward = onward })
visit-ready asked target onward state e = by (waits asked) (is_ready state asked) (record { act = asked; target = Some target; reply = answer state asked; onward = onward }) e
  where
    by : (waiting ready : Bool) (move : Move) → ready ≡ true → (if waiting && not ready then None else Some move) ≡ Some move
    by true true move e = refl
    by true false move e = absurd (true≢false (sym e))
    by false ready move e = refl

pub visit-waits : (asked : Act) (target : Target) (onward : going.Onward) (state : State) → waits asked ≡ true → is_ready state asked ≡ false → visit asked target onward state ≡ None
visit-waits asked target onward state w e = by (waits asked) (is_ready state asked) (record { act = asked; target = Some target; reply = answer state asked; onward = onward }) w e
  where
    by : (waiting ready : Bool) (move : Move) → waiting ≡ true → ready ≡ false → (if waiting && not ready then None else Some move) ≡ None
    by true true move w e = absurd (true≢false e)
    by true false move w e = refl
    by false ready move w e = absurd (true≢false (sym w))

met-there : (target : Target) (state : State) → is_met target state ≡ true → met target state ≡ state
met-there target state e = ap (λ (b : Bool). if b then state else Absent) e

-- the move of a plan that meets a node
pub visit-moves : (c : Configuration) (task : TaskState) (asked : Act) (target : Target) (onward : going.Onward) → plan c.program task ≡ Visit asked target onward → is_met target (cell_at c (number_of target)).state ≡ true
    → move_of (cell_at c) (plan c.program task) ≡ visit asked target onward (cell_at c (number_of target)).state
visit-moves c task asked target onward plans there = ap (move_of (cell_at c)) plans ∙ ap (visit asked target onward) (met-there target (cell_at c (number_of target)).state there)

-- a visit of a node that isn't ready waits
pub waits-still : (c : Configuration) (k : ℕ) (task : TaskState) (asked : Act) (target : Target) (onward : going.Onward) → IsTaskOf c k task → plan c.program task ≡ Visit asked target onward → MeetsNode c k asked target
    → is_ready (cell_at c (number_of target)).state asked ≡ false → can c k ≡ false
waits-still c k task asked target onward is plans meets unready =
    no-move-still c k task is
    (visit-moves c task asked target onward plans meets.met ∙ visit-waits asked target onward (cell_at c (number_of target)).state (waiting (waits asked) meets.ready) unready)
  where
    waiting : (w : Bool) → (w ≡ false → is_ready (cell_at c (number_of target)).state asked ≡ true) → w ≡ true
    waiting true h = refl
    waiting false h = absurd (true≢false (sym (h refl) ∙ unready))

-- a child of a task that affords its birth
pub act-bears : (program : Program) (task : TaskState) (asked : Act) → task.first + task.cells < 2 ^ 31 → AffordsAct program task asked → CanBear program.procedures task.label asked
act-bears program task (act.Fork birth) few affords = record { procedure = affords.procedure; range = omega (arith, few, affords.range); cleared = affords.cleared }
act-bears program task (act.Spawn birth) few affords = record { procedure = affords.procedure; range = omega (arith, few, affords.range); cleared = affords.cleared }
act-bears program task asked few affords = tt

-- a holder where it was found, and one that wasn't found
pub found-cell : (script : List Procedure) (config : Config) (n number : ℕ) (holders : List Holder) (holder : Holder) → holders ≡ config.holders.items → n ≡ number → true ≡ nat_lt n (length holders) → holder ≡ get_or holders n holder
    → cell_at (configuration_of script config) number ≡ cell_of script holder
found-cell script config n number holders holder here same within is =
    ap (cell_at (configuration_of script config)) (sym same)
    ∙ cell_at-configuration_of script config n holder (subst (λ (hs : List Holder). n < length hs) here (lt-tells n (length holders) within)) (is ∙ ap (λ (hs : List Holder). get_or hs n holder) here)
  where
    lt-tells : (i j : ℕ) → true ≡ nat_lt i j → i < j
    lt-tells i j e = grind (arith, nat_tests)

pub not-missing : (script : List Procedure) (config : Config) (n number : ℕ) (holders : List Holder) → holders ≡ config.holders.items → n ≡ number → number < length (configuration_of script config).cells → false ≡ nat_lt n (length holders) → ⊥
not-missing script config n number holders here same within beyond =
    fails n (length holders) beyond (subst (λ (i : ℕ). i < length holders) (sym same) (subst (λ (hs : List Holder). number < length hs) (sym here) (subst (λ (l : ℕ). number < l) (cells-length script config) within)))
  where
    fails : (i j : ℕ) → false ≡ nat_lt i j → i < j → ⊥
    fails i j e h = grind (arith, nat_tests)
