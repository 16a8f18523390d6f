-- The values in a configuration after a turn have what the values in it had, whichever configuration it was.
use Rattle.std.proofs.Common.{◌≡◌, refl, subst, ℕ, zero, suc, ◌-◌, Bool, true, false, if◌then◌else◌, List, [], ◌∷◌, All, Option, Some, None}
use Rattle.std.specs.Prelude.{slice_get}
use Rattle.std.specs.List.{slice_set, slice_index_or}
use Rattle.std.proofs.lemmas.List.Elements.{All-nil}
use Rattle.lio_labels.specs.declared.label.Label.{Label}
use Rattle.lio_values.specs.declared.value.Content.{Content}
use Rattle.lio_values.specs.declared.value.Value.{Value}
use Rattle.lio_values.specs.declared.value.Value.TheVariants.{Sealed}
use Rattle.lio_values.specs.declared.act.Act.{Act}
use Rattle.lio_values.specs.declared.act.Act.TheVariants as act
use Rattle.lio_values.specs.declared.act.Birth.{Birth}
use Rattle.lio_syntax_lines.specs.declared.line.Simple.{Simple}
use Rattle.lio_cells.specs.declared.state.State.{State}
use Rattle.lio_cells.specs.declared.state.State.TheVariants.{Absent, Ref, Var, Chan, Job}
use Rattle.lio_cells.specs.State.{placed, ended, state_after}
use Rattle.lio_syntax.specs.Items.{Item, rest_of}
use Rattle.lio_calculus.specs.Task.{TaskState}
use Rattle.lio_calculus.specs.Going.{Onward, gone_on}
use Rattle.lio_calculus.specs.Plan.{Program, Plan, Over, Own, Visit, Target, plan}
use Rattle.lio_calculus.specs.Step.{Cell, Configuration, blank, cell_at, with_cell, number_of, is_met, met, Move, move_of, body_of, parameters_of, child_of, born, task_after, met_after, actor_after, target_after, after}
use Rattle.lio_calculus.specs.Sound.{EachInItem, EachInTask, EachInState}
use Rattle.lio_calculus.proofs.Outcome.{Outcome}
use Rattle.lio_calculus.proofs.Outcome as out
use Rattle.lio_calculus.proofs.PlanCases.{ItemsCase, Does, Visits, plan-by}
use Rattle.lio_calculus.proofs.Closed.{IsClosed}
use Rattle.lio_calculus.proofs.PlanEach.{EachInOnward, EachInAct, EachInPlan, bind_all-each}
use Rattle.lio_calculus.proofs.PlanKept.{is_silent}
use Rattle.lio_calculus.proofs.PlacesKept.{enter-all, rest-all}
use Rattle.lio_calculus.proofs.GoneKept.{EachInReply, EachHandle, gone-each}
use Rattle.lio_calculus.proofs.NodeKept.{each-after, answer-each}
use Rattle.lio_calculus.proofs.ActorKept.{silent-each}
use Rattle.lio_calculus.proofs.TurnParts.{own-moves, visit-moves, over-moves}

-- a plan's own reply tells and gives nothing
abbrev PlanIsSilent : Plan → Type 0
PlanIsSilent Over = Unit {0}
PlanIsSilent (Own asked reply onward) = is_silent reply ≡ true
PlanIsSilent (Visit asked target onward) = Unit {0}

outcome-silent : {program : Program} {task : TaskState} {s : Simple} {p : Plan} → Outcome program task s p → PlanIsSilent p
outcome-silent (out.MakesReference asks e room) = tt
outcome-silent (out.MakesVariable asks e room) = tt
outcome-silent (out.Writes e f g) = tt
outcome-silent (out.Sends e f g) = tt
outcome-silent (out.MakesChild asks e f room enough) = tt
outcome-silent (out.MakesOrphan asks e room enough) = tt
outcome-silent o = refl

pub plan-silent : (program : Program) (task : TaskState) → PlanIsSilent (plan program task)
plan-silent program task = plan-by PlanIsSilent program task tt refl (λ p going o. by o)
  where
    by : {items : List Item} {p : Plan} → ItemsCase program task items p → PlanIsSilent p
    by (Does o) = outcome-silent o
    by (Visits r) = tt
    by o = refl

-- what a node holds after any act, its own task's too
placed-each : (P : Value → Type 0) (state new : State) → EachInState P state → EachInState P new → EachInState P (placed state new)
placed-each P Absent new each made = made
placed-each P (Ref label value) new each made = each
placed-each P (Var label None) new each made = tt
placed-each P (Var label (Some value)) new each made = each
placed-each P (Chan label bytes) new each made = tt
placed-each P (Job label None) new each made = tt
placed-each P (Job label (Some content)) new each made = each

ended-each : (P : Value → Type 0) (state : State) (content : Content) → EachInState P state → ((label : Label) → P (Sealed label content)) → EachInState P (ended state content)
ended-each P Absent content each p = tt
ended-each P (Ref label value) content each p = each
ended-each P (Var label None) content each p = tt
ended-each P (Var label (Some value)) content each p = each
ended-each P (Chan label bytes) content each p = tt
ended-each P (Job label r) content each p = p label

variable-each : (P : Value → Type 0) (label : Label) (value : Option Value) → EachInAct P (act.NewVar label value) → EachInState P (Var label value)
variable-each P label None p = tt
variable-each P label (Some v) p = p

state-each : (P : Value → Type 0) (state : State) (asked : Act) → EachInState P state → EachInAct P asked → EachInState P (state_after state asked)
unfolding state_after
state-each P state (act.Write w) each p = each-after P state (act.Write w) refl each p
state-each P state act.Take each p = each-after P state act.Take refl each p
state-each P state (act.Put w) each p = each-after P state (act.Put w) refl each p
state-each P state (act.Send text) each p = each-after P state (act.Send text) refl each p
state-each P state (act.NewRef label value) each p = placed-each P state (Ref label value) each p
state-each P state (act.NewVar label value) each p = placed-each P state (Var label value) each (variable-each P label value p)
state-each P state (act.Fork birth) each p = placed-each P state (Job birth.result None) each tt
state-each P state (act.Spawn birth) each p = placed-each P state (Job birth.result None) each tt
state-each P state (act.Ended content) each p = ended-each P state content each p
state-each P state asked each p = each

-- a child
child-each : (P : Value → Type 0) (program : Program) (label : Label) (birth : Birth) → All P birth.args → EachInTask P (child_of program label birth)
unfolding child_of
child-each P program label birth given = record {
  environment = bind_all-each P [] (parameters_of (slice_get program.procedures birth.proc_at)) birth.args (All-nil _) given;
  items = enter-all (EachInItem P) (λ s. tt) (body_of (slice_get program.procedures birth.proc_at)) [] (All-nil _);
}

-- a cell: what its node holds, and what its task does
pub record EachInCell (P : Value → Type 0) (cell : Cell) : Type 0 where
  pub state : EachInState P cell.state
  pub task : (x : TaskState) → cell.task ≡ Some x → EachInTask P x

born-each : (P : Value → Type 0) (program : Program) (label : Label) (asked : Act) (x : TaskState) → EachInAct P asked → born program label asked ≡ Some x → EachInTask P x
born-each P program label (act.Fork birth) x p e = let is : child_of program label birth ≡ x = cc in subst (EachInTask P) is (child-each P program label birth p)
born-each P program label (act.Spawn birth) x p e = let is : child_of program label birth ≡ x = cc in subst (EachInTask P) is (child-each P program label birth p)
born-each P program label asked x p e = absurd (cc)

met-each : (P : Value → Type 0) (program : Program) (label : Label) (asked : Act) (cell : Cell) → EachInCell P cell → EachInAct P asked → EachInCell P (met_after program label asked cell)
met-each P program label asked cell each p = record {
  state = state-each P cell.state asked each.state p;
  task = λ x. by cell.task (each.task) x;
}
  where
    by : (t : Option TaskState) → ((x : TaskState) → t ≡ Some x → EachInTask P x) → (x : TaskState) → task_after t (born program label asked) ≡ Some x → EachInTask P x
    by None before x e = born-each P program label asked x p e
    by (Some task) before x e = before x e

-- cells with one of them replaced
cells-each : (Q : Cell → Type 0) (cells : List Cell) (n : ℕ) (cell : Cell) → ((m : ℕ) → Q (slice_index_or cells m blank)) → Q cell → (m : ℕ) → Q (slice_index_or (slice_set cells n cell) m blank)
cells-each Q [] n cell each q m = each m
cells-each Q (first ∷ cells) zero cell each q zero = q
cells-each Q (first ∷ cells) zero cell each q (suc m) = each (suc m)
cells-each Q (first ∷ cells) (suc n) cell each q zero = each 0
cells-each Q (first ∷ cells) (suc n) cell each q (suc m) = cells-each Q cells n cell (λ i. each (suc i)) q m

-- the values in a move
pub record EachInMove (P : Value → Type 0) (move : Move) : Type 0 where
  pub asked : EachInAct P move.act
  pub onward : EachInOnward P move.act move.onward
  pub reply : EachInReply P move.reply

pub move-each : (P : Value → Type 0) → IsClosed P → (c : Configuration) (p : Plan) (move : Move) → ((n : ℕ) → EachInState P (cell_at c n).state) → EachInPlan P p → PlanIsSilent p → move_of (cell_at c) p ≡ Some move → EachInMove P move
move-each P closed c Over move nodes each silent moves = absurd (over-moves c move moves)
move-each P closed c (Own asked reply onward) move nodes each silent moves =
    subst (EachInMove P) (own-moves c asked reply onward move moves) (record { asked = each.0; onward = each.1; reply = silent-each P reply silent })
move-each P closed c (Visit asked target onward) move nodes each silent moves =
    let n : ℕ = number_of target in
    subst (EachInMove P) (visit-moves c asked target onward move moves)
    (record { asked = each.0; onward = each.1; reply = answer-each P closed (met target (cell_at c n).state) asked (by (is_met target (cell_at c n).state) (nodes n)) })
  where
    by : (b : Bool) → EachInState P (cell_at c (number_of target)).state → EachInState P (if b then (cell_at c (number_of target)).state else Absent)
    by true holds = holds
    by false holds = tt

-- the configuration after a move
target-each : (P : Value → Type 0) (c : Configuration) (label : Label) (asked : Act) (target : Option Target) → ((n : ℕ) → EachInCell P (cell_at c n)) → EachInAct P asked → (n : ℕ) → EachInCell P (cell_at (target_after c label asked target) n)
target-each P c label asked None each p n = each n
target-each P c label asked (Some target) each p n = by (is_met target (cell_at c (number_of target)).state)
  where
    by : (b : Bool) → EachInCell P (cell_at (if b then with_cell c (number_of target) (met_after c.program label asked (cell_at c (number_of target))) else c) n)
    by true = cells-each (EachInCell P) c.cells (number_of target) _ each (met-each P c.program label asked (cell_at c (number_of target)) (each (number_of target)) p) n
    by false = each n

-- a task that has gone on
gone_on-each : (P : Value → Type 0) → IsClosed P → ((task : TaskState) (onward : Onward) → EachHandle P task onward) → (task : TaskState) (move : Move) → EachInTask P task → EachInMove P move
    → EachInTask P (gone_on task move.onward move.act move.reply)
unfolding gone_on
gone_on-each P closed handles task move each p =
    let t : TaskState = record task { items = rest_of task.items; turns = task.turns - 1 } in
    gone-each P closed t move.onward move.act move.reply (record { environment = each.environment; items = rest-all (EachInItem P) task.items each.items }) p.onward p.reply (handles t move.onward)

pub after-each : (P : Value → Type 0) → IsClosed P → ((task : TaskState) (onward : Onward) → EachHandle P task onward) → (c : Configuration) (k : ℕ) (task : TaskState) (move : Move) → ((n : ℕ) → EachInCell P (cell_at c n))
    → EachInTask P task → EachInMove P move → (n : ℕ) → EachInCell P (cell_at (after c k task move) n)
after-each P closed handles c k task move each mine p =
    let between : Configuration = target_after c task.label move.act move.target in
    let there : (n : ℕ) → EachInCell P (cell_at between n) = target-each P c task.label move.act move.target each p.asked in
    let gone : EachInTask P (gone_on task move.onward move.act move.reply) = gone_on-each P closed handles task move mine p in
    cells-each (EachInCell P) between.cells k (actor_after task move (cell_at between k)) there (record {
      state = state-each P (cell_at between k).state move.act (there k).state p.asked;
      task = λ x e. let is : gone_on task move.onward move.act move.reply ≡ x = cc in subst (EachInTask P) is gone;
    })
