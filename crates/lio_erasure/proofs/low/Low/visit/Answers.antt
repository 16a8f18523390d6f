use Rattle.std.proofs.Common.{◌≡◌, ◌∙◌, refl, sym, ap, ℕ, true, false, true≢false, Option, Some, None, is_some}
use Rattle.lio_values.specs.declared.value.Handle.{Handle}
use Rattle.lio_cells.specs.State.{ready}
use Rattle.lio_calculus.specs.Plan.{Node}
use Rattle.lio_calculus.specs.Step.{cell_at, met}
use Rattle.lio_calculus.specs.Handles.{handle_ahead}
use Rattle.lio_calculus.specs.Task.{TaskState}
use Rattle.lio_task.specs.declared.task.Task.{Task}
use Rattle.lio_task.specs.StateOf.{state_in}
use Rattle.lio_erasure.specs.Low.{low_configuration_of, low_task_in}
use Rattle.lio_erasure.specs.LowParts.{LowParts}
use Rattle.lio_erasure.specs.Turn.{VisitsNode}
use Rattle.lio_erasure.proofs.HolderLemmas.{same-code_task}
use Rattle.lio_erasure.proofs.TurnLemmas.{visit-new, visit-node, waits-still}
use Rattle.lio_erasure.proofs.low.Low.visit.Goals as goal

-- the handle that the task of a plan names ahead, as what was found tells it
ahead : (inside now : LowParts) (k : ℕ) (found task : Task) (handle : Option Handle) → inside ≡ now → Some found ≡ low_task_in inside.holders k → low_task_in now.holders k ≡ Some task
    → handle ≡ (let state : TaskState = state_in inside.script found in handle_ahead state.environment state.items) → (let state : TaskState = state_in now.script task in handle_ahead state.environment state.items) ≡ handle
ahead inside now k found task handle same finds is tells =
    let task_is : found ≡ task = same-code_task (finds ∙ ap (λ (p : LowParts). low_task_in p.holders k) same) is in
    sym (tells ∙ ap (λ (p : LowParts). let state : TaskState = state_in p.script found in handle_ahead state.environment state.items) same
    ∙ ap (λ (t : Task). let state : TaskState = state_in now.script t in handle_ahead state.environment state.items) task_is)

pub unreachable-requires : goal.unreachable-requires
unreachable-requires c =
    true≢false (sym (ap (λ (task : Option Task). is_some task) c.requires.is) ∙ ap (λ (task : Option Task). is_some task) (sym (c.in_default.ensures ∙ ap (λ (parts : LowParts). low_task_in parts.holders c.args.k) c.self.view_is)))

pub make-requires : goal.make-requires
make-requires c =
    let inside : LowParts = record { script = c.self.inside.script; longest = c.self.inside.longest; observer = c.self.inside.observer; holders = c.self.inside.config } in
    visit-new c.args.self.now c.args.k c.args.n c.args.act c.requires
    (ahead inside c.args.self.now c.args.k c.in-Some.task.now c.requires.task None c.self.view_is c.in-Some.ensures c.requires.is c.in_default-handle.ensures)

pub meet-requires : goal.meet-requires
meet-requires c =
    let inside : LowParts = record { script = c.self.inside.script; longest = c.self.inside.longest; observer = c.self.inside.observer; holders = c.self.inside.config } in
    let parts = c.args.self.now in
    let handle = c.in-Some-handle.handle.now in
    visit-node parts c.args.k c.args.n c.args.act true handle c.requires
    (ahead inside parts c.args.k c.in-Some.task.now c.requires.task (Some handle) c.self.view_is c.in-Some.ensures c.requires.is c.in-Some-handle.ensures)
    (λ kind meets. c.if-is_ready.ensures parts.script parts.longest kind meets
    ∙ ap (λ (p : LowParts). ready (met (Node kind handle) (cell_at (low_configuration_of parts.script parts.longest p.holders) handle.number).state) c.args.act) c.self.view_is)

pub miss-requires-clause-visits : goal.miss-requires-clause-visits
miss-requires-clause-visits c =
    let inside : LowParts = record { script = c.self.inside.script; longest = c.self.inside.longest; observer = c.self.inside.observer; holders = c.self.inside.config } in
    let parts = c.args.self.now in
    let handle = c.in-Some-handle.handle.now in
    visit-node parts c.args.k c.args.n c.args.act false handle c.requires
    (ahead inside parts c.args.k c.in-Some.task.now c.requires.task (Some handle) c.self.view_is c.in-Some.ensures c.requires.is c.in-Some-handle.ensures)
    (λ kind meets. c.if-is_ready.ensures parts.script parts.longest kind meets
    ∙ ap (λ (p : LowParts). ready (met (Node kind handle) (cell_at (low_configuration_of parts.script parts.longest p.holders) handle.number).state) c.args.act) c.self.view_is)

pub miss-requires-clause-stays : goal.miss-requires-clause-stays
miss-requires-clause-stays c = sym c.if-waits.ensures

pub returns-then-waits-clause-fault : goal.returns-then-waits-clause-fault
returns-then-waits-clause-fault c = λ contents.
    let inside : LowParts = record { script = c.self.inside.script; longest = c.self.inside.longest; observer = c.self.inside.observer; holders = c.self.inside.config } in
    let parts = c.args.self.now in
    let handle = c.in-Some-handle.handle.now in
    let v : VisitsNode parts c.args.k c.args.act c.args.n false = visit-node parts c.args.k c.args.n c.args.act false handle c.requires
    (ahead inside parts c.args.k c.in-Some.task.now c.requires.task (Some handle) c.self.view_is c.in-Some.ensures c.requires.is c.in-Some-handle.ensures)
    (λ kind meets. c.if-is_ready.ensures parts.script parts.longest kind meets
    ∙ ap (λ (p : LowParts). ready (met (Node kind handle) (cell_at (low_configuration_of parts.script parts.longest p.holders) handle.number).state) c.args.act) c.self.view_is) in
    (refl, waits-still parts c.args.k c.args.n c.args.act v (sym c.if-waits.ensures))
