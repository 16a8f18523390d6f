use Rattle.std.proofs.Common.{◌+◌, refl, sym, length}
use Rattle.std.proofs.lemmas.List.{length-map}
use Rattle.std.proofs.lemmas.Result.{err_from_is_err_and}
use Rattle.serde_json.specs.Find.{as_str}
use Rattle.serde_json.specs.View.{view}
use Rattle.lio_policy_draft.specs.Parts.{parts_view}
use Rattle.lio_policy_draft.specs.Shape.{file_of, task_of}
use Rattle.lio_policy_draft.specs.Drafted.{shape_fails}
use Rattle.lio_policy_draft.specs.declared.document.TheConstants.{SHAPE}
use Rattle.lio_policy_draft.proofs.FailingLemmas.{fault_at_principals, fault_in_channels, fault_in_inputs, fault_in_tasks, none_in_all}
use Rattle.lio_policy_draft.proofs.DraftedLemmas.{seen_none, seen_blames, seen_made, shape_lengths, drafted_fault, drafted_ok}
use Rattle.lio_policy_draft.proofs.document.drafted.Goals as goal

pub returns-in_err-principals-clause-fault : goal.returns-in_err-principals-clause-fault
returns-in_err-principals-clause-fault c =
    let parts = c.args.parts.now in
    let seen = parts_view parts in
    let p = err_from_is_err_and c.from_residual.result c.from_residual.ensures.1 in
    let fault = c.in_err-principals.field-0.0 in
    let h = seen_blames as_str SHAPE 1 parts.principals.now fault c.in_err-principals.ensures in
    rw (p.1, p.2) (drafted_fault seen fault (fault_at_principals SHAPE (shape_fails seen) fault refl h))

pub returns-in_err-channels-clause-fault : goal.returns-in_err-channels-clause-fault
returns-in_err-channels-clause-fault c =
    let parts = c.args.parts.now in
    let seen = parts_view parts in
    let lens = shape_lengths seen (length parts.principals.now) (length parts.channels.now) (length parts.inputs.now) (sym (length-map parts.principals.now view)) (sym (length-map parts.channels.now view)) (sym (length-map parts.inputs.now view)) in
    let np = seen_none as_str 1 parts.principals.now c.in_ok-principals.ensures.0 in
    let p = err_from_is_err_and c.from_residual-in_err-channels.result c.from_residual-in_err-channels.ensures.1 in
    let fault = c.in_err-channels.field-0.0 in
    let h = seen_blames file_of SHAPE (1 + length parts.principals.now) parts.channels.now fault c.in_err-channels.ensures in
    rw (p.1, p.2) (drafted_fault seen fault (fault_in_channels SHAPE _ _ _ (shape_fails seen) fault lens refl np h))

pub returns-in_err-inputs-clause-fault : goal.returns-in_err-inputs-clause-fault
returns-in_err-inputs-clause-fault c =
    let parts = c.args.parts.now in
    let seen = parts_view parts in
    let lens = shape_lengths seen (length parts.principals.now) (length parts.channels.now) (length parts.inputs.now) (sym (length-map parts.principals.now view)) (sym (length-map parts.channels.now view)) (sym (length-map parts.inputs.now view)) in
    let np = seen_none as_str 1 parts.principals.now c.in_ok-principals.ensures.0 in
    let nc = seen_none file_of (1 + length parts.principals.now) parts.channels.now c.in_ok-channels.ensures.0 in
    let p = err_from_is_err_and c.from_residual-in_err-inputs.result c.from_residual-in_err-inputs.ensures.1 in
    let fault = c.in_err-inputs.field-0.0 in
    let h = seen_blames file_of SHAPE (1 + length parts.principals.now + length parts.channels.now) parts.inputs.now fault c.in_err-inputs.ensures in
    rw (p.1, p.2) (drafted_fault seen fault (fault_in_inputs SHAPE _ _ _ (shape_fails seen) fault lens refl np nc h))

pub returns-in_err-tasks-clause-fault : goal.returns-in_err-tasks-clause-fault
returns-in_err-tasks-clause-fault c =
    let parts = c.args.parts.now in
    let seen = parts_view parts in
    let lens = shape_lengths seen (length parts.principals.now) (length parts.channels.now) (length parts.inputs.now) (sym (length-map parts.principals.now view)) (sym (length-map parts.channels.now view)) (sym (length-map parts.inputs.now view)) in
    let np = seen_none as_str 1 parts.principals.now c.in_ok-principals.ensures.0 in
    let nc = seen_none file_of (1 + length parts.principals.now) parts.channels.now c.in_ok-channels.ensures.0 in
    let ni = seen_none file_of (1 + length parts.principals.now + length parts.channels.now) parts.inputs.now c.in_ok-inputs.ensures.0 in
    let p = err_from_is_err_and c.from_residual-in_err-tasks.result c.from_residual-in_err-tasks.ensures.1 in
    let fault = c.in_err-tasks.field-0.0 in
    let h = seen_blames (task_of parts.version) SHAPE (1 + length parts.principals.now + length parts.channels.now + length parts.inputs.now) parts.tasks.now fault c.in_err-tasks.ensures in
    rw (p.1, p.2) (drafted_fault seen fault (fault_in_tasks SHAPE _ _ _ (shape_fails seen) fault lens refl np nc ni h))

pub returns-clause-ok : goal.returns-clause-ok
returns-clause-ok c =
    let parts = c.args.parts.now in
    let seen = parts_view parts in
    let lens = shape_lengths seen (length parts.principals.now) (length parts.channels.now) (length parts.inputs.now) (sym (length-map parts.principals.now view)) (sym (length-map parts.channels.now view)) (sym (length-map parts.inputs.now view)) in
    let np = seen_none as_str 1 parts.principals.now c.in_ok-principals.ensures.0 in
    let nc = seen_none file_of (1 + length parts.principals.now) parts.channels.now c.in_ok-channels.ensures.0 in
    let ni = seen_none file_of (1 + length parts.principals.now + length parts.channels.now) parts.inputs.now c.in_ok-inputs.ensures.0 in
    let nt = seen_none (task_of parts.version) (1 + length parts.principals.now + length parts.channels.now + length parts.inputs.now) parts.tasks.now c.in_ok-tasks.ensures.0 in
    drafted_ok seen c.in_ok-principals.principals c.in_ok-channels.channels c.in_ok-inputs.inputs c.in_ok-tasks.tasks
    (none_in_all _ _ _ (shape_fails seen) lens refl np nc ni nt)
    (seen_made as_str parts.principals.now _ c.in_ok-principals.ensures.1) (seen_made file_of parts.channels.now _ c.in_ok-channels.ensures.1)
    (seen_made file_of parts.inputs.now _ c.in_ok-inputs.ensures.1) (seen_made (task_of parts.version) parts.tasks.now _ c.in_ok-tasks.ensures.1)
