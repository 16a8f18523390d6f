use Rattle.std.proofs.Common.{refl}
use Rattle.std.proofs.lemmas.Result.{err_from_is_err_and}
use Rattle.lio_policy.specs.Rules.{labels_fail}
use Rattle.lio_policy.specs.declared.labels.TheConstants.{LABELS}
use Rattle.lio_policy_draft.proofs.FailingLemmas.{fault_in_channels, fault_in_inputs, fault_in_tasks, none_in_all}
use Rattle.lio_policy.proofs.RuleLemmas.{labels_lengths, first_none_of}
use Rattle.lio_policy.proofs.labels.read_labels.Goals as goal

pub returns-in_err-channels : goal.returns-in_err-channels
returns-in_err-channels c =
    let d = c.args.draft.now in
    let p = err_from_is_err_and c.from_residual.result c.from_residual.ensures.1 in
    let h = rw (c.requires, c.as_slice-files.ensures, c.first_channel.ensures.number) at c.in_err-channels.ensures in
    rw (p.1, p.2) (fault_in_channels LABELS _ _ _ (labels_fail d) c.in_err-channels.field-0.0 (labels_lengths d) refl (first_none_of 1 d.principals) h)

pub returns-in_err-inputs : goal.returns-in_err-inputs
returns-in_err-inputs c =
    let d = c.args.draft.now in
    let p = err_from_is_err_and c.from_residual-in_err-inputs.result c.from_residual-in_err-inputs.ensures.1 in
    let nc = rw (c.requires, c.as_slice-files.ensures, c.first_channel.ensures.number) at c.in_ok-channels.ensures.0 in
    let h = rw (c.requires, c.as_slice-files-2.ensures, c.first_input.ensures.number) at c.in_err-inputs.ensures in
    rw (p.1, p.2) (fault_in_inputs LABELS _ _ _ (labels_fail d) c.in_err-inputs.field-0.0 (labels_lengths d) refl (first_none_of 1 d.principals) nc h)

pub returns-in_err-tasks : goal.returns-in_err-tasks
returns-in_err-tasks c =
    let d = c.args.draft.now in
    let p = err_from_is_err_and c.from_residual-in_err-tasks.result c.from_residual-in_err-tasks.ensures.1 in
    let nc = rw (c.requires, c.as_slice-files.ensures, c.first_channel.ensures.number) at c.in_ok-channels.ensures.0 in
    let ni = rw (c.requires, c.as_slice-files-2.ensures, c.first_input.ensures.number) at c.in_ok-inputs.ensures.0 in
    let h = rw (c.requires, c.as_slice-drafts.ensures, c.first_task.ensures.number) at c.in_err-tasks.ensures in
    rw (p.1, p.2) (fault_in_tasks LABELS _ _ _ (labels_fail d) c.in_err-tasks.field-0.0 (labels_lengths d) refl (first_none_of 1 d.principals) nc ni h)

pub returns : goal.returns
returns c =
    let d = c.args.draft.now in
    let nc = rw (c.requires, c.as_slice-files.ensures, c.first_channel.ensures.number) at c.in_ok-channels.ensures in
    let ni = rw (c.requires, c.as_slice-files-2.ensures, c.first_input.ensures.number) at c.in_ok-inputs.ensures in
    let nt = rw (c.requires, c.as_slice-drafts.ensures, c.first_task.ensures.number) at c.in_ok-tasks.ensures in
    (none_in_all _ _ _ (labels_fail d) (labels_lengths d) refl (first_none_of 1 d.principals) nc.0 ni.0 nt.0, (nc.1, ni.1, nt.1))
