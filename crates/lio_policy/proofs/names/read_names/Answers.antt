use Rattle.std.proofs.Common.{refl}
use Rattle.std.proofs.lemmas.Result.{err_from_is_err_and}
use Rattle.lio_policy.specs.Rules.{names_fail}
use Rattle.lio_policy.specs.declared.names.TheConstants.{RULE}
use Rattle.lio_policy_draft.proofs.FailingLemmas.{fault_at_principals, fault_in_channels, fault_in_inputs, fault_in_tasks, none_in_all}
use Rattle.lio_policy.proofs.RuleLemmas.{names_lengths}
use Rattle.lio_policy.proofs.names.read_names.Goals as goal

pub returns-in_err-names : goal.returns-in_err-names
returns-in_err-names c =
    let d = c.args.draft.now in
    let p = err_from_is_err_and c.from_residual.result c.from_residual.ensures.1 in
    let h = rw c.as_slice.ensures at c.in_err-names.ensures in
    rw (p.1, p.2) (fault_at_principals RULE (names_fail d) c.in_err-names.field-0.0 refl h)

pub returns-in_err-channels : goal.returns-in_err-channels
returns-in_err-channels c =
    let d = c.args.draft.now in
    let p = err_from_is_err_and c.from_residual-in_err-channels.result c.from_residual-in_err-channels.ensures.1 in
    let np = rw c.as_slice.ensures at c.in_ok-names.ensures.0 in
    let h = rw (c.as_slice-2.ensures, c.first_channel.ensures.number) at c.in_err-channels.ensures in
    rw (p.1, p.2) (fault_in_channels RULE _ _ _ (names_fail d) c.in_err-channels.field-0.0 (names_lengths d) refl np h)

pub returns-in_err-inputs : goal.returns-in_err-inputs
returns-in_err-inputs c =
    let d = c.args.draft.now in
    let p = err_from_is_err_and c.from_residual-in_err-inputs.result c.from_residual-in_err-inputs.ensures.1 in
    let np = rw c.as_slice.ensures at c.in_ok-names.ensures.0 in
    let nc = rw (c.as_slice-2.ensures, c.first_channel.ensures.number) at c.in_ok-channels.ensures.0 in
    let h = rw (c.as_slice-3.ensures, c.first_input.ensures.number) at c.in_err-inputs.ensures in
    rw (p.1, p.2) (fault_in_inputs RULE _ _ _ (names_fail d) c.in_err-inputs.field-0.0 (names_lengths d) refl np nc h)

pub returns-in_err-check_task_names : goal.returns-in_err-check_task_names
returns-in_err-check_task_names c =
    let d = c.args.draft.now in
    let p = err_from_is_err_and c.from_residual-in_err-check_task_names.result c.from_residual-in_err-check_task_names.ensures.1 in
    let np = rw c.as_slice.ensures at c.in_ok-names.ensures.0 in
    let nc = rw (c.as_slice-2.ensures, c.first_channel.ensures.number) at c.in_ok-channels.ensures.0 in
    let ni = rw (c.as_slice-3.ensures, c.first_input.ensures.number) at c.in_ok-inputs.ensures.0 in
    let h = rw (c.as_slice-4.ensures, c.first_task.ensures.number) at c.in_err-check_task_names.ensures in
    rw (p.1, p.2) (fault_in_tasks RULE _ _ _ (names_fail d) c.in_err-check_task_names.field-0.0 (names_lengths d) refl np nc ni h)

pub returns : goal.returns
returns c =
    let d = c.args.draft.now in
    let np = rw c.as_slice.ensures at c.in_ok-names.ensures in
    let nc = rw (c.as_slice-2.ensures, c.first_channel.ensures.number) at c.in_ok-channels.ensures in
    let ni = rw (c.as_slice-3.ensures, c.first_input.ensures.number) at c.in_ok-inputs.ensures in
    let nt = rw (c.as_slice-4.ensures, c.first_task.ensures.number) at c.in_ok-check_task_names.ensures in
    (none_in_all _ _ _ (names_fail d) (names_lengths d) refl np.0 nc.0 ni.0 nt.0, (np.1, nc.1, ni.1))
