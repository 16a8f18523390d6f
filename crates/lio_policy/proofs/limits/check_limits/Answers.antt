use Rattle.std.proofs.Common.{◌∙◌, sym}
use Rattle.std.proofs.lemmas.Result.{err_from_is_err_and}
use Rattle.lio_policy.specs.Rules.{limits_fail}
use Rattle.lio_policy.specs.declared.limits.TheConstants.{RULE}
use Rattle.lio_policy_draft.proofs.FailingLemmas.{fault_in_channels, fault_in_inputs, fault_in_tasks, none_in_all}
use Rattle.lio_policy.proofs.RuleLemmas.{limits_lengths, first_none_of}
use Rattle.lio_policy.proofs.limits.check_limits.Goals as goal

pub returns-in_err-check_count : goal.returns-in_err-check_count
returns-in_err-check_count c =
    let d = c.args.draft.now in
    let p = err_from_is_err_and c.from_residual.result c.from_residual.ensures.1 in
    let keeps = rw (c.limits_of-limits.ensures.limits, c.unwrap_or.ensures, c.unwrap_or-longest.ensures, c.as_slice.ensures) at (sym c.work_fails.ensures ∙ c.if-work_fails.false) in
    let h = rw (c.limits_of-limits.ensures.limits, c.unwrap_or.ensures, c.as_slice-2.ensures, c.first_channel.ensures.number) at c.in_err-check_count.ensures in
    rw (p.1, p.2) (fault_in_channels RULE _ _ _ (limits_fail d) c.in_err-check_count.field-0.0 (limits_lengths d) keeps (first_none_of 1 d.principals) h)

pub returns-in_err-check_count-2 : goal.returns-in_err-check_count-2
returns-in_err-check_count-2 c =
    let d = c.args.draft.now in
    let p = err_from_is_err_and c.from_residual-in_err-check_count-2.result c.from_residual-in_err-check_count-2.ensures.1 in
    let keeps = rw (c.limits_of-limits.ensures.limits, c.unwrap_or.ensures, c.unwrap_or-longest.ensures, c.as_slice.ensures) at (sym c.work_fails.ensures ∙ c.if-work_fails.false) in
    let nc = rw (c.limits_of-limits.ensures.limits, c.unwrap_or.ensures, c.as_slice-2.ensures, c.first_channel.ensures.number) at c.in_ok-check_count.ensures.0 in
    let h = rw (c.limits_of-limits.ensures.limits, c.unwrap_or.ensures, c.as_slice-3.ensures, c.first_input.ensures.number) at c.in_err-check_count-2.ensures in
    rw (p.1, p.2) (fault_in_inputs RULE _ _ _ (limits_fail d) c.in_err-check_count-2.field-0.0 (limits_lengths d) keeps (first_none_of 1 d.principals) nc h)

pub returns-in_err-check_tasks : goal.returns-in_err-check_tasks
returns-in_err-check_tasks c =
    let d = c.args.draft.now in
    let p = err_from_is_err_and c.from_residual-in_err-check_tasks.result c.from_residual-in_err-check_tasks.ensures.1 in
    let keeps = rw (c.limits_of-limits.ensures.limits, c.unwrap_or.ensures, c.unwrap_or-longest.ensures, c.as_slice.ensures) at (sym c.work_fails.ensures ∙ c.if-work_fails.false) in
    let nc = rw (c.limits_of-limits.ensures.limits, c.unwrap_or.ensures, c.as_slice-2.ensures, c.first_channel.ensures.number) at c.in_ok-check_count.ensures.0 in
    let ni = rw (c.limits_of-limits.ensures.limits, c.unwrap_or.ensures, c.as_slice-3.ensures, c.first_input.ensures.number) at c.in_ok-check_count-2.ensures.0 in
    let h = rw (c.limits_of-limits.ensures.limits, c.unwrap_or.ensures, c.unwrap_or-longest.ensures, c.as_slice-4.ensures, c.first_task-first.ensures.number, c.requires.inputs, c.requires.tasks) at c.in_err-check_tasks.ensures in
    rw (p.1, p.2) (fault_in_tasks RULE _ _ _ (limits_fail d) c.in_err-check_tasks.field-0.0 (limits_lengths d) keeps (first_none_of 1 d.principals) nc ni h)

pub returns : goal.returns
returns c =
    let d = c.args.draft.now in
    let keeps = rw (c.limits_of-limits.ensures.limits, c.unwrap_or.ensures, c.unwrap_or-longest.ensures, c.as_slice.ensures) at (sym c.work_fails.ensures ∙ c.if-work_fails.false) in
    let nc = rw (c.limits_of-limits.ensures.limits, c.unwrap_or.ensures, c.as_slice-2.ensures, c.first_channel.ensures.number) at c.in_ok-check_count.ensures.0 in
    let ni = rw (c.limits_of-limits.ensures.limits, c.unwrap_or.ensures, c.as_slice-3.ensures, c.first_input.ensures.number) at c.in_ok-check_count-2.ensures.0 in
    let nt = rw (c.limits_of-limits.ensures.limits, c.unwrap_or.ensures, c.unwrap_or-longest.ensures, c.as_slice-4.ensures, c.first_task-first.ensures.number, c.requires.inputs, c.requires.tasks) at c.in_ok-check_tasks.ensures.0 in
    (none_in_all _ _ _ (limits_fail d) (limits_lengths d) keeps (first_none_of 1 d.principals) nc ni nt, c.unwrap_or-longest.ensures)
