use Rattle.std.proofs.Common.{refl}
use Rattle.std.proofs.lemmas.Result.{err_from_is_err_and}
use Rattle.lio_policy.specs.Rules.{files_fail}
use Rattle.lio_policy.specs.declared.files.TheConstants.{RULE}
use Rattle.lio_policy_draft.proofs.FailingLemmas.{fault_in_channels, fault_in_inputs, none_in_all}
use Rattle.lio_policy.proofs.RuleLemmas.{files_lengths, first_none_of}
use Rattle.lio_policy.proofs.files.add_files.Goals as goal

pub returns-in_err-add_keys : goal.returns-in_err-add_keys
returns-in_err-add_keys c =
    let d = c.args.draft.now in
    let p = err_from_is_err_and c.from_residual.result c.from_residual.ensures.1 in
    let h = rw (c.requires, c.as_slice-channels.ensures, c.first_channel.ensures.number) at c.in_err-add_keys.ensures in
    rw (p.1, p.2) (fault_in_channels RULE _ _ _ (files_fail d) c.in_err-add_keys.field-0.0 (files_lengths d) refl (first_none_of 1 d.principals) h)

pub returns-in_err-add_keys-2 : goal.returns-in_err-add_keys-2
returns-in_err-add_keys-2 c =
    let d = c.args.draft.now in
    let p = err_from_is_err_and c.from_residual-in_err-add_keys-2.result c.from_residual-in_err-add_keys-2.ensures.1 in
    let nc = rw (c.requires, c.as_slice-channels.ensures, c.first_channel.ensures.number) at c.in_ok-add_keys.ensures in
    let h = rw (nc.1, c.as_slice-inputs.ensures, c.first_input.ensures.number) at c.in_err-add_keys-2.ensures in
    rw (p.1, p.2) (fault_in_inputs RULE _ _ _ (files_fail d) c.in_err-add_keys-2.field-0.0 (files_lengths d) refl (first_none_of 1 d.principals) nc.0 h)

pub returns : goal.returns
returns c =
    let d = c.args.draft.now in
    let nc = rw (c.requires, c.as_slice-channels.ensures, c.first_channel.ensures.number) at c.in_ok-add_keys.ensures in
    let ni = rw (nc.1, c.as_slice-inputs.ensures, c.first_input.ensures.number) at c.in_ok-add_keys-2.ensures in
    (none_in_all _ _ _ (files_fail d) (files_lengths d) refl (first_none_of 1 d.principals) nc.0 ni.0 (first_none_of _ d.tasks), tt)
