use Rattle.std.proofs.Common.{◌∙◌, ap, sym, not, length}
use Rattle.lio_policy.specs.Rules.{version_fails}
use Rattle.lio_policy_draft.proofs.FailingLemmas.{none_in_all}
use Rattle.lio_policy.proofs.RuleLemmas.{version_lengths, first_none_of}
use Rattle.lio_policy.proofs.read.check_version.Goals as goal

pub returns-then-is_version : goal.returns-then-is_version
returns-then-is_version c =
    let d = c.args.draft.now in
    let one = ap not (sym c.is_version.ensures ∙ c.if-is_version.true) in (
      none_in_all (length d.principals) (length d.channels) (length d.inputs) (version_fails d) (version_lengths d) one (first_none_of 1 d.principals) (first_none_of _ d.channels)
          (first_none_of _ d.inputs) (first_none_of _ d.tasks),
      c.unwrap_or.ensures,
    )
