use Rattle.std.proofs.Common.{◌∙◌, sym, subst, All}
use Rattle.lio_events.specs.Printable.{IsPrintable}
use Rattle.lio_policy.specs.Policy.{PolicyParts}
use Rattle.lio_rows.proofs.runs.history_of.Goals as goal

pub print_journal-requires : goal.print_journal-requires
print_journal-requires c = subst (λ (p : PolicyParts). All (IsPrintable p.names) c.in_ok-journal.journal) (sym (c.policy.view_is ∙ c.policy-policy.ensures.policy)) c.in_ok-journal.ensures
