use Rattle.std.proofs.Common.{sym, subst, All}
use Rattle.lio_calculus_runs.specs.NameLaws.{IsContentPrintable}
use Rattle.lio_calculus_runs.proofs.ContentLemmas.{releases_are_printable}
use Rattle.lio_rows.proofs.runs.released.Goals as goal

pub returns : goal.returns
returns c =
    let names = c.args.job.now.policy.names in
    subst (All (IsContentPrintable names)) (sym c.in_ok-contents.ensures) (releases_are_printable names c.args.observer.now c.in_ok-journal.journal c.in_ok-journal.ensures)
