use Rattle.lio_calculus.proofs.JournalLemmas.{parts_of_a_journal_are_logged}
use Rattle.lio_calculus.proofs.log_laws.parts_of_a_journal_are_logged.Goals as goal

pub returns : goal.returns
returns c = parts_of_a_journal_are_logged
