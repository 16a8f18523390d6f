use Rattle.lio_calculus.proofs.JournalLemmas.{parts-mergeable, parts-merged}
use Rattle.lio_calculus.proofs.log_laws.parts_merge_to_the_journal.Goals as goal

pub returns : goal.returns
returns c logs journal parts numbered = (parts-mergeable logs journal parts numbered, parts-merged logs journal parts numbered)
