use Rattle.lio_events.proofs.PrintableLemmas as lemma
use Rattle.lio_events.proofs.laws.erased_is_printable.Goals as goal

pub returns : goal.returns
returns c = lemma.erased_is_printable
