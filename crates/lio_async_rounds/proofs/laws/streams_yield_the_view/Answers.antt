use Rattle.lio_async_rounds.proofs.LawLemmas.{streams_yield_the_view}
use Rattle.lio_async_rounds.proofs.laws.streams_yield_the_view.Goals as goal

pub returns : goal.returns
returns c = streams_yield_the_view
