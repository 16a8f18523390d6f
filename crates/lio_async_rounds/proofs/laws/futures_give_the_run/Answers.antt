use Rattle.lio_async_rounds.proofs.LawLemmas.{futures_give_the_run}
use Rattle.lio_async_rounds.proofs.laws.futures_give_the_run.Goals as goal

pub returns : goal.returns
returns c = futures_give_the_run
