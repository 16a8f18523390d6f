use Rattle.lio_calculus_runs.proofs.EndLemmas.{round_of_two_parts}
use Rattle.lio_calculus_runs.proofs.round_laws.round_of_two_parts.Goals as goal

pub returns : goal.returns
returns c = round_of_two_parts
