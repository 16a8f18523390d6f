use Rattle.lio_outside.proofs.CountLemmas.{FailedAt-in_part, Rose-in_part, Rose-at_rest, IsMissing-in_part}
use Rattle.lio_outside.proofs.laws.law_of_counts.Goals as goal

pub returns : goal.returns
returns c = record {
  in_part = Rose-in_part;
  failed_in_part = FailedAt-in_part;
  missing_in_part = IsMissing-in_part;
  at_rest = Rose-at_rest;
}
