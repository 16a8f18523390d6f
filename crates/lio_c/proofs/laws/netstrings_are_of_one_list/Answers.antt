use Rattle.lio_c.proofs.LawLemmas.{are_of_one_list}
use Rattle.lio_c.proofs.laws.netstrings_are_of_one_list.Goals as goal

pub returns : goal.returns
returns c = are_of_one_list
