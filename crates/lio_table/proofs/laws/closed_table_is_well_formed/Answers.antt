use Rattle.lio_table.proofs.WellFormedLemmas.{closed_table_is_well_formed}
use Rattle.lio_table.proofs.laws.closed_table_is_well_formed.Goals as goal

pub returns : goal.returns
returns c = closed_table_is_well_formed
