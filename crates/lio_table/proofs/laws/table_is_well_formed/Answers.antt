use Rattle.lio_table.proofs.WellFormedLemmas.{table_is_well_formed}
use Rattle.lio_table.proofs.laws.table_is_well_formed.Goals as goal

pub returns : goal.returns
returns c = table_is_well_formed
