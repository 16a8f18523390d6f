use Rattle.lio_front.proofs.WriteLemmas.{outputs_hold_each_file}
use Rattle.lio_front.proofs.laws.outputs_hold_each_file.Goals as goal

pub returns : goal.returns
returns c = outputs_hold_each_file
