use Rattle.lio_c.proofs.ItemLemmas.{none-begins}
use Rattle.lio_c.proofs.netstrings.next_item.Goals as goal

pub returns-in_err-rest : goal.returns-in_err-rest
returns-in_err-rest c = rw c.from_residual.ensures (none-begins c.args.bytes.now c.first_item-item.result.now c.first_item-item.ensures c.in_err-rest.ensures)
