use Rattle.lio_c.proofs.ItemLemmas.{item-found}
use Rattle.lio_c.proofs.netstrings.first_item.Goals as goal

pub returns : goal.returns
returns c = λ item rest is.
    item-found c.args.bytes.now c.first_of.result.now c.behind_first.result.now c.behind_first-2.result.now item rest c.first_of-2.result.now c.digits_len-len.result c.number_of-count.result is
    c.digits_len-len.ensures.fits c.digits_len-len.ensures.len c.first_of.ensures c.number_of-count.ensures c.behind_first.ensures c.behind_first-2.ensures c.first_of-2.ensures
