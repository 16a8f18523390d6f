use Rattle.std.proofs.Common.{◌∙◌}
use Rattle.lio_c.proofs.ItemLemmas.{behind-last, none-in_item, none-in_text}
use Rattle.lio_c.proofs.netstrings.behind_item.Goals as goal

pub returns-in_err-bytes-2 : goal.returns-in_err-bytes-2
returns-in_err-bytes-2 c =
    rw c.from_residual-in_err-bytes-2.ensures (none-in_text c.args.bytes.now c.in_ok-bytes.bytes.now c.args.item.now c.as_bytes.result.now (c.as_bytes.ensures.value ∙ c.format.ensures.text) c.in_ok-bytes.ensures c.in_err-bytes-2.ensures)

pub returns-in_err-bytes-3 : goal.returns-in_err-bytes-3
returns-in_err-bytes-3 c =
    rw c.from_residual-in_err-bytes-3.ensures (none-in_item c.args.bytes.now c.in_ok-bytes.bytes.now c.in_ok-bytes-2.bytes.now c.args.item.now c.as_bytes.result.now
    (c.as_bytes.ensures.value ∙ c.format.ensures.text) c.in_ok-bytes.ensures c.in_ok-bytes-2.ensures c.in_err-bytes-3.ensures)

pub returns : goal.returns
returns c =
    behind-last c.args.bytes.now c.in_ok-bytes.bytes.now c.in_ok-bytes-2.bytes.now c.in_ok-bytes-3.bytes.now c.args.item.now c.as_bytes.result.now c.behind-4.result
    (c.as_bytes.ensures.value ∙ c.format.ensures.text) c.in_ok-bytes.ensures c.in_ok-bytes-2.ensures c.in_ok-bytes-3.ensures c.behind-4.ensures
