use Rattle.std.proofs.Common.{◌∙◌, inr, sym, true≢false, arith}
use Rattle.lio_policy_draft.proofs.DocumentLemmas.{too_long, is_read, is_refused}
use Rattle.lio_policy_draft.proofs.document.read_value.Goals as goal

pub returns-then-bytes-gt-MOST_BYTES-clause-fault : goal.returns-then-bytes-gt-MOST_BYTES-clause-fault
returns-then-bytes-gt-MOST_BYTES-clause-fault c = inr (c.fault_at.ensures, too_long c.args.bytes.now (omega arith))

pub returns-in-Ok-clause-ok : goal.returns-in-Ok-clause-ok
returns-in-Ok-clause-ok c = is_read c.args.bytes.now (omega arith) c.in-Ok.ensures.ok.0 ∙ c.in-Ok.ensures.ok.1

pub returns-else-is_memory-clause-fault : goal.returns-else-is_memory-clause-fault
returns-else-is_memory-clause-fault c =
    let refused = is_refused c.args.bytes.now (omega arith) (c.in-Err.ensures.err (λ memory. absurd (true≢false (sym (c.is_memory.ensures.1 memory) ∙ c.if-is_memory.false)))) in
    inr (c.fault_at-in-Err.ensures, refused)
