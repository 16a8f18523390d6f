use Rattle.std.proofs.Common.{arith}
use Rattle.serde_json.specs.View.{view}
use Rattle.lio_policy_draft.proofs.EntryLemmas.{document_at, no_entry, entry_of}
use Rattle.lio_policy_draft.proofs.numbering.entry_at.Goals as goal

pub returns-then-entry-eq0 : goal.returns-then-entry-eq0
returns-then-entry-eq0 c = document_at c.args.bytes.now c.args.entry c.if-entry-eq0.true

pub returns-in-Ok : goal.returns-in-Ok
returns-in-Ok c =
    entry_of c.listed.result c.args.bytes.now (view c.in-Ok.document) c.args.entry (omega arith) c.in-Ok.ensures.ok c.listed.ensures

pub returns-in-Err-Bad : goal.returns-in-Err-Bad
returns-in-Err-Bad c =
    no_entry c.args.bytes.now c.args.entry _ _ c.in-Err-Bad.field-0 (omega arith) c.in-Err-Bad.field-0-is c.in-Err-Bad.ensures.fault
