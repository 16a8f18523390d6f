use Rattle.serde_json.specs.View.{view}
use Rattle.lio_policy_draft.proofs.DraftedLemmas.{no_document, gives_ok, gives_fault}
use Rattle.lio_policy_draft.proofs.document.read_draft.Goals as goal

pub returns-in-Ok-clause-ok : goal.returns-in-Ok-clause-ok
returns-in-Ok-clause-ok c = gives_ok c.draft_in-draft.result c.args.bytes.now (view c.in-Ok.value) c.in-Ok.ensures.ok c.draft_in-draft.ensures.ok

pub returns-in-Ok-clause-fault : goal.returns-in-Ok-clause-fault
returns-in-Ok-clause-fault c = gives_fault c.draft_in-draft.result c.args.bytes.now (view c.in-Ok.value) c.in-Ok.ensures.ok c.draft_in-draft.ensures.fault

pub returns-in-Err-clause-fault : goal.returns-in-Err-clause-fault
returns-in-Err-clause-fault c = no_document c.args.bytes.now c.in-Err.fault c.in-Err.ensures.fault
