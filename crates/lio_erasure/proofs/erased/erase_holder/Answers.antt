use Rattle.std.proofs.Common.{refl, ◌∙◌, sym}
use Rattle.std.proofs.lemmas.Result.{IfOk-from_err}
use Rattle.lio_calculus.proofs.InvisibleLemmas.{erase_cell-seen, erase_cell-unseen}
use Rattle.lio_task.specs.Configuration.{cell_of}
use Rattle.lio_erasure.proofs.KeptLemmas.{hidden-kept}
use Rattle.lio_erasure.proofs.erased.erase_holder.Goals as goal

pub returns-in_err-hidden-clause-erased : goal.returns-in_err-hidden-clause-erased
returns-in_err-hidden-clause-erased c = IfOk-from_err c.from_residual.result _ c.from_residual.ensures.0

pub returns-in_err-hidden-clause-kept : goal.returns-in_err-hidden-clause-kept
returns-in_err-hidden-clause-kept c = IfOk-from_err c.from_residual.result _ c.from_residual.ensures.0

pub returns-in_ok-hidden-clause-erased : goal.returns-in_ok-hidden-clause-erased
returns-in_ok-hidden-clause-erased c = λ script. c.in_ok-hidden.ensures script ∙ sym (erase_cell-seen c.args.observer.now (cell_of script c.args.holder.now) (sym (c.if-is_seen.ensures script)))

pub returns-in_ok-hidden-clause-kept : goal.returns-in_ok-hidden-clause-kept
returns-in_ok-hidden-clause-kept c = hidden-kept c.args.observer.now c.args.holder.now c.in_ok-hidden.field-0 c.if-is_seen.ensures c.in_ok-hidden.ensures

pub returns-else-is_seen-clause-erased : goal.returns-else-is_seen-clause-erased
returns-else-is_seen-clause-erased c = λ script. sym (erase_cell-unseen c.args.observer.now (cell_of script c.args.holder.now) (sym (c.if-is_seen.ensures script)))

pub returns-else-is_seen-clause-kept : goal.returns-else-is_seen-clause-kept
returns-else-is_seen-clause-kept c = refl
