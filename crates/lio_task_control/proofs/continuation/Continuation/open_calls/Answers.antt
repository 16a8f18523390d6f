use Rattle.std.proofs.Common.{◌∙◌, sym, ap, length}
use Rattle.lio_task_control.proofs.ContinuationLemmas.{open_calls-place}
use Rattle.lio_task_control.proofs.continuation.Continuation.open_calls.Goals as goal

pub returns : goal.returns
returns c = λ lines. ap (λ cs. length cs) c.as_slice.ensures.value ∙ sym (open_calls-place lines c.args.self.now)
