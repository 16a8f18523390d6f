use Rattle.std.proofs.Common.{◌∙◌, ap, sym}
use Rattle.std.proofs.lemmas.List.{same_from_push}
use Rattle.lio_task_control.specs.declared.frame.Call.{Call}
use Rattle.lio_task_control.proofs.continuation.Continuation.resume_caller.Goals as goal

pub returns-in-Some-clause-some : goal.returns-in-Some-clause-some
returns-in-Some-clause-some c = λ calls call e.
    let same = same_from_push _ _ _ _ (sym c.in-Some.ensures.items ∙ e) in
    (same.0, ap (λ (k : Call). k.caller) same.1)
