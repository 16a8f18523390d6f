use Rattle.std.proofs.Common.{◌∙◌, refl, sym, ap}
use Rattle.std.proofs.lemmas.Result.{on_ok_weaker}
use Rattle.lio_task.specs.StateOf.{state_in}
use Rattle.lio_task.specs.declared.task.Task.{Task}
use Rattle.lio_erasure.proofs.ResultLemmas.{on_err, on_ok-from_err}
use Rattle.lio_erasure.proofs.gone.go_on.Goals as goal

pub returns-then-not-hides-clause-ok : goal.returns-then-not-hides-clause-ok
returns-then-not-hides-clause-ok c = on_ok_weaker c.resume.result (λ is. is ∙ sym (c.requires (sym c.if-not-hides.ensures))) c.resume.ensures.ok

pub returns-then-not-hides-clause-err : goal.returns-then-not-hides-clause-err
returns-then-not-hides-clause-err c = c.resume.ensures.err

pub returns-in_err-gone-clause-ok : goal.returns-in_err-gone-clause-ok
returns-in_err-gone-clause-ok c = on_ok-from_err _ c.from_residual.result c.from_residual.ensures.0

pub returns-in_err-gone-clause-err : goal.returns-in_err-gone-clause-err
returns-in_err-gone-clause-err c = on_err _ c.from_residual.result refl

pub returns-clause-ok : goal.returns-clause-ok
returns-clause-ok c = ap (λ (t : Task). state_in c.args.script.now t) c.assign.ensures ∙ c.in_ok-gone.ensures
