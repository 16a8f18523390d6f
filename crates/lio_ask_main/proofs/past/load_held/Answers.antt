use Rattle.std.proofs.Common.{subst, List, ℕ, Option, Ok}
use Rattle.std.proofs.lemmas.Result.{err_from_is_err_and}
use Rattle.lio_outside.specs.FileMap.{FileMap}
use Rattle.lio_outside.specs.Steps.{asked}
use Rattle.lio_outside.specs.Asking.{Give}
use Rattle.lio_audit.specs.History.{most_history_bytes}
use Rattle.lio_front.specs.declared.status.Status.TheVariants.{Missing}
use Rattle.lio_front.specs.Status.{Says}
use Rattle.lio_ask_main.proofs.PastLemmas.{give-held, refuse-history, refuse-inputs}
use Rattle.lio_ask_main.proofs.past.load_held.Goals as goal

pub returns-in_err-inputs-clause-err : goal.returns-in_err-inputs-clause-err
returns-in_err-inputs-clause-err g c =
    let p = err_from_is_err_and c.from_residual.result c.from_residual.ensures.1 in
    rw (p.1, p.2) (refuse-inputs (g.S.Store.holds c.args.store.now) c.args.policy.now c.args.history.now (g.S.Store.faults c.args.store.now) (g.S.Store.faults c.load_inputs.new.store) c.in_err-inputs.field-0.0 c.in_err-inputs.ensures.err)

pub returns-in-Ok-clause-ok : goal.returns-in-Ok-clause-ok
returns-in-Ok-clause-ok g c =
    let told = g.S.Store.holds c.args.store.now in
    let history : List ℕ = c.args.history.now in
    give-held told c.args.policy.now history c.in_ok-inputs.inputs c.in-Ok.bytes.items c.in_ok-inputs.ensures.ok
    (subst (λ (t : Option FileMap). Give t (asked (Missing history) history most_history_bytes) (Ok c.in-Ok.bytes.items)) c.in_ok-inputs.ensures.files c.in-Ok.ensures.ok)

pub returns-in-Err-clause-err : goal.returns-in-Err-clause-err
returns-in-Err-clause-err g c =
    let told = g.S.Store.holds c.args.store.now in
    let history : List ℕ = c.args.history.now in
    let middle = g.S.Store.faults c.load_inputs.new.store in
    let after = g.S.Store.faults c.fetch.new.store in
    refuse-history told c.args.policy.now history c.in_ok-inputs.inputs (g.S.Store.faults c.args.store.now) middle after c.in-Err.fault c.in_ok-inputs.ensures.count c.in_ok-inputs.ensures.ok
    (subst (λ (t : Option FileMap). Says t (asked (Missing history) history most_history_bytes) middle after c.in-Err.fault) c.in_ok-inputs.ensures.files c.in-Err.ensures.err)
