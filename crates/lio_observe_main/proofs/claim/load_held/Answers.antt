use Rattle.std.proofs.Common.{subst, List, ℕ, Option, Ok}
use Rattle.std.proofs.lemmas.Result.{err_from_is_err_and}
use Rattle.lio_outside.specs.FileMap.{FileMap}
use Rattle.lio_outside.specs.Steps.{asked}
use Rattle.lio_outside.specs.Asking.{Give}
use Rattle.lio_audit.specs.History.{most_history_bytes}
use Rattle.lio_front.specs.declared.status.Status.TheVariants.{Missing}
use Rattle.lio_front.specs.Status.{Says}
use Rattle.lio_observe_main.proofs.ClaimLemmas.{give-held, refuse-texts, refuse-view}
use Rattle.lio_observe_main.proofs.claim.load_held.Goals as goal

pub returns-in_err-texts-clause-err : goal.returns-in_err-texts-clause-err
returns-in_err-texts-clause-err g c =
    let p = err_from_is_err_and c.from_residual.result c.from_residual.ensures.1 in
    rw (p.1, p.2) (refuse-texts (g.S.Store.holds c.args.store.now) c.args.observer.now c.args.policy.now c.args.view.now (g.S.Store.faults c.args.store.now) (g.S.Store.faults c.load_texts.new.store) c.in_err-texts.field-0.0
    c.in_err-texts.ensures.err)

pub returns-in-Ok-clause-ok : goal.returns-in-Ok-clause-ok
returns-in-Ok-clause-ok g c =
    let told = g.S.Store.holds c.args.store.now in
    let view : List ℕ = c.args.view.now in
    give-held told c.args.observer.now c.args.policy.now view c.in_ok-texts.texts c.in-Ok.bytes.items c.in_ok-texts.ensures.ok
    (subst (λ (t : Option FileMap). Give t (asked (Missing view) view most_history_bytes) (Ok c.in-Ok.bytes.items)) c.in_ok-texts.ensures.files c.in-Ok.ensures.ok)

pub returns-in-Err-clause-err : goal.returns-in-Err-clause-err
returns-in-Err-clause-err g c =
    let told = g.S.Store.holds c.args.store.now in
    let view : List ℕ = c.args.view.now in
    let middle = g.S.Store.faults c.load_texts.new.store in
    let after = g.S.Store.faults c.fetch.new.store in
    refuse-view told c.args.observer.now c.args.policy.now view c.in_ok-texts.texts (g.S.Store.faults c.args.store.now) middle after c.in-Err.fault c.in_ok-texts.ensures.count c.in_ok-texts.ensures.ok
    (subst (λ (t : Option FileMap). Says t (asked (Missing view) view most_history_bytes) middle after c.in-Err.fault) c.in_ok-texts.ensures.files c.in-Err.ensures.err)
