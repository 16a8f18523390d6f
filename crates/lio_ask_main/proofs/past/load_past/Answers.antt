use Rattle.std.proofs.Common.{subst, sym, ℕ, List, Option, Ok}
use Rattle.std.proofs.lemmas.Result.{err_from_is_err_and}
use Rattle.lio_outside.specs.FileMap.{FileMap}
use Rattle.lio_outside.specs.Asking.{Give}
use Rattle.lio_start.specs.Job.{JobParts}
use Rattle.lio_front.specs.declared.loading.Front.{Front}
use Rattle.lio_front.specs.Status.{Says}
use Rattle.lio_ask_main.specs.Past.{holding, recalling}
use Rattle.lio_ask_main.specs.Words.{Files, files_named}
use Rattle.lio_ask_main.proofs.PastLemmas.{give-past, refuse-front, refuse-held}
use Rattle.lio_ask_main.proofs.past.load_past.Goals as goal

pub returns-in_err-policy-clause-err : goal.returns-in_err-policy-clause-err
returns-in_err-policy-clause-err g c =
    let p = err_from_is_err_and c.from_residual.result c.from_residual.ensures.1 in
    rw (p.1, p.2) (refuse-front (g.S.Store.holds c.args.store.now) (files_named c.args.files) (g.S.Store.faults c.args.store.now) (g.S.Store.faults c.load.new.store) c.in_err-policy.field-0.0 c.in_err-policy.ensures.err)

pub returns-in-Ok-clause-ok : goal.returns-in-Ok-clause-ok
returns-in-Ok-clause-ok g c =
    let told = g.S.Store.holds c.args.store.now in
    let files : Files = files_named c.args.files in
    let read : Front = c.in_ok-policy.field-0 in
    let history : List ℕ = c.in-Ok.history.items in
    let held : Give told (holding read.policy files.history) (Ok (c.in-Ok.inputs, history)) =
    subst (λ (t : Option FileMap). Give t (holding read.policy files.history) (Ok (c.in-Ok.inputs, history))) c.in_ok-policy.ensures.files c.in-Ok.ensures.ok in
    subst (λ (job : JobParts). Give told (recalling files) (Ok (record { job = job; history = history }))) (sym c.of.ensures)
    (give-past told files read (c.in-Ok.inputs, history) c.in_ok-policy.ensures.ok held)

pub returns-in-Err-clause-err : goal.returns-in-Err-clause-err
returns-in-Err-clause-err g c =
    let told = g.S.Store.holds c.args.store.now in
    let files : Files = files_named c.args.files in
    let read : Front = c.in_ok-policy.field-0 in
    let before = g.S.Store.faults c.args.store.now in
    let middle = g.S.Store.faults c.load.new.store in
    let after = g.S.Store.faults c.load_held.new.store in
    let says : Says told (holding read.policy files.history) middle after c.in-Err.fault =
    subst (λ (t : Option FileMap). Says t (holding read.policy files.history) middle after c.in-Err.fault) c.in_ok-policy.ensures.files c.in-Err.ensures.err in
    refuse-held told files read before middle after c.in-Err.fault c.in_ok-policy.ensures.count c.in_ok-policy.ensures.ok says
