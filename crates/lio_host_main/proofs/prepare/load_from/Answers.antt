use Rattle.std.proofs.Common.{ap, subst, ℕ, List, Option, Ok}
use Rattle.std.proofs.lemmas.Result.{err_from_is_err_and}
use Rattle.lio_outside.specs.FileMap.{FileMap}
use Rattle.lio_outside.specs.Asking.{Give, Refuse}
use Rattle.lio_front.specs.declared.loading.Front.{Front}
use Rattle.lio_front.specs.Status.{Says}
use Rattle.lio_front.specs.Loading.{loading}
use Rattle.lio_start.specs.declared.job.Job.{Job}
use Rattle.lio_front.specs.Sorted.{named}
use Rattle.lio_host_main.specs.Order.{label_text}
use Rattle.lio_host_main.specs.Verdict.{cause_of, taking}
use Rattle.lio_host_main.proofs.Prepares.{give-loaded, refuse-inputs, refuse-load}
use Rattle.lio_host_main.proofs.prepare.load_from.Goals as goal

pub returns-in_err-front-clause-err : goal.returns-in_err-front-clause-err
returns-in_err-front-clause-err g c =
    let p = err_from_is_err_and c.from_residual.result c.from_residual.ensures.1 in
    let told = g.S.Store.holds c.args.store.now in
    let before = g.S.Store.faults c.args.store.now in
    let after = g.S.Store.faults c.load.new.store in
    let fault = c.in_err-front.field-0.0 in
    let says : Says told (loading c.args.policy.now c.args.script.now (label_text (named c.args.command))) before after fault =
    subst (λ (label : Option (List ℕ)). Says told (loading c.args.policy.now c.args.script.now label) before after fault) c.label_of.ensures c.in_err-front.ensures.err in
    rw (p.1, p.2) (refuse-load told c.args.policy.now c.args.script.now (named c.args.command) before after fault says)

pub of-requires-clause-fits : goal.of-requires-clause-fits
of-requires-clause-fits g c = c.in_ok-front.ensures.fits

pub of-requires-clause-over : goal.of-requires-clause-over
of-requires-clause-over g c = c.in_ok-front.ensures.over

pub of-requires-clause-each : goal.of-requires-clause-each
of-requires-clause-each g c = c.in-Ok.ensures.each

pub returns-in-Ok-clause-ok : goal.returns-in-Ok-clause-ok
returns-in-Ok-clause-ok g c =
    let told = g.S.Store.holds c.args.store.now in
    let front : Front = c.in_ok-front.front in
    let loaded : Give told (loading c.args.policy.now c.args.script.now (label_text (named c.args.command))) (Ok front) =
    subst (λ (label : Option (List ℕ)). Give told (loading c.args.policy.now c.args.script.now label) (Ok front)) c.label_of.ensures c.in_ok-front.ensures.ok in
    let taken : Give told (taking (named c.args.command) front.policy) (Ok c.in-Ok.inputs) =
    subst (λ (t : Option FileMap). Give t (taking (named c.args.command) front.policy) (Ok c.in-Ok.inputs)) c.in_ok-front.ensures.files c.in-Ok.ensures.ok in
    give-loaded told c.args.policy.now c.args.script.now (named c.args.command) front c.in-Ok.inputs _
    (ap (λ (job : Job). record { job = job; observer = front.observer }) c.of.ensures) loaded taken

pub returns-in-Err-clause-err : goal.returns-in-Err-clause-err
returns-in-Err-clause-err g c =
    let told = g.S.Store.holds c.args.store.now in
    let front : Front = c.in_ok-front.front in
    let before = g.S.Store.faults c.args.store.now in
    let middle = g.S.Store.faults c.load.new.store in
    let after = g.S.Store.faults c.take_inputs.new.store in
    let loaded : Give told (loading c.args.policy.now c.args.script.now (label_text (named c.args.command))) (Ok front) =
    subst (λ (label : Option (List ℕ)). Give told (loading c.args.policy.now c.args.script.now label) (Ok front)) c.label_of.ensures c.in_ok-front.ensures.ok in
    let refused : Refuse (cause_of c.in-Err.status) told (taking (named c.args.command) front.policy) middle after c.in-Err.status =
    subst (λ (t : Option FileMap). Refuse (cause_of c.in-Err.status) t (taking (named c.args.command) front.policy) middle after c.in-Err.status) c.in_ok-front.ensures.files c.in-Err.ensures.err in
    refuse-inputs told c.args.policy.now c.args.script.now (named c.args.command) front before middle after c.in-Err.status c.in_ok-front.ensures.count loaded refused
