use Rattle.std.proofs.Common.{◌≡◌, refl, subst, sym, ℕ, List, Option, Some, None, Ok}
use Rattle.std.proofs.lemmas.Result.{err_from_is_err_and}
use Rattle.lio_outside.specs.FileMap.{FileMap}
use Rattle.lio_outside.specs.Asking.{Give}
use Rattle.lio_labels.specs.declared.label.Label.{Label}
use Rattle.lio_start.specs.Job.{JobParts}
use Rattle.lio_front.specs.declared.loading.Front.{Front}
use Rattle.lio_front.specs.Status.{Says}
use Rattle.lio_observe_main.specs.Verdict.{claiming, holding}
use Rattle.lio_observe_main.specs.Words.{Command, named}
use Rattle.lio_observe_main.proofs.ClaimLemmas.{give-claim, give-unlabelled, refuse-front, refuse-held}
use Rattle.lio_observe_main.proofs.claim.load_claim.Goals as goal

no-label : (label : Option Label) → ((l : Label) → label ≡ Some l → ⊥) → label ≡ None
no-label None never = refl
no-label (Some l) never = absurd (never l refl)

pub returns-in_err-policy-clause-err : goal.returns-in_err-policy-clause-err
returns-in_err-policy-clause-err g c =
    let p = err_from_is_err_and c.from_residual.result c.from_residual.ensures.1 in
    rw (p.1, p.2) (refuse-front (g.S.Store.holds c.args.store.now) (named c.args.command) (g.S.Store.faults c.args.store.now) (g.S.Store.faults c.load.new.store) c.in_err-policy.field-0.0 c.in_err-policy.ensures.err)

pub returns-in_default-clause-err : goal.returns-in_default-clause-err
returns-in_default-clause-err g c =
    give-unlabelled (g.S.Store.holds c.args.store.now) (named c.args.command) c.in_ok-policy.field-0 c.in_ok-policy.ensures.ok (no-label c.in_ok-policy.field-0.observer c.in_default.not-Some)

pub returns-in-Ok-clause-ok : goal.returns-in-Ok-clause-ok
returns-in-Ok-clause-ok g c =
    let told = g.S.Store.holds c.args.store.now in
    let command : Command = named c.args.command in
    let read : Front = c.in_ok-policy.field-0 in
    let view : List ℕ = c.in-Ok.view.items in
    let held : Give told (holding c.in-Some.observer read.policy command.view) (Ok (c.in-Ok.texts, view)) =
    subst (λ (t : Option FileMap). Give t (holding c.in-Some.observer read.policy command.view) (Ok (c.in-Ok.texts, view))) c.in_ok-policy.ensures.files c.in-Ok.ensures.ok in
    subst (λ (job : JobParts). Give told (claiming command) (Ok (record { job = job; observer = c.in-Some.observer; view = view }))) (sym c.of.ensures)
    (give-claim told command read c.in-Some.observer (c.in-Ok.texts, view) c.in_ok-policy.ensures.ok c.in-Some.is held)

pub returns-in-Err-clause-err : goal.returns-in-Err-clause-err
returns-in-Err-clause-err g c =
    let told = g.S.Store.holds c.args.store.now in
    let command : Command = named c.args.command in
    let read : Front = c.in_ok-policy.field-0 in
    let before = g.S.Store.faults c.args.store.now in
    let middle = g.S.Store.faults c.load.new.store in
    let after = g.S.Store.faults c.load_held.new.store in
    let says : Says told (holding c.in-Some.observer read.policy command.view) middle after c.in-Err.fault =
    subst (λ (t : Option FileMap). Says t (holding c.in-Some.observer read.policy command.view) middle after c.in-Err.fault) c.in_ok-policy.ensures.files c.in-Err.ensures.err in
    refuse-held told command read c.in-Some.observer before middle after c.in-Err.fault c.in_ok-policy.ensures.count c.in_ok-policy.ensures.ok c.in-Some.is says
