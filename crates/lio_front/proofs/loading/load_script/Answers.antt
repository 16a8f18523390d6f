use Rattle.std.proofs.Common.{subst, sym, List, ℕ}
use Rattle.std.proofs.lemmas.Result.{err_from_is_err_and}
use Rattle.lio_policy.specs.declared.policy.Policy.{Policy}
use Rattle.lio_syntax.specs.Refusal.{Refuses}
use Rattle.lio_syntax.specs.Verdict.{IsOver, IsScript, script_fault}
use Rattle.lio_front.specs.declared.status.Status.{Status}
use Rattle.lio_front.specs.Status.{Says, of_script}
use Rattle.lio_front.specs.Loading.{script_steps}
use Rattle.lio_front.proofs.LoadLemmas.{give-script, refuse-script, refuse-start, says-bad_script, script_from-read}
use Rattle.lio_front.proofs.loading.load_script.Goals as goal

pub returns-in_err-script-clause-err : goal.returns-in_err-script-clause-err
returns-in_err-script-clause-err g c =
    let p = err_from_is_err_and c.from_residual-in_err-script.result c.from_residual-in_err-script.ensures.1 in
    let fault = c.in_err-script.field-0.0 in
    let after = g.S.Store.faults c.fetch.new.store in
    rw (p.1, p.2) (refuse-script (g.S.Store.holds c.args.store.now) c.args.policy.now c.args.script.now c.in_ok-text.text.items (g.S.Store.faults c.args.store.now) after (of_script fault) c.in_ok-text.ensures.count c.in_ok-text.ensures.ok
    (says-bad_script (g.S.Store.holds c.args.store.now) c.args.policy.now.names c.in_ok-text.text.items after after fault
    (subst (λ (text : List ℕ). Refuses (script_fault c.args.policy.now.names text) fault) c.as_slice.ensures.value
    (subst (λ (p : Policy). Refuses (script_fault p.names c.as_slice.result.now) fault) c.policy.view_is c.in_err-script.ensures.fault))))

pub returns-in-None-clause-ok : goal.returns-in-None-clause-ok
returns-in-None-clause-ok g c =
    let is : IsScript c.args.policy.now.names c.in_ok-text.text.items c.in_ok-script.script =
    subst (λ (text : List ℕ). IsScript c.args.policy.now.names text c.in_ok-script.script) c.as_slice.ensures.value
    (subst (λ (p : Policy). IsScript p.names c.as_slice.result.now c.in_ok-script.script) c.policy.view_is c.in_ok-script.ensures.script) in
    give-script (g.S.Store.holds c.args.store.now) c.args.policy.now c.args.script.now c.in_ok-text.text.items c.in_ok-script.script c.in_ok-text.ensures.ok
    (script_from-read c.args.policy.now.names c.in_ok-text.text.items c.in_ok-script.script is) (sym c.in-None.ensures)

pub returns-in-None-clause-over : goal.returns-in-None-clause-over
returns-in-None-clause-over g c = subst (λ (p : Policy). IsOver p.names c.in_ok-script.script) c.policy.view_is c.in_ok-script.ensures.over

pub returns-in-Some-clause-err : goal.returns-in-Some-clause-err
returns-in-Some-clause-err g c =
    let is : IsScript c.args.policy.now.names c.in_ok-text.text.items c.in_ok-script.script =
    subst (λ (text : List ℕ). IsScript c.args.policy.now.names text c.in_ok-script.script) c.as_slice.ensures.value
    (subst (λ (p : Policy). IsScript p.names c.as_slice.result.now c.in_ok-script.script) c.policy.view_is c.in_ok-script.ensures.script) in
    subst (λ (fault : Status). Says (g.S.Store.holds c.args.store.now) (script_steps c.args.policy.now c.args.script.now) (g.S.Store.faults c.args.store.now) (g.S.Store.faults c.fetch.new.store) fault) (sym c.from.ensures)
    (refuse-start (g.S.Store.holds c.args.store.now) c.args.policy.now c.args.script.now c.in_ok-text.text.items c.in_ok-script.script (g.S.Store.faults c.args.store.now) (g.S.Store.faults c.fetch.new.store) c.in-Some.fault
    c.in_ok-text.ensures.count c.in_ok-text.ensures.ok (script_from-read c.args.policy.now.names c.in_ok-text.text.items c.in_ok-script.script is) (sym c.in-Some.ensures))
