use Rattle.std.proofs.Common.{subst, List, ℕ, Option, Ok}
use Rattle.std.specs.Option.{option_map}
use Rattle.lio_outside.specs.FileMap.{FileMap}
use Rattle.lio_outside.specs.Asking.{Give}
use Rattle.lio_front.specs.Status.{Says}
use Rattle.lio_front.specs.Loading.{steps_under}
use Rattle.lio_front.proofs.LoadLemmas.{give-load, refuse-under}
use Rattle.lio_front.proofs.TextLemmas.{texts-policy, texts-script}
use Rattle.lio_front.proofs.loading.load.Goals as goal

pub returns-in_err-policy-clause-texts : goal.returns-in_err-policy-clause-texts
returns-in_err-policy-clause-texts g c =
    texts-policy (g.S.Store.holds c.args.store.now) c.args.policy.now c.args.script.now c.args.texts.now c.load_policy.new.texts c.in_err-policy.ensures.text c.in_err-policy.ensures.other

pub returns-in-Ok-clause-ok : goal.returns-in-Ok-clause-ok
returns-in-Ok-clause-ok g c =
    let label : Option (List ℕ) = option_map (λ text. text.now) c.args.label in
    give-load (g.S.Store.holds c.args.store.now) c.args.policy.now c.args.script.now label c.in_ok-policy.policy c.in-Ok.observer c.in-Ok.script c.in_ok-policy.ensures.ok
    (subst (λ (told : Option FileMap). Give told (steps_under c.in_ok-policy.policy c.args.script.now label) (Ok (c.in-Ok.observer, c.in-Ok.script))) c.in_ok-policy.ensures.files c.in-Ok.ensures.ok)

pub returns-in-Err-clause-err : goal.returns-in-Err-clause-err
returns-in-Err-clause-err g c =
    let label : Option (List ℕ) = option_map (λ text. text.now) c.args.label in
    refuse-under (g.S.Store.holds c.args.store.now) c.args.policy.now c.args.script.now label c.in_ok-policy.policy (g.S.Store.faults c.args.store.now) (g.S.Store.faults c.load_policy.new.store) (g.S.Store.faults c.load_under.new.store) c.in-Err.fault
    c.in_ok-policy.ensures.count c.in_ok-policy.ensures.ok
    (subst (λ (told : Option FileMap). Says told (steps_under c.in_ok-policy.policy c.args.script.now label) (g.S.Store.faults c.load_policy.new.store) (g.S.Store.faults c.load_under.new.store) c.in-Err.fault) c.in_ok-policy.ensures.files c.in-Err.ensures.err)

pub returns-in-Ok-clause-texts : goal.returns-in-Ok-clause-texts
returns-in-Ok-clause-texts g c = λ are.
    texts-script (g.S.Store.holds c.args.store.now) (g.S.Store.holds c.load_policy.new.store) c.args.policy.now c.args.script.now c.load_policy.new.texts c.load_under.new.texts c.in_ok-policy.ensures.files
    c.in-Ok.ensures.text c.in-Ok.ensures.other
    (texts-policy (g.S.Store.holds c.args.store.now) c.args.policy.now c.args.script.now c.args.texts.now c.load_policy.new.texts c.in_ok-policy.ensures.text c.in_ok-policy.ensures.other are)

pub returns-in-Err-clause-texts : goal.returns-in-Err-clause-texts
returns-in-Err-clause-texts g c = λ are.
    texts-script (g.S.Store.holds c.args.store.now) (g.S.Store.holds c.load_policy.new.store) c.args.policy.now c.args.script.now c.load_policy.new.texts c.load_under.new.texts c.in_ok-policy.ensures.files
    c.in-Err.ensures.text c.in-Err.ensures.other
    (texts-policy (g.S.Store.holds c.args.store.now) c.args.policy.now c.args.script.now c.args.texts.now c.load_policy.new.texts c.in_ok-policy.ensures.text c.in_ok-policy.ensures.other are)
