use Rattle.std.proofs.Common.{◌≡◌, ◌∙◌, ap, sym, ℕ, List, None}
use Rattle.std.proofs.lemmas.Result.{IfErr-weaker, IfOk-weaker}
use Rattle.lio_front.specs.Clash.{clash}
use Rattle.lio_front.specs.Sorted.{named}
use Rattle.lio_host_main.specs.Order.{names_added, names_read}
use Rattle.lio_host_main.proofs.Prepares.{give-taking, no-name, refuse-input}
use Rattle.lio_host_main.proofs.prepare.take_inputs.Goals as goal

pub returns-clause-ok : goal.returns-clause-ok
returns-clause-ok g c =
    let none : clash c.args.policy.now (names_added (named c.args.command)) (names_read (named c.args.command)) ≡ None =
    ap (λ (names : List (List ℕ)). clash c.args.policy.now names (names_read (named c.args.command))) (sym c.in_ok-added.ensures) ∙ ap (clash c.args.policy.now c.in_ok-added.added) (sym c.in_ok-read.ensures)
    ∙ sym c.in_ok-name.ensures ∙ no-name c.in_ok-name.field-0 c.in_default.not-Some in
    IfOk-weaker c.load_inputs.result _ _ (λ inputs gave. give-taking (g.S.Store.holds c.args.store.now) (named c.args.command) c.args.policy.now inputs none gave) c.load_inputs.ensures.ok

pub returns-clause-err : goal.returns-clause-err
returns-clause-err g c =
    let none : clash c.args.policy.now (names_added (named c.args.command)) (names_read (named c.args.command)) ≡ None =
    ap (λ (names : List (List ℕ)). clash c.args.policy.now names (names_read (named c.args.command))) (sym c.in_ok-added.ensures) ∙ ap (clash c.args.policy.now c.in_ok-added.added) (sym c.in_ok-read.ensures)
    ∙ sym c.in_ok-name.ensures ∙ no-name c.in_ok-name.field-0 c.in_default.not-Some in
    IfErr-weaker c.load_inputs.result _ _
    (λ status says. refuse-input (g.S.Store.holds c.args.store.now) (named c.args.command) c.args.policy.now (g.S.Store.faults c.args.store.now) (g.S.Store.faults c.load_inputs.new.store) status none says)
    c.load_inputs.ensures.err
