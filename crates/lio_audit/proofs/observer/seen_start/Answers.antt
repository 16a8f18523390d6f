use Rattle.std.proofs.Common.{◌≡◌, ◌∙◌, sym, subst, List, ℕ}
use Rattle.std.proofs.lemmas.Result.{IfOk-weaker}
use Rattle.lio_syntax.specs.Kept as kept
use Rattle.lio_syntax.specs.Statements.{Procedure}
use Rattle.lio_calculus.specs.Erased.{erase}
use Rattle.lio_calculus_runs.specs.Configuration.{NamesOnly}
use Rattle.lio_calculus_runs.proofs.NamedLowTurns.{erased_names_only}
use Rattle.lio_task.specs.Configuration.{configuration_of}
use Rattle.lio_start.specs.Laws.{AreAlike}
use Rattle.lio_start.specs.Start.{start_of}
use Rattle.lio_start.proofs.AlikeLemmas.{starts_look_alike}
use Rattle.lio_start.proofs.LawLemmas.{literals_are_said, start_is_sound}
use Rattle.lio_start.proofs.NameLemmas.{start_names_only}
use Rattle.lio_erasure.specs.Low.{IsSeenOfSound, low_configuration_of}
use Rattle.lio_erasure.specs.declared.cells.LowConfig.{LowConfig}
use Rattle.lio_audit.proofs.InputLemmas.{seen-first}
use Rattle.lio_audit.proofs.observer.seen_start.Goals as goal

pub returns-clause-erased : goal.returns-clause-erased
returns-clause-erased c =
    let observer = c.args.observer.now in
    let policy = c.args.policy.now in
    let script = c.args.script.now in
    let texts = c.args.texts.now in
    let config = c.in_ok-config.config in
    IfOk-weaker c.erase_config.result (λ (low : LowConfig). (s : List Procedure) → low_configuration_of s config.longest low ≡ erase observer (configuration_of s config))
    (λ (low : LowConfig). (others : List (List ℕ)) → AreAlike observer policy.inputs texts others → low_configuration_of script policy.longest low ≡ erase observer (start_of policy script others))
    (λ low e others alike. seen-first observer policy script texts config low c.in_ok-config.ensures.config e ∙ starts_look_alike observer policy script texts others alike) c.erase_config.ensures.erased

pub returns-clause-seen : goal.returns-clause-seen
returns-clause-seen c =
    let observer = c.args.observer.now in
    let policy = c.args.policy.now in
    let script = c.args.script.now in
    let texts = c.args.texts.now in
    let config = c.in_ok-config.config in
    let literals = literals_are_said script (subst kept.SaysLiterals (sym c.lines.ensures.lines) c.lines.ensures.literals) in
    IfOk-weaker c.erase_config.result (λ (low : LowConfig). (s : List Procedure) → low_configuration_of s config.longest low ≡ erase observer (configuration_of s config))
    (λ (low : LowConfig). IsSeenOfSound observer (low_configuration_of script policy.longest low))
    (λ low e. record { whole = start_of policy script texts; sound = start_is_sound policy script texts c.policy_keeps_rules.ensures literals; seen = seen-first observer policy script texts config low c.in_ok-config.ensures.config e })
    c.erase_config.ensures.erased

pub returns-clause-named : goal.returns-clause-named
returns-clause-named c =
    let observer = c.args.observer.now in
    let policy = c.args.policy.now in
    let script = c.args.script.now in
    let texts = c.args.texts.now in
    let config = c.in_ok-config.config in
    IfOk-weaker c.erase_config.result (λ (low : LowConfig). (s : List Procedure) → low_configuration_of s config.longest low ≡ erase observer (configuration_of s config))
    (λ (low : LowConfig). NamesOnly policy.names (low_configuration_of script policy.longest low))
    (λ low e. subst (NamesOnly policy.names) (sym (seen-first observer policy script texts config low c.in_ok-config.ensures.config e))
    (erased_names_only policy.names observer (start_of policy script texts) (start_names_only policy script texts c.policy_keeps_rules.ensures c.requires.over))) c.erase_config.ensures.erased
