use Rattle.std.proofs.Common.{◌≡◌, ◌∙◌, ap, List, Option, map, ℕ}
use Rattle.std.proofs.lemmas.Result.{IfOk-weaker}
use Rattle.lio_calculus.specs.Erased.{erase}
use Rattle.lio_start.specs.Laws.{AreAlike}
use Rattle.lio_start.specs.Start.{start_of}
use Rattle.lio_erasure.specs.Low.{low_configuration_of}
use Rattle.lio_erasure.specs.declared.cells.LowConfig.{LowConfig}
use Rattle.lio_audit.specs.Inputs.{HasTexts, or_empty}
use Rattle.lio_audit.proofs.InputLemmas.{filled-alike, filled-each}
use Rattle.lio_audit.proofs.observer.low_start.Goals as goal

pub seen_start-requires-clause-each : goal.seen_start-requires-clause-each
seen_start-requires-clause-each c =
    filled-each c.args.policy.now.inputs c.args.inputs.now c.as_slice-2.result.now (c.as_slice-2.ensures ∙ c.in_ok-texts.ensures ∙ ap (λ (xs : List (Option (List ℕ))). map or_empty xs) c.as_slice.ensures) c.requires.each

pub returns-clause-erased : goal.returns-clause-erased
returns-clause-erased c =
    let observer = c.args.observer.now in
    let policy = c.args.policy.now in
    let script = c.args.script.now in
    let given = c.as_slice-2.result.now in
    let is : given ≡ map or_empty c.args.inputs.now = c.as_slice-2.ensures ∙ c.in_ok-texts.ensures ∙ ap (λ (xs : List (Option (List ℕ))). map or_empty xs) c.as_slice.ensures in
    IfOk-weaker c.seen_start.result
    (λ (low : LowConfig). (others : List (List ℕ)) → AreAlike observer policy.inputs given others → low_configuration_of script policy.longest low ≡ erase observer (start_of policy script others))
    (λ (low : LowConfig). (texts : List (List ℕ)) → HasTexts c.args.inputs.now texts → low_configuration_of script policy.longest low ≡ erase observer (start_of policy script texts))
    (λ low e texts has. e texts (filled-alike observer policy.inputs c.args.inputs.now given texts is c.requires.there has)) c.seen_start.ensures.erased
