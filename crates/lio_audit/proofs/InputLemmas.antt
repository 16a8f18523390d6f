-- What an observer sees where a run begins, by the texts that it has.
use Rattle.std.proofs.Common.{◌≡◌, ◌∙◌, refl, sym, ap, ℕ, List, Option, map, length}
use Rattle.std.specs.Prelude.{option_map, slice_get}
use Rattle.std.proofs.lemmas.List.{length-map}
use Rattle.std.proofs.lemmas.Option.{slice_get-map}
use Rattle.lio_labels.specs.declared.label.Label.{Label}
use Rattle.lio_syntax.specs.Statements.{Procedure}
use Rattle.lio_calculus.specs.Erased.{erase}
use Rattle.lio_calculus.specs.Step.{Configuration}
use Rattle.lio_task.specs.declared.config.Config.{Config}
use Rattle.lio_task.specs.Configuration.{configuration_of}
use Rattle.lio_policy.specs.Policy.{PolicyParts}
use Rattle.lio_policy.specs.declared.policy.FileEntry.{FileEntry}
use Rattle.lio_start.specs.Laws.{AreAlike}
use Rattle.lio_start.specs.Start.{start_of}
use Rattle.lio_erasure.specs.Low.{low_configuration_of}
use Rattle.lio_erasure.specs.declared.cells.LowConfig.{LowConfig}
use Rattle.lio_audit.specs.Inputs.{AreThere, HasTexts, or_empty}

-- how long a text may become in the first configuration
start-longest : (policy : PolicyParts) (script : List Procedure) (texts : List (List ℕ)) → (start_of policy script texts).program.longest ≡ policy.longest
unfolding start_of
start-longest policy script texts = refl

-- what is seen of a configuration that is the first over these texts
pub seen-first : (observer : Label) (policy : PolicyParts) (script : List Procedure) (texts : List (List ℕ)) (config : Config) (low : LowConfig) → configuration_of script config ≡ start_of policy script texts
    → ((s : List Procedure) → low_configuration_of s config.longest low ≡ erase observer (configuration_of s config)) → low_configuration_of script policy.longest low ≡ erase observer (start_of policy script texts)
seen-first observer policy script texts config low is erased =
    let longest : config.longest ≡ policy.longest = ap (λ (d : Configuration). d.program.longest) is ∙ start-longest policy script texts in
    ap (λ (n : ℕ). low_configuration_of script n low) (sym longest) ∙ erased script ∙ ap (erase observer) is

-- texts that fill the places of those that aren't there look alike to it
pub filled-alike : (observer : Label) (inputs : List FileEntry) (held : List (Option (List ℕ))) (filled texts : List (List ℕ)) → filled ≡ map or_empty held → AreThere observer inputs held → HasTexts held texts
    → AreAlike observer inputs filled texts
filled-alike observer inputs held filled texts is there has = record {
  count = ap (λ (xs : List (List ℕ)). length xs) is ∙ length-map held or_empty ∙ sym has.count;
  texts = λ i input at seen.
      let text = there i input at seen in
      ap (λ (xs : List (List ℕ)). slice_get xs i) is ∙ slice_get-map or_empty held i ∙ ap (option_map or_empty) text.1 ∙ sym (has.each i text.0 text.1);
}

pub filled-each : (inputs : List FileEntry) (held : List (Option (List ℕ))) (filled : List (List ℕ)) → filled ≡ map or_empty held → length held ≡ length inputs → length filled ≡ length inputs
filled-each inputs held filled is each = ap (λ (xs : List (List ℕ)). length xs) is ∙ length-map held or_empty ∙ each
