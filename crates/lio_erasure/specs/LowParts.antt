-- The erased calculus as contracts see it.
use Rattle.std.specs.Prelude.{ℕ, List, Option, refl}
use Rattle.std.specs.Coded.{Coded, code_by, coded_list, coded_option, coded×, coded_ℕ}
use Rattle.lio_labels.specs.declared.label.Label.{Label}
use Rattle.lio_labels.specs.contracts.label.Label as label_contract
use Rattle.lio_syntax.specs.Statements.{Procedure}
use Rattle.lio_syntax.specs.ScriptCode.{script_code}
use Rattle.lio_calculus.specs.Step.{Configuration}
use Rattle.lio_task.specs.declared.config.Holder.{Holder}
use Rattle.lio_task.specs.contracts.config.Holder as holder_contract
use Rattle.lio_erasure.specs.Low.{low_configuration_of}

-- the parts of the erased calculus: the script, how long a text may become, the observer, and the holders
pub record LowParts : Type 0 where
  pub script : List Procedure
  pub longest : ℕ
  pub observer : Label
  pub holders : List (Option Holder)

-- these parts are told apart as a tuple is
abbrev pub low_code : Coded LowParts
low_code =
    code_by (List Procedure × (ℕ × (Label × List (Option Holder)))) (coded× script_code (coded× coded_ℕ (coded× label_contract.the_row.coded (coded_list (coded_option holder_contract.the_row.coded)))))
    (λ p. (p.script, (p.longest, (p.observer, p.holders)))) (λ t. record { script = t.0; longest = t.1.0; observer = t.1.1.0; holders = t.1.1.1 }) (λ p. refl)

-- the erased calculus: the observer, and the configuration as the observer sees it
pub record ErasedState : Type 0 where
  pub observer : Label
  pub configuration : Configuration

-- the erased calculus that the parts stand for
abbrev pub low_of : LowParts → ErasedState
low_of parts = record { observer = parts.observer; configuration = low_configuration_of parts.script parts.longest parts.holders }
