-- What contracts see of the code's machines, and the machines that they stand for.
use Rattle.std.specs.Prelude.{ℕ, List, refl}
use Rattle.std.specs.Coded.{Coded, code_by, coded_list, coded×, coded_ℕ}
use Rattle.lio_values.specs.declared.entry.Entry.{Entry}
use Rattle.lio_values.specs.contracts.entry.Entry as entry_contract
use Rattle.lio_syntax.specs.Statements.{Procedure}
use Rattle.lio_syntax.specs.ScriptCode.{script_code}
use Rattle.lio_task.specs.declared.config.Config.{Config}
use Rattle.lio_task.specs.contracts.config.Config as config_contract
use Rattle.lio_task.specs.Configuration.{configuration_of}
use Rattle.lio_rounds.specs.MachineState.{MachineState}

-- a machine's script, its configuration in the code's words, its entries and its order
pub record MachineParts : Type 0 where
  pub script : List Procedure
  pub config : Config
  pub entries : List Entry
  pub order : List ℕ

-- these parts are told apart as a tuple is
abbrev pub machine_code : Coded MachineParts
machine_code =
    code_by (List Procedure × (Config × (List Entry × List ℕ))) (coded× script_code (coded× config_contract.the_row.coded (coded× (coded_list entry_contract.the_row.coded) (coded_list coded_ℕ))))
    (λ m. (m.script, (m.config, (m.entries, m.order)))) (λ t. record { script = t.0; config = t.1.0; entries = t.1.1.0; order = t.1.1.1 }) (λ m. refl)

-- the machine that the parts stand for
abbrev pub machine_of : MachineParts → MachineState
machine_of parts = record {
  script = parts.script;
  configuration = configuration_of parts.script parts.config;
  entries = parts.entries;
  order = parts.order;
}
