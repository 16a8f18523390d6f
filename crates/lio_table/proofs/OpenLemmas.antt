-- A table that is made of a configuration.
use Rattle.std.proofs.Common.{◌≡◌, sym, subst, ℕ, ◌+◌, List, length, map, replicate, Option, Some}
use Rattle.atomic_table.specs.Table.{opening}
use Rattle.lio_syntax.specs.Statements.{Procedure}
use Rattle.lio_calculus.specs.Sound.{IsSound}
use Rattle.lio_task.specs.declared.config.Config.{Config}
use Rattle.lio_task.specs.declared.config.Holder.{Holder}
use Rattle.lio_task.specs.Configuration.{configuration_of}
use Rattle.lio_task.specs.Logs.{AreFresh}
use Rattle.lio_table.specs.declared.view.Beginning.{Beginning}
use Rattle.lio_table.specs.Views.{configuration_from, with_all_tickets}
use Rattle.lio_table.specs.Rule.{Keeps}
use Rattle.lio_table.proofs.Opening.{fresh-kept}
use Rattle.lio_table.specs.Tables.{beginning_with}

-- it stands for the configuration
stands-for : (script : List Procedure) (config : Config) → IsSound (configuration_of script config) → IsSound (configuration_from (beginning_with script config))
unfolding configuration_from
stands-for script config sound = sound

pub opens : (script : List Procedure) (config : Config) (first : Beginning) (words : List ℕ) (slots : List (Option Holder)) → first ≡ beginning_with script config → words ≡ replicate (length config.holders.items + 1) 0
    → slots ≡ map Some config.holders.items → IsSound (configuration_of script config) → AreFresh config → Keeps first (opening words slots (with_all_tickets first))
opens script config first words slots is words_are slots_are sound fresh =
    subst (λ (t : Beginning × (List ℕ × List (Option Holder))). Keeps t.0 (opening t.1.0 t.1.1 (with_all_tickets t.0))) (λ i. (sym is i, (sym words_are i, sym slots_are i)))
    (fresh-kept (beginning_with script config) (stands-for script config sound) fresh)
