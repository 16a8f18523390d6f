-- Tables that begin with well-formed configurations.
use Rattle.std.proofs.Common.{◌≡◌, sym, subst, map}
use Rattle.lio_calculus.specs.Journals.{actors}
use Rattle.lio_calculus.specs.Logs.{folded}
use Rattle.lio_calculus_runs.specs.WellFormed.{IsWellFormed}
use Rattle.lio_calculus_runs.proofs.WellFormedTurns.{run_keeps_well_formed}
use Rattle.lio_task.specs.Configuration.{cell_of, configuration_of}
use Rattle.lio_task.specs.declared.config.Config.{Config}
use Rattle.lio_task_turns.specs.StateOf.{program_of}
use Rattle.lio_table.specs.declared.view.Beginning.{Beginning}
use Rattle.lio_table.specs.Closing.{ClosedTableIsWellFormed, TableIsWellFormed}
use Rattle.lio_table.specs.Views.{configuration_from}

-- what a table was closed with, as a configuration
closes-with : (first : Beginning) (config : Config) → config.longest ≡ first.longest → configuration_from (record first { holders = config.holders.items }) ≡ configuration_of first.script config
unfolding configuration_from
closes-with first config longest = λ i. record { program = program_of first.script (sym longest i); cells = map (cell_of first.script) config.holders.items }

pub closed_table_is_well_formed : ClosedTableIsWellFormed
closed_table_is_well_formed first view config begun closed =
    let ran = closed.has_run in
    let ended : IsWellFormed (configuration_from (record first { holders = config.holders.items })) =
    run_keeps_well_formed 0 (configuration_from first) (actors ran.journal) (record { entries = ran.journal; last = configuration_from (record first { holders = config.holders.items }) }) begun ran.run in
    subst IsWellFormed (closes-with first config closed.longest) ended

pub table_is_well_formed : TableIsWellFormed
table_is_well_formed first s journal logs begun so_far =
    run_keeps_well_formed 0 (configuration_from first) (actors journal) (record { entries = journal; last = folded (configuration_from first) logs }) begun so_far.run.is_run
