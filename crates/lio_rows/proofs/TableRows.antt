-- A table of the first configuration of a job, and the history that its logs give.
use Rattle.std.proofs.Common.{◌≡◌, ◌∙◌, refl, ap, subst, List, All, Some}
use Rattle.lio_values.specs.declared.entry.Entry.{Entry}
use Rattle.lio_events.specs.Printable.{IsPrintable}
use Rattle.lio_syntax.specs.Statements.{Procedure}
use Rattle.lio_calculus.specs.Step.{Configuration}
use Rattle.lio_calculus.specs.Run.{Ran, run}
use Rattle.lio_calculus.specs.Journals.{IsMerged, actors}
use Rattle.lio_calculus.proofs.JournalLemmas.{one_merge}
use Rattle.lio_task.specs.declared.config.Config.{Config}
use Rattle.lio_task.specs.Configuration.{configuration_of}
use Rattle.lio_task.specs.Logs.{log_in}
use Rattle.lio_start.specs.Job.{IsJob, JobParts, first_of as start_of}
use Rattle.lio_start.proofs.NameLemmas.{runs_are_printable}
use Rattle.lio_table.specs.Closing.{HasRunTo}
use Rattle.lio_table.specs.Tables.{beginning_with, first_of}
use Rattle.lio_table.specs.declared.table.Table.{Table}
use Rattle.lio_table.specs.declared.view.Beginning.{Beginning}
use Rattle.lio_table.specs.declared.view.View.{View}
use Rattle.lio_table.specs.Views.{configuration_from}
use Rattle.lio_rows.specs.Tables.{Begins}

-- what a table began with, as a configuration
begins_with : (script : List Procedure) (config : Config) → configuration_from (beginning_with script config) ≡ configuration_of script config
unfolding configuration_from
begins_with script config = refl

-- a table of the first configuration of a job begins with it
pub job_begins : (job : JobParts) (script : List Procedure) (config : Config) (table : Table) → script ≡ job.script → configuration_of job.script config ≡ start_of job → first_of table ≡ beginning_with script config → Begins job table
job_begins job script config table same start first =
    let begun : first_of table ≡ beginning_with job.script config = first ∙ ap (λ (s : List Procedure). beginning_with s config) same in
    record {
      script = ap (λ (b : Beginning). b.script) begun;
      start = ap configuration_from begun ∙ begins_with job.script config ∙ start;
    }

-- the merge of the logs of a closed table that began with a job can be printed
pub closed_printable : (job : JobParts) (table : Table) (view : View) (config : Config) (merged : List Entry) → IsJob job → Begins job table → HasRunTo (first_of table) view config → IsMerged (log_in config) merged
    → All (IsPrintable job.policy.names) merged
closed_printable job table view config merged is begins closed is_merge =
    let journal : List Entry = closed.has_run.journal in
    let ran : Ran = record { entries = journal; last = configuration_from (record (first_of table) { holders = config.holders.items }) } in
    let here : run 0 (start_of job) (actors journal) ≡ Some ran = subst (λ (c : Configuration). run 0 c (actors journal) ≡ Some ran) begins.start closed.has_run.run in
    let printable : All (IsPrintable job.policy.names) journal = runs_are_printable job.policy job.script job.inputs (actors journal) ran is.policy is.over here in
    subst (All (IsPrintable job.policy.names)) (one_merge (log_in config) journal merged closed.has_run.merged is_merge) printable
