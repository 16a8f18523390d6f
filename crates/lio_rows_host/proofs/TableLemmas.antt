-- A table of the first configuration of a job, the history that its logs give, and a node that a seat claimed.
use Rattle.std.proofs.Common.{◌≡◌, ◌∙◌, refl, sym, ap, subst, ℕ, List, All, Contains, Some}
use Rattle.lio_values.specs.declared.entry.Entry.{Entry}
use Rattle.lio_events.specs.Printable.{IsPrintable}
use Rattle.lio_syntax.specs.Statements.{Procedure}
use Rattle.lio_calculus.specs.Step.{Configuration}
use Rattle.lio_calculus.specs.Run.{Ran, run}
use Rattle.lio_calculus.specs.Journals.{IsMerged, actors}
use Rattle.lio_calculus.proofs.JournalLemmas.{has-first, one_merge}
use Rattle.lio_task.specs.declared.config.Config.{Config}
use Rattle.lio_task.specs.Configuration.{configuration_of}
use Rattle.lio_task.specs.Logs.{log_in}
use Rattle.lio_start.specs.Job.{IsJob, JobParts, first_of as start_of}
use Rattle.lio_start.proofs.NameLemmas.{runs_are_printable}
use Rattle.lio_table.specs.Claims.{HasClaimed}
use Rattle.lio_table.specs.Closing.{HasRunTo}
use Rattle.lio_table.specs.Tables.{beginning_with}
use Rattle.lio_table.specs.declared.view.Beginning.{Beginning}
use Rattle.lio_table.specs.declared.view.Claimed.{Claimed}
use Rattle.lio_table.specs.declared.view.View.{View}
use Rattle.lio_table.specs.Views.{HoldsNode, configuration_from}

-- what a table began with, as a configuration
begins_with : (script : List Procedure) (config : Config) → configuration_from (beginning_with script config) ≡ configuration_of script config
unfolding configuration_from
begins_with script config = refl

-- a table of the first configuration of a job begins with it
pub starts : (job : JobParts) (script : List Procedure) (config : Config) (first : Beginning) → script ≡ job.script → configuration_of job.script config ≡ start_of job → first ≡ beginning_with script config
    → configuration_from first ≡ start_of job
starts job script config first same start is =
    ap configuration_from (is ∙ ap (λ (s : List Procedure). beginning_with s config) same) ∙ begins_with job.script config ∙ start

-- the merge of the logs of a closed table that began with a job can be printed
pub closed_printable : (job : JobParts) (first : Beginning) (view : View) (config : Config) (merged : List Entry) → IsJob job → configuration_from first ≡ start_of job → HasRunTo first view config → IsMerged (log_in config) merged
    → All (IsPrintable job.policy.names) merged
closed_printable job first view config merged is start closed is_merge =
    let journal : List Entry = closed.has_run.journal in
    let ran : Ran = record { entries = journal; last = configuration_from (record first { holders = config.holders.items }) } in
    let here : run 0 (start_of job) (actors journal) ≡ Some ran = subst (λ (c : Configuration). run 0 c (actors journal) ≡ Some ran) start closed.has_run.run in
    let printable : All (IsPrintable job.policy.names) journal = runs_are_printable job.policy job.script job.inputs (actors journal) ran is.policy is.over here in
    subst (All (IsPrintable job.policy.names)) (one_merge (log_in config) journal merged closed.has_run.merged is_merge) printable

-- a seat that held no node holds the one that it claimed
pub claimed_holds : (n : ℕ) (old new : View) → HasClaimed n old new → HoldsNode new n
claimed_holds n old new claims =
    let node : Claimed = record { number = n; log = claims.holder.node.log; found = claims.holder.node.waiters } in
    record { node = node; has = subst (λ (v : View). Contains v.claimed node) (sym claims.view) (has-first node old.claimed); number = refl }
