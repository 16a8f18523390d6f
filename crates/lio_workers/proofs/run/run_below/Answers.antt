use Rattle.std.proofs.Common.{◌≡◌, ◌∙◌, ap, subst, sym, List}
use Rattle.std.specs.Prelude.{IfOk}
use Rattle.lio_calculus.specs.Step.{Configuration}
use Rattle.lio_calculus_runs.specs.WellFormed.{IsWellFormed}
use Rattle.lio_syntax.specs.Statements.{Procedure}
use Rattle.lio_task.specs.Configuration.{configuration_of}
use Rattle.lio_rounds.specs.Runs.{IsCompleteRun, ran_of}
use Rattle.lio_table.specs.Tables.{first_of}
use Rattle.lio_table.specs.Views.{configuration_from}
use Rattle.lio_workers.proofs.RunLemmas.{begins-with}
use Rattle.lio_workers.proofs.run.run_below.Goals as goal

pub close-requires-clause-well_formed : goal.close-requires-clause-well_formed
close-requires-clause-well_formed g c =
    let begun : configuration_from (first_of c.in-Ok.both.0) ≡ configuration_of c.args.script.now c.args.start =
    ap configuration_from c.in-Ok.ensures.first ∙ begins-with c.args.script.now c.args.start in
    subst IsWellFormed (sym begun) c.requires.well_formed

pub returns-in-Ok-worked-clause-run : goal.returns-in-Ok-worked-clause-run
returns-in-Ok-worked-clause-run g c =
    let begun : configuration_from (first_of c.in-Ok.both.0) ≡ configuration_of c.args.script.now c.args.start =
    ap configuration_from c.in-Ok.ensures.first ∙ begins-with c.args.script.now c.args.start in
    let here = subst (λ (d : Configuration). IfOk c.close.result (λ ran. IsCompleteRun d (ran_of c.in_ok-own.own ran))) begun c.close.ensures.run in
    subst (λ (script : List Procedure). IfOk c.close.result (λ ran. IsCompleteRun (configuration_of c.args.script.now c.args.start) (ran_of script ran))) c.in_ok-own.ensures here
