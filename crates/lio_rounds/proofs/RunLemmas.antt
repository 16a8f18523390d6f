-- What a complete run by rounds shows.
use Rattle.std.proofs.Common.{◌≡◌, ◌∙◌, ap, sym, subst, ℕ, ◌+◌, List, [], ◌∷◌, Some}
use Rattle.lio_labels.specs.declared.label.Label.{Label}
use Rattle.lio_syntax.specs.Statements.{Procedure}
use Rattle.lio_calculus.specs.Step.{Cell, Configuration}
use Rattle.lio_calculus.specs.Run as calculus
use Rattle.lio_calculus.specs.Sound.{IsSound}
use Rattle.lio_calculus.specs.Laws.{RunSeenAs}
use Rattle.lio_calculus.proofs.EnabledLemmas.{seen_task_is_enabled_below}
use Rattle.lio_calculus.proofs.LawLemmas.{run_is_erased_run}
use Rattle.lio_calculus.proofs.LocalityLemmas.{step_changes_two_cells}
use Rattle.lio_rounds.proofs.MachineRuns.{first, run-nothing}
use Rattle.lio_calculus_runs.specs.Rounds.{rounds}
use Rattle.lio_calculus_runs.proofs.LowEndLemmas.{rounds_are_erased_rounds}
use Rattle.lio_policy.specs.Policy.{PolicyParts}
use Rattle.lio_start.specs.Job.{IsJob, JobParts, first_of}
use Rattle.lio_start.specs.Start.{start_of}
use Rattle.lio_start.proofs.LawLemmas.{cells_stand_in_order, start_is_sound}
use Rattle.lio_start.proofs.NameLemmas.{runs_are_printable}
use Rattle.lio_start.proofs.PowerLemmas.{releases_are_of_policy}
use Rattle.lio_calculus.proofs.SendLemmas.{sends_are_seen}
use Rattle.lio_rounds.specs.Headline.{IsRunOf, KeepsToPolicy}
use Rattle.lio_calculus.specs.Journals.{actors}
use Rattle.lio_rounds.specs.Runs.{IsByRounds, IsCompleteRun, RunsRounds, SeesChannels}

-- the actors of a run's journal are those that it was to run
run-actors : (ticket : ℕ) (c : Configuration) (ks : List ℕ) (ran : calculus.Ran) → calculus.run ticket c ks ≡ Some ran → actors ran.entries ≡ ks
run-actors ticket c [] ran is =
    let none : calculus.Ran = record { entries = []; last = c } in
    let ends : Some none ≡ Some ran = sym (run-nothing ticket c) ∙ is in
    let same : none ≡ ran = cc in
    ap (λ (r : calculus.Ran). actors r.entries) (sym same)
run-actors ticket c (k ∷ ks) ran is =
    let f = first ticket c k ks ran is in
    ap (λ (r : calculus.Ran). actors r.entries) f.is_run
    ∙ ap (λ (j : ℕ). j ∷ actors f.rest.entries) (step_changes_two_cells ticket c k f.turn f.is_step).actor
    ∙ ap (λ (js : List ℕ). k ∷ js) (run-actors (ticket + 1) f.turn.next ks f.rest f.is_rest)

-- so it is a run of its own actors
pub run-own_actors : (c : Configuration) (ks : List ℕ) (ran : calculus.Ran) → calculus.run 0 c ks ≡ Some ran → calculus.run 0 c (actors ran.entries) ≡ Some ran
run-own_actors c ks ran is = subst (λ (js : List ℕ). calculus.run 0 c js ≡ Some ran) (sym (run-actors 0 c ks ran is)) is

rounds-complete : (c : Configuration) (ran : calculus.Ran) → RunsRounds c ran → IsCompleteRun c ran
rounds-complete c ran is = record {
  is_run = run-own_actors c (rounds c) ran is.is_run;
  complete = is.complete;
  first = is.first;
  last = is.last;
}

-- an observer sees all that is sent to each channel below it
pub channels-seen : (policy : PolicyParts) (script : List Procedure) (texts : List (List ℕ)) (ks : List ℕ) (ran : calculus.Ran) → IsSound (start_of policy script texts)
    → calculus.run 0 (start_of policy script texts) ks ≡ Some ran → (observer : Label) → SeesChannels observer policy ran.entries
channels-seen policy script texts ks ran sound runs observer number channel at below =
    sends_are_seen observer channel.label [] number 0 0 (start_of policy script texts) ks ran sound
    (ap (λ (cell : Cell). cell.state) ((cells_stand_in_order policy script texts).channels number channel at)) below runs

-- a run of a job keeps to its policy
pub keeps-to_policy : (job : JobParts) (ks : List ℕ) (ran : calculus.Ran) → IsJob job → calculus.run 0 (first_of job) ks ≡ Some ran → KeepsToPolicy job ran
keeps-to_policy job ks ran is runs =
    let c : Configuration = first_of job in
    let sound : IsSound c = start_is_sound job.policy job.script job.inputs is.policy is.literals in
    let seen : (observer : Label) → RunSeenAs observer c ran = λ observer. run_is_erased_run observer c ks ran sound runs in
    record {
      seen = seen;
      enabled = λ observer k. seen_task_is_enabled_below observer ran.last k (seen observer).sound;
      channels = channels-seen job.policy job.script job.inputs ks ran sound runs;
      powers = releases_are_of_policy job.policy job.script job.inputs 0 ks ran is.policy is.literals runs;
      printable = runs_are_printable job.policy job.script job.inputs ks ran is.policy is.over runs;
    }

-- a complete run from a job's first configuration is a run of the job
pub complete-run_of_job : (job : JobParts) (ran : calculus.Ran) → IsJob job → IsCompleteRun (first_of job) ran → IsRunOf job ran
complete-run_of_job job ran is complete = record { is_run = complete; keeps = keeps-to_policy job (actors ran.entries) ran is complete.is_run }

-- the run of the rounds of a job is a complete run of it
pub run-of_job : (job : JobParts) (ran : calculus.Ran) → IsJob job → RunsRounds (first_of job) ran → IsRunOf job ran
run-of_job job ran is runs = complete-run_of_job job ran is (rounds-complete (first_of job) ran runs)

-- and it is by rounds
pub run-by_rounds : (c : Configuration) (ran : calculus.Ran) → RunsRounds c ran → IsByRounds c ran
run-by_rounds c ran runs = record {
  order = run-actors 0 c (rounds c) ran runs.is_run;
  seen = λ observer. rounds_are_erased_rounds observer c ran runs.first.sound runs.is_run;
}
