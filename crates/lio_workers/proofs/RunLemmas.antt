-- From a closed table to a complete run.
use Rattle.std.proofs.Common.{◌≡◌, ◌∙◌, refl, ap, sym, subst, ℕ, List, ◌++◌, map, arith, Some}
use Rattle.lio_values.specs.declared.entry.Entry.{Entry}
use Rattle.lio_calculus.specs.Step.{Configuration}
use Rattle.lio_calculus.specs.Run.{Ran, run}
use Rattle.lio_syntax.specs.Statements.{Procedure}
use Rattle.lio_task_turns.specs.StateOf.{program_of}
use Rattle.lio_calculus.specs.Journals.{AreNumberedFrom, ArePartsOf, HaveSameEntries, actors}
use Rattle.lio_calculus_runs.specs.Rounds.{IsComplete}
use Rattle.lio_calculus_runs.specs.WellFormed.{IsWellFormed}
use Rattle.lio_task.specs.Configuration.{cell_of, configuration_of}
use Rattle.lio_task.specs.Logs.{log_in}
use Rattle.lio_task.specs.declared.config.Config.{Config}
use Rattle.lio_rounds.specs.declared.by_rounds.Ran as code
use Rattle.lio_rounds.specs.MachineState.{MachineState, HasRun}
use Rattle.lio_rounds.specs.Runs.{IsCompleteRun, ran_of}
use Rattle.lio_rounds.proofs.MachineRuns.{run-append}
use Rattle.lio_rounds.proofs.RunLemmas.{run-own_actors}
use Rattle.lio_table.specs.Closing.{HasRunTo}
use Rattle.lio_table.specs.Tables.{beginning_with}
use Rattle.lio_table.specs.declared.view.Beginning.{Beginning}
use Rattle.lio_table.specs.declared.view.View.{View}
use Rattle.lio_table.specs.Views.{configuration_from}

-- what a table began with, as a configuration
pub begins-with : (script : List Procedure) (config : Config) → configuration_from (beginning_with script config) ≡ configuration_of script config
unfolding configuration_from
begins-with script config = refl

-- and what it was closed with
closes-with : (first : Beginning) (script : List Procedure) (config : Config) → script ≡ first.script → config.longest ≡ first.longest → configuration_from (record first { holders = config.holders.items }) ≡ configuration_of script config
unfolding configuration_from
closes-with first script config same longest = λ i. record { program = program_of (sym same i) (sym longest i); cells = map (cell_of (sym same i)) config.holders.items }

module _ (first : Beginning) (view : View) (config : Config) (closed : HasRunTo first view config) where
  -- the entries of the turns that were taken, in the order of their tickets, are the journal of a closed table
  pub closed-journal : (old entries : List Entry) → HaveSameEntries old view.drawn → ((journal : List Entry) → AreNumberedFrom 0 journal → HaveSameEntries old journal → entries ≡ journal) → closed.has_run.journal ≡ entries
  closed-journal old entries same ordered = sym (ordered closed.has_run.journal closed.has_run.numbered (λ p. same p ∙ closed.has_run.drawn p))

  module _ (entries : List Entry) (is : closed.has_run.journal ≡ entries) where
    pub closed-numbered : AreNumberedFrom 0 entries
    closed-numbered = subst (AreNumberedFrom 0) is closed.has_run.numbered

    pub closed-parts : ArePartsOf entries (log_in config)
    closed-parts = subst (λ (journal : List Entry). ArePartsOf journal (log_in config)) is closed.has_run.parts

    pub closed-run : (script : List Procedure) → script ≡ first.script → run 0 (configuration_from first) (actors entries) ≡ Some (record { entries = entries; last = configuration_of script config })
    closed-run script same =
        let last : configuration_from (record first { holders = config.holders.items }) ≡ configuration_of script config = closes-with first script config same closed.longest in
        subst (λ (r : Ran). run 0 (configuration_from first) (actors r.entries) ≡ Some r) (λ i. record { entries = is i; last = last i }) closed.has_run.run

-- a run goes on with what a machine has run
pub run-goes_on : (c : Configuration) (old new : MachineState) (ks : List ℕ) → run 0 c (actors old.entries) ≡ Some (record { entries = old.entries; last = old.configuration }) → HasRun old new ks
    → run 0 c (actors new.entries) ≡ Some (record { entries = new.entries; last = new.configuration })
run-goes_on c old new ks so_far more =
    let here : Ran = record { entries = old.entries; last = old.configuration } in
    let then : Ran = record { entries = more.added; last = new.configuration } in
    let both : Ran = record { entries = old.entries ++ more.added; last = new.configuration } in
    let same : both ≡ record { entries = new.entries; last = new.configuration } = ap (λ (es : List Entry). record { entries = es; last = new.configuration }) (sym more.entries) in
    subst (λ (r : Ran). run 0 c (actors r.entries) ≡ Some r) same
    (run-own_actors c (actors old.entries ++ ks) both
    (run-append 0 c (actors old.entries) ks here then so_far (subst (λ (n : ℕ). run n old.configuration ks ≡ Some then) (omega arith) more.is_run)))

-- a run to a configuration in which no task can take a turn
pub run-ends : (c : Configuration) (script : List Procedure) (machine : MachineState) (ran : code.Ran) → IsWellFormed c → run 0 c (actors machine.entries) ≡ Some (record { entries = machine.entries; last = machine.configuration })
    → IsComplete machine.configuration → IsWellFormed machine.configuration → script ≡ machine.script → ran.journal ≡ machine.entries → configuration_of machine.script ran.config ≡ machine.configuration → IsCompleteRun c (ran_of script ran)
run-ends c script machine ran first runs complete well_formed is entries last =
    let ends : configuration_of script ran.config ≡ machine.configuration = ap (λ (s : List Procedure). configuration_of s ran.config) is ∙ last in
    let here : Ran = record { entries = machine.entries; last = machine.configuration } in
    let same : here ≡ ran_of script ran =
    ap (λ (es : List Entry). record { entries = es; last = machine.configuration }) (sym entries) ∙ ap (λ (d : Configuration). record { entries = ran.journal; last = d }) (sym ends) in
    record {
      is_run = subst (λ (r : Ran). run 0 c (actors r.entries) ≡ Some r) same runs;
      complete = subst IsComplete (sym ends) complete;
      first = first;
      last = subst IsWellFormed (sym ends) well_formed;
    }
