use Rattle.std.proofs.Common.{◌≡◌, ◌∙◌, ℕ, ◌^◌, ◌<◌, List, length, sym, ap, subst, arith}
use Rattle.std.proofs.lemmas.List.{length-map}
use Rattle.lio_values.specs.declared.entry.Entry.{Entry}
use Rattle.lio_syntax.specs.Statements.{Procedure}
use Rattle.lio_calculus.specs.Step.{Configuration}
use Rattle.lio_calculus_runs.specs.Rounds.{tasks}
use Rattle.lio_calculus_runs.specs.RoundLaws.{IsOrderOf}
use Rattle.lio_calculus_runs.proofs.OrderLemmas.{tasks_are_an_order}
use Rattle.lio_calculus_runs.proofs.WellFormedTurns.{run_keeps_well_formed}
use Rattle.lio_calculus_runs.specs.WellFormed.{IsWellFormed}
use Rattle.lio_task.specs.declared.config.Config.{Config}
use Rattle.lio_task.specs.declared.config.Holder.{Holder}
use Rattle.lio_task.specs.Configuration.{cell_of, configuration_of}
use Rattle.lio_rounds.specs.Invariant.{IsRunTo}
use Rattle.lio_rounds.specs.MachineState.{MachineState}
use Rattle.lio_rounds.proofs.SleepLemmas.{sleepers-none}
use Rattle.lio_rounds.proofs.HolderTasks.{holders_from, holders_from-end, tasks_from-holders}
use Rattle.lio_rounds.proofs.machine.Machine.resumed.Goals as goal

-- the configuration is well-formed, as the first one was
well_formed_here : (script : List Procedure) (config : Config) (entries : List Entry) → IsRunTo (configuration_of script config) entries → IsWellFormed (configuration_of script config)
well_formed_here script config entries ran =
    run_keeps_well_formed 0 ran.first ran.tasks (record { entries = entries; last = configuration_of script config }) ran.well_formed ran.is_run

holders_few : (script : List Procedure) (config : Config) (entries : List Entry) → IsRunTo (configuration_of script config) entries → length config.holders.items < 2 ^ 31
holders_few script config entries ran =
    subst (λ (n : ℕ). n < 2 ^ 31) (length-map config.holders.items (cell_of script)) (well_formed_here script config entries ran).sound.few

pub overflow_cast-k : goal.overflow_cast-k
overflow_cast-k c =
    let few : length c.args.config.holders.items < 2 ^ 31 = holders_few c.args.script c.args.config c.args.entries.items c.requires.run in
    let inside : c.loop-k.k < length c.args.config.holders.items =
    subst (λ (hs : List Holder). c.loop-k.k < length hs) c.deref-holder-items.ensures.value c.loop-k-test.true in
    record { fits = omega (arith, few, inside) }

pub invariant_of-result : goal.invariant_of-result
invariant_of-result c =
    let here : Configuration = configuration_of c.args.script c.args.config in
    let order : c.loop-k.order.items ≡ tasks here =
    holders_from-end c.loop-k.order.items c.loop-k.k c.deref-holder-items.result.now c.loop-k.invariant c.loop-k-test.false
    ∙ ap (holders_from 0) c.deref-holder-items.ensures.value ∙ tasks_from-holders c.args.script 0 c.args.config.holders.items in (
      record {
        ran = c.requires.run;
        well_formed = well_formed_here c.args.script c.args.config c.args.entries.items c.requires.run;
        lists = subst (IsOrderOf here) (sym order) (tasks_are_an_order here);
        numbered = c.requires.numbered;
      },
      sleepers-none here c.loop-k.order.items c.new.result c.new.ensures,
      record { parts = c.requires.logs },
    )

pub returns : goal.returns
returns c =
    let here : Configuration = configuration_of c.args.script c.args.config in
    let order : c.loop-k.order.items ≡ tasks here =
    holders_from-end c.loop-k.order.items c.loop-k.k c.deref-holder-items.result.now c.loop-k.invariant c.loop-k-test.false
    ∙ ap (holders_from 0) c.deref-holder-items.ensures.value ∙ tasks_from-holders c.args.script 0 c.args.config.holders.items in
    ap (λ (ks : List ℕ). let m : MachineState = record { script = c.args.script; configuration = here; entries = c.args.entries.items; order = ks } in m) order
