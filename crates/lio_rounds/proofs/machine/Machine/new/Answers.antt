use Rattle.std.proofs.Common.{◌≡◌, ◌∙◌, List, [], Some, sym, ap, subst}
use Rattle.std.specs.Prelude.{IfOk}
use Rattle.lio_values.specs.declared.entry.Entry.{Entry}
use Rattle.lio_calculus.specs.Run.{Ran}
use Rattle.lio_calculus.specs.Step.{Configuration}
use Rattle.lio_calculus_runs.specs.Rounds.{tasks}
use Rattle.lio_calculus.specs.Journals.{AreNumberedFrom, of_cell}
use Rattle.lio_task.specs.Configuration.{configuration_of}
use Rattle.lio_task.proofs.LogLemmas.{fresh-log}
use Rattle.lio_rounds.specs.MachineState.{MachineState}
use Rattle.lio_rounds.specs.MachineParts.{MachineParts, machine_of}
use Rattle.lio_rounds.proofs.MachineRuns.{run-nothing}
use Rattle.lio_rounds.proofs.machine.Machine.new.Goals as goal

pub resumed-requires-clause-run : goal.resumed-requires-clause-run
resumed-requires-clause-run c =
    let here : Configuration = configuration_of c.args.script c.args.config in
    let made : List Entry → Ran = λ es. record { entries = es; last = here } in
    record { first = here; well_formed = c.requires.well_formed; tasks = []; is_run = run-nothing 0 here ∙ ap (λ (es : List Entry). Some (made es)) (sym c.new.ensures.items) }

pub resumed-requires-clause-numbered : goal.resumed-requires-clause-numbered
resumed-requires-clause-numbered c = subst (AreNumberedFrom 0) (sym c.new.ensures.items) tt

pub resumed-requires-clause-logs : goal.resumed-requires-clause-logs
resumed-requires-clause-logs c = λ n. fresh-log c.args.config n c.requires.fresh ∙ ap (of_cell n) (sym c.new.ensures.items)

pub returns : goal.returns
returns c =
    let here : Configuration = configuration_of c.args.script c.args.config in
    subst (λ (es : List Entry). IfOk c.resumed.result (λ (machine : MachineParts). let m : MachineState = record { script = c.args.script; configuration = here; entries = es; order = tasks here } in machine_of machine ≡ m)) c.new.ensures.items c.resumed.ensures
