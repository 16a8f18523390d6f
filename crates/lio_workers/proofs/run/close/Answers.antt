use Rattle.std.proofs.Common.{◌≡◌, ◌∙◌, ap, sym, subst, Some}
use Rattle.lio_calculus.specs.Step.{Configuration}
use Rattle.lio_calculus.specs.Run.{run}
use Rattle.lio_calculus.specs.Journals.{actors}
use Rattle.lio_rounds.specs.MachineParts.{machine_of}
use Rattle.lio_rounds.specs.MachineState.{MachineState}
use Rattle.lio_table.specs.Tables.{first_of, view_of}
use Rattle.lio_table.specs.Views.{configuration_from}
use Rattle.lio_workers.proofs.RunLemmas.{closed-journal, closed-numbered, closed-parts, closed-run, run-ends, run-goes_on}
use Rattle.lio_workers.proofs.run.close.Goals as goal

pub resumed-requires-clause-run : goal.resumed-requires-clause-run
resumed-requires-clause-run c =
    let first = first_of c.args.table in let entries = c.put_in_order.new.entries.items in
    record {
      first = configuration_from first;
      well_formed = c.requires.well_formed;
      tasks = actors entries;
      is_run = closed-run first (view_of c.args.seat) c.in-Ok.config c.in-Ok.ensures.ok entries (closed-journal (first_of c.args.table) (view_of c.args.seat) c.in-Ok.config c.in-Ok.ensures.ok c.args.entries.items c.put_in_order.new.entries.items c.requires.entries c.in_ok-put_in_order.ensures.journal) c.args.script c.requires.script;
    }

pub resumed-requires-clause-numbered : goal.resumed-requires-clause-numbered
resumed-requires-clause-numbered c = closed-numbered (first_of c.args.table) (view_of c.args.seat) c.in-Ok.config c.in-Ok.ensures.ok c.put_in_order.new.entries.items (closed-journal (first_of c.args.table) (view_of c.args.seat) c.in-Ok.config c.in-Ok.ensures.ok c.args.entries.items c.put_in_order.new.entries.items c.requires.entries c.in_ok-put_in_order.ensures.journal)

pub resumed-requires-clause-logs : goal.resumed-requires-clause-logs
resumed-requires-clause-logs c = closed-parts (first_of c.args.table) (view_of c.args.seat) c.in-Ok.config c.in-Ok.ensures.ok c.put_in_order.new.entries.items (closed-journal (first_of c.args.table) (view_of c.args.seat) c.in-Ok.config c.in-Ok.ensures.ok c.args.entries.items c.put_in_order.new.entries.items c.requires.entries c.in_ok-put_in_order.ensures.journal)

pub returns-in-Ok-run-clause-run : goal.returns-in-Ok-run-clause-run
returns-in-Ok-run-clause-run c =
    let first = first_of c.args.table in
    let start : Configuration = configuration_from first in
    let old : MachineState = machine_of c.in_ok-machine.machine in
    let new : MachineState = machine_of c.run.new.self in
    let so_far : run 0 start (actors old.entries) ≡ Some (record { entries = old.entries; last = old.configuration }) =
    subst (λ (m : MachineState). run 0 start (actors m.entries) ≡ Some (record { entries = m.entries; last = m.configuration })) (sym c.in_ok-machine.ensures)
    (closed-run first (view_of c.args.seat) c.in-Ok.config c.in-Ok.ensures.ok c.put_in_order.new.entries.items (closed-journal (first_of c.args.table) (view_of c.args.seat) c.in-Ok.config c.in-Ok.ensures.ok c.args.entries.items c.put_in_order.new.entries.items c.requires.entries c.in_ok-put_in_order.ensures.journal) c.args.script c.requires.script) in
    run-ends start c.args.script new (record { journal = c.finish-journal.result.0; config = c.finish-journal.result.1 }) c.requires.well_formed
    (run-goes_on start old new _ so_far c.in-Ok-run.ensures.ok) c.in-Ok-run.ensures.complete c.finish-journal.ensures.well_formed
    (sym (c.in-Ok-run.ensures.ok.script ∙ ap (λ (m : MachineState). m.script) c.in_ok-machine.ensures)) c.finish-journal.ensures.journal c.finish-journal.ensures.configuration
