use Rattle.lio_task.specs.Configuration.{configuration_of}
use Rattle.lio_task.proofs.LogLemmas.{fresh-later, later-next}
use Rattle.lio_bench.proofs.turns.steps.Goals as goal

pub loop-ticket-init : goal.loop-ticket-init
loop-ticket-init c = record { sound = c.requires.sound; later = fresh-later c.args.config.now 0 c.requires.fresh }

pub loop-ticket-preserved : goal.loop-ticket-preserved
loop-ticket-preserved c =
    let script = c.args.script.now in
    record {
      sound = c.in_ok-entry.ensures.sound;
      later = later-next (configuration_of script c.loop-ticket.config) (configuration_of script c.step.new.self) c.loop-ticket.config c.step.new.self 0 c.loop-ticket.ticket c.in_ok-entry.entry
          c.in_ok-entry.ensures.ok c.loop-ticket.invariant.later c.in_ok-entry.ensures.logs;
    }
