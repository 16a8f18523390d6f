use Rattle.std.proofs.Common.{◌≡◌, ◌∙◌, refl, ap, List}
use Rattle.lio_values.specs.declared.act.Act.TheVariants.{Step}
use Rattle.lio_values.specs.declared.act.Reply.TheVariants.{Done}
use Rattle.lio_values.specs.declared.entry.Entry.{Entry}
use Rattle.lio_task.specs.declared.go.Way.TheVariants as way
use Rattle.lio_task.specs.Configuration.{configuration_of}
use Rattle.lio_task.specs.Logs.{HasSameLogs}
use Rattle.lio_task.specs.Turns.{with_turn}
use Rattle.lio_task.proofs.HolderLemmas.{on_err, same-configuration, with_holder}
use Rattle.lio_task.proofs.LogLemmas.{alone-appends, alone-kept, later-at}
use Rattle.lio_task.proofs.TurnLemmas.{actor-job, alone-steps, own-can, owns-at}
use Rattle.lio_task.proofs.config.Config.short_step.Goals as goal

pub prepare_short-requires : goal.prepare_short-requires
prepare_short-requires c =
    let script = c.args.script.now in let config = c.args.self.now in let holder = c.in-Some.actor.now in
    own-can script config.longest holder Step Done (way.Short c.args.short)
    (owns-at script config c.args.k holder Step Done (way.Short c.args.short) (record { within = c.in-Some.ensures.item.3.0; is = c.in-Some.ensures.value }) c.requires.plans)

pub returns-in_err-prepare_short-clause-err : goal.returns-in_err-prepare_short-clause-err
returns-in_err-prepare_short-clause-err c =
    let script = c.args.script.now in let config = c.args.self.now in let new = c.prepare_short.new.self in
    on_err (configuration_of script (with_holder config c.args.k new) ≡ configuration_of script config) c.from_residual.result
    (same-configuration script config c.args.k c.in-Some.actor.now new c.in-Some.ensures.item.3.0 c.in-Some.ensures.value c.in_err-prepare_short.ensures.err.cell)

pub returns-in_err-prepare_short-clause-kept : goal.returns-in_err-prepare_short-clause-kept
returns-in_err-prepare_short-clause-kept c =
    let config = c.args.self.now in let new = c.prepare_short.new.self in
    on_err (HasSameLogs config (with_holder config c.args.k new)) c.from_residual.result
    (alone-kept config c.args.k c.in-Some.actor.now new (record { within = c.in-Some.ensures.item.3.0; is = c.in-Some.ensures.value }) c.in_err-prepare_short.ensures.err.log)

pub record_step-requires : goal.record_step-requires
record_step-requires c =
    let script = c.args.script.now in let config = c.args.self.now in let holder = c.in-Some.actor.now in let now = c.prepare_short.new.self in
    let plans = owns-at script config c.args.k holder Step Done (way.Short c.args.short) (record { within = c.in-Some.ensures.item.3.0; is = c.in-Some.ensures.value }) c.requires.plans in
    let prepared = c.in_ok-prepare_short.ensures.ok config.longest plans in
    record {
      can = record {
        entry = c.prepare_short.new.entry;
        is_ready = prepared.is_ready;
        job = actor-job script config c.args.k holder plans.task now.node.state c.requires.sound (record { within = c.in-Some.ensures.item.3.0; is = c.in-Some.ensures.value }) plans.is prepared.state;
        later = later-at config c.args.k c.args.ticket holder now.node.log (record { within = c.in-Some.ensures.item.3.0; is = c.in-Some.ensures.value }) c.requires.later prepared.log;
      };
      step = c.in_ok-prepare_short.ensures.step;
    }

pub returns-clause-ok : goal.returns-clause-ok
returns-clause-ok c =
    let script = c.args.script.now in let config = c.args.self.now in let holder = c.in-Some.actor.now in let entry = c.prepare_short.new.entry in
    let plans = owns-at script config c.args.k holder Step Done (way.Short c.args.short) (record { within = c.in-Some.ensures.item.3.0; is = c.in-Some.ensures.value }) c.requires.plans in
    let prepared = c.in_ok-prepare_short.ensures.ok config.longest plans in
    alone-steps script config c.args.k c.args.ticket holder c.prepare_short.new.self c.record_step.new.self entry c.requires.sound (record { within = c.in-Some.ensures.item.3.0; is = c.in-Some.ensures.value }) prepared
    ((c.record_step.ensures entry prepared.is_ready).cell script)

pub returns-clause-logs : goal.returns-clause-logs
returns-clause-logs c =
    let script = c.args.script.now in let config = c.args.self.now in let holder = c.in-Some.actor.now in let entry = c.prepare_short.new.entry in
    let plans = owns-at script config c.args.k holder Step Done (way.Short c.args.short) (record { within = c.in-Some.ensures.item.3.0; is = c.in-Some.ensures.value }) c.requires.plans in
    let prepared = c.in_ok-prepare_short.ensures.ok config.longest plans in
    alone-appends config c.args.k c.args.ticket holder c.record_step.new.self entry entry (record { within = c.in-Some.ensures.item.3.0; is = c.in-Some.ensures.value })
    prepared.actor prepared.meets refl ((c.record_step.ensures entry prepared.is_ready).log ∙ ap (λ (log : List Entry). with_turn log entry c.args.ticket) prepared.log)
