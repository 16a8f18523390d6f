use Rattle.std.proofs.Common.{◌≡◌, ◌∙◌, refl, sym, ap, subst, ◌<◌, List, length}
use Rattle.lio_task.specs.declared.config.Holder.{Holder}
use Rattle.lio_values.specs.declared.entry.Entry.{Entry}
use Rattle.lio_task.specs.Configuration.{configuration_of}
use Rattle.lio_task.specs.Logs.{HasSameLogs}
use Rattle.lio_task.specs.Turns.{with_turn}
use Rattle.lio_task.proofs.HolderLemmas.{on_err}
use Rattle.lio_task.proofs.LogLemmas.{later-at, meeting-appends, meeting-kept}
use Rattle.lio_task.proofs.TurnLemmas.{actor-job, actor-within, holder-ready, lent, meeting-same, meeting-steps, meets-other, met-within, visit-can, visits-at, with_both}
use Rattle.lio_task.proofs.config.Config.visit.Goals as goal

pub pair_mut-actor-requires-clause-other : goal.pair_mut-actor-requires-clause-other
pair_mut-actor-requires-clause-other c =
    meets-other c.args.script.now c.args.self.now c.args.k c.number-n.result _ c.args.act c.args.onward c.requires.sound c.requires.plans c.requires.can c.number-n.ensures

pub pair_mut-actor-requires-clause-first : goal.pair_mut-actor-requires-clause-first
pair_mut-actor-requires-clause-first c =
    subst (λ (holders : List Holder). c.args.k < length holders) (sym c.deref_mut.ensures.value) (actor-within c.args.script.now c.args.self.now c.args.k c.requires.plans.task c.requires.plans.is)

pub pair_mut-actor-requires-clause-second : goal.pair_mut-actor-requires-clause-second
pair_mut-actor-requires-clause-second c =
    subst (λ (holders : List Holder). c.number-n.result < length holders) (sym c.deref_mut.ensures.value)
    (met-within c.args.script.now c.args.self.now c.args.k c.number-n.result _ c.args.act c.args.onward c.requires.sound c.requires.plans c.number-n.ensures)

pub prepare_meeting-requires-clause-meets : goal.prepare_meeting-requires-clause-meets
prepare_meeting-requires-clause-meets c =
    let script = c.args.script.now in let config = c.args.self.now in let n = c.number-n.result in let pair = c.pair_mut-actor in
    let there = lent script config c.args.k n _ c.args.act c.args.onward c.deref_mut.result.now pair.result.0.now pair.result.1.now c.requires.sound c.requires.plans c.requires.can c.number-n.ensures
    c.deref_mut.ensures.value pair.ensures.first pair.ensures.second in
    visit-can script config.longest pair.result.0.now c.args.act n c.args.onward (visits-at script config c.args.k n _ pair.result.0.now c.args.act c.args.onward there.actor_is c.requires.plans c.number-n.ensures)

pub prepare_meeting-requires-clause-ready : goal.prepare_meeting-requires-clause-ready
prepare_meeting-requires-clause-ready c =
    let script = c.args.script.now in let config = c.args.self.now in let n = c.number-n.result in let pair = c.pair_mut-actor in
    let there = lent script config c.args.k n _ c.args.act c.args.onward c.deref_mut.result.now pair.result.0.now pair.result.1.now c.requires.sound c.requires.plans c.requires.can c.number-n.ensures
    c.deref_mut.ensures.value pair.ensures.first pair.ensures.second in
    holder-ready script config c.args.k n _ c.args.act c.args.onward pair.result.1.now c.requires.sound c.requires.plans c.requires.can c.number-n.ensures there.met_is

pub returns-in_err-child-clause-err : goal.returns-in_err-child-clause-err
returns-in_err-child-clause-err c =
    let script = c.args.script.now in let config = c.args.self.now in let k = c.args.k in let n = c.number-n.result in let pair = c.pair_mut-actor in
    let now = c.prepare_meeting.new.self in let met = c.prepare_meeting.new.met in
    let there = lent script config k n _ c.args.act c.args.onward c.deref_mut.result.now pair.result.0.now pair.result.1.now c.requires.sound c.requires.plans c.requires.can c.number-n.ensures
    c.deref_mut.ensures.value pair.ensures.first pair.ensures.second in
    on_err (configuration_of script (with_both config c.deref_mut.result.now k n now met) ≡ configuration_of script config) c.from_residual.result
    (meeting-same script config k n c.deref_mut.result.now pair.result.0.now now pair.result.1.now met there c.in_err-child.ensures.err)

pub returns-in_err-child-clause-kept : goal.returns-in_err-child-clause-kept
returns-in_err-child-clause-kept c =
    let script = c.args.script.now in let config = c.args.self.now in let k = c.args.k in let n = c.number-n.result in let pair = c.pair_mut-actor in
    let now = c.prepare_meeting.new.self in let met = c.prepare_meeting.new.met in
    let there = lent script config k n _ c.args.act c.args.onward c.deref_mut.result.now pair.result.0.now pair.result.1.now c.requires.sound c.requires.plans c.requires.can c.number-n.ensures
    c.deref_mut.ensures.value pair.ensures.first pair.ensures.second in
    on_err (HasSameLogs config (with_both config c.deref_mut.result.now k n now met)) c.from_residual.result
    (meeting-kept config k n c.deref_mut.result.now pair.result.0.now now pair.result.1.now met there script c.in_err-child.ensures.err)

pub record-requires : goal.record-requires
record-requires c =
    let script = c.args.script.now in let config = c.args.self.now in let k = c.args.k in let n = c.number-n.result in let pair = c.pair_mut-actor in
    let now = c.prepare_meeting.new.self in let met = c.prepare_meeting.new.met in let entry = c.prepare_meeting.new.entry in
    let there = lent script config k n _ c.args.act c.args.onward c.deref_mut.result.now pair.result.0.now pair.result.1.now c.requires.sound c.requires.plans c.requires.can c.number-n.ensures
    c.deref_mut.ensures.value pair.ensures.first pair.ensures.second in
    let plans = visits-at script config k n _ pair.result.0.now c.args.act c.args.onward there.actor_is c.requires.plans c.number-n.ensures in
    let prepared = c.in_ok-child.ensures.ok config.longest plans in
    record {
      entry = entry;
      is_ready = prepared.actor.is_ready;
      job = actor-job script config k pair.result.0.now plans.task now.node.state c.requires.sound there.actor_is plans.is prepared.actor.state;
      later = later-at config k c.args.ticket pair.result.0.now now.node.log there.actor_is c.requires.later prepared.actor.log;
    }

pub record_met-requires : goal.record_met-requires
record_met-requires c =
    let script = c.args.script.now in let config = c.args.self.now in let k = c.args.k in let n = c.number-n.result in let pair = c.pair_mut-actor in
    let now = c.prepare_meeting.new.self in let met = c.prepare_meeting.new.met in let entry = c.prepare_meeting.new.entry in
    let there = lent script config k n _ c.args.act c.args.onward c.deref_mut.result.now pair.result.0.now pair.result.1.now c.requires.sound c.requires.plans c.requires.can c.number-n.ensures
    c.deref_mut.ensures.value pair.ensures.first pair.ensures.second in
    let plans = visits-at script config k n _ pair.result.0.now c.args.act c.args.onward there.actor_is c.requires.plans c.number-n.ensures in
    let prepared = c.in_ok-child.ensures.ok config.longest plans in
    record {
      entry = entry;
      is_ready = prepared.met.is_ready;
      takes_part = prepared.met.takes_part;
      later = later-at config n c.args.ticket pair.result.1.now met.node.log there.met_is c.requires.later prepared.met.log;
    }

pub returns-clause-ok : goal.returns-clause-ok
returns-clause-ok c =
    let script = c.args.script.now in let config = c.args.self.now in let k = c.args.k in let n = c.number-n.result in let pair = c.pair_mut-actor in
    let now = c.prepare_meeting.new.self in let met = c.prepare_meeting.new.met in let entry = c.prepare_meeting.new.entry in
    let there = lent script config k n _ c.args.act c.args.onward c.deref_mut.result.now pair.result.0.now pair.result.1.now c.requires.sound c.requires.plans c.requires.can c.number-n.ensures
    c.deref_mut.ensures.value pair.ensures.first pair.ensures.second in
    let plans = visits-at script config k n _ pair.result.0.now c.args.act c.args.onward there.actor_is c.requires.plans c.number-n.ensures in
    let prepared = c.in_ok-child.ensures.ok config.longest plans in
    meeting-steps script config k n c.args.ticket c.deref_mut.result.now pair.result.0.now now c.record.new.self pair.result.1.now met c.record_met.new.self entry c.in_ok-child.child
    c.requires.sound there prepared
    ((c.record.ensures entry prepared.actor.is_ready).cell script)
    ((c.record_met.ensures entry prepared.met.is_ready).cell script)

pub returns-clause-logs : goal.returns-clause-logs
returns-clause-logs c =
    let script = c.args.script.now in let config = c.args.self.now in let k = c.args.k in let n = c.number-n.result in let pair = c.pair_mut-actor in
    let now = c.prepare_meeting.new.self in let met = c.prepare_meeting.new.met in let entry = c.prepare_meeting.new.entry in
    let there = lent script config k n _ c.args.act c.args.onward c.deref_mut.result.now pair.result.0.now pair.result.1.now c.requires.sound c.requires.plans c.requires.can c.number-n.ensures
    c.deref_mut.ensures.value pair.ensures.first pair.ensures.second in
    let plans = visits-at script config k n _ pair.result.0.now c.args.act c.args.onward there.actor_is c.requires.plans c.number-n.ensures in
    let prepared = c.in_ok-child.ensures.ok config.longest plans in
    meeting-appends config k n c.deref_mut.result.now pair.result.0.now c.record.new.self pair.result.1.now c.record_met.new.self there c.args.ticket entry entry entry
    prepared.actor.actor prepared.actor.meets refl refl
    ((c.record.ensures entry prepared.actor.is_ready).log ∙ ap (λ (log : List Entry). with_turn log entry c.args.ticket) prepared.actor.log)
    ((c.record_met.ensures entry prepared.met.is_ready).log ∙ ap (λ (log : List Entry). with_turn log entry c.args.ticket) prepared.met.log)
