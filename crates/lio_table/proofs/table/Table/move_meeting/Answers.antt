use Rattle.std.proofs.Common.{◌∙◌, ap, subst, sym}
use Rattle.lio_cells.specs.State.{ready as is_ready}
use Rattle.lio_task.specs.declared.config.Holder.{Holder}
use Rattle.lio_task.specs.Takes.{PlansVisit}
use Rattle.lio_task.proofs.TurnLemmas.{visit-can}
use Rattle.lio_table.proofs.MeetingLemmas.{both-lent, both-returned, both-same-put, meeting-can_record, meeting-moved, meeting-put, meeting-records, meeting-records-met}
use Rattle.lio_table.proofs.table.Table.move_meeting.Goals as goal

pub prepare_meeting-prepared-requires-clause-meets : goal.prepare_meeting-prepared-requires-clause-meets
prepare_meeting-prepared-requires-clause-meets c =
    let longest = c.args.seat.now.me.0.first.longest in
    visit-can c.args.script.now longest c.get_mut-actor.result.now c.args.act c.args.n c.args.onward
    (subst (λ (h : Holder). PlansVisit c.args.script.now longest h.task c.args.act c.args.n c.args.onward) (sym c.get_mut-actor.ensures.value) c.requires.plans)

pub prepare_meeting-prepared-requires-clause-ready : goal.prepare_meeting-prepared-requires-clause-ready
prepare_meeting-prepared-requires-clause-ready c = ap (λ (h : Holder). is_ready h.node.state c.args.act) c.get_mut-target.ensures.value ∙ c.requires.ready

pub draw-ticket-requires-clause-can_record : goal.draw-ticket-requires-clause-can_record
draw-ticket-requires-clause-can_record c =
    let script = c.args.script.now in let me = c.args.seat.now.me in let old = c.get_mut-actor.result.now in let was = c.get_mut-target.result.now in
    let plans = subst (λ (h : Holder). PlansVisit script me.0.first.longest h.task c.args.act c.args.n c.args.onward) (sym c.get_mut-actor.ensures.value) c.requires.plans in
    meeting-can_record script c.args.k c.args.n old c.prepare_meeting-prepared.new.self was c.prepare_meeting-prepared.new.met me c.requires.script
    (both-lent c.args.k c.args.n c.args.holder old c.args.met was me c.get_mut-actor.ensures.value c.get_mut-target.ensures.value c.requires.can_put) c.requires.left
    c.prepare_meeting-prepared.new.entry c.in-Ok.child (c.in-Ok.ensures.ok me.0.first.longest plans)

pub record-woken-requires : goal.record-woken-requires
record-woken-requires c =
    let script = c.args.script.now in let me = c.args.seat.now.me in let old = c.get_mut-actor.result.now in let was = c.get_mut-target.result.now in
    let plans = subst (λ (h : Holder). PlansVisit script me.0.first.longest h.task c.args.act c.args.n c.args.onward) (sym c.get_mut-actor.ensures.value) c.requires.plans in
    meeting-records script c.args.k c.args.n old c.prepare_meeting-prepared.new.self was c.prepare_meeting-prepared.new.met me c.requires.script
    (both-lent c.args.k c.args.n c.args.holder old c.args.met was me c.get_mut-actor.ensures.value c.get_mut-target.ensures.value c.requires.can_put) c.requires.left
    c.prepare_meeting-prepared.new.entry c.in-Ok.child (c.in-Ok.ensures.ok me.0.first.longest plans) c.draw-ticket.result c.draw-ticket.new.seat.me c.draw-ticket.ensures.drawn
    c.get_mut.result.now plans.task c.get_mut.ensures.value c.requires.stand plans.is

pub record_met-met_woken-requires : goal.record_met-met_woken-requires
record_met-met_woken-requires c =
    let script = c.args.script.now in let me = c.args.seat.now.me in let old = c.get_mut-actor.result.now in let was = c.get_mut-target.result.now in
    let plans = subst (λ (h : Holder). PlansVisit script me.0.first.longest h.task c.args.act c.args.n c.args.onward) (sym c.get_mut-actor.ensures.value) c.requires.plans in
    meeting-records-met script c.args.k c.args.n old c.prepare_meeting-prepared.new.self was c.prepare_meeting-prepared.new.met me c.requires.script
    (both-lent c.args.k c.args.n c.args.holder old c.args.met was me c.get_mut-actor.ensures.value c.get_mut-target.ensures.value c.requires.can_put) c.requires.left
    c.prepare_meeting-prepared.new.entry c.in-Ok.child (c.in-Ok.ensures.ok me.0.first.longest plans) c.draw-ticket.result c.draw-ticket.new.seat.me c.draw-ticket.ensures.drawn
    c.get_mut-in-Ok.result.now c.get_mut-in-Ok.ensures.value

pub put_both-requires-clause-can_put : goal.put_both-requires-clause-can_put
put_both-requires-clause-can_put c =
    let script = c.args.script.now in let me = c.args.seat.now.me in let old = c.get_mut-actor.result.now in let was = c.get_mut-target.result.now in
    let plans = subst (λ (h : Holder). PlansVisit script me.0.first.longest h.task c.args.act c.args.n c.args.onward) (sym c.get_mut-actor.ensures.value) c.requires.plans in
    meeting-put script c.args.k c.args.n old c.prepare_meeting-prepared.new.self was c.prepare_meeting-prepared.new.met me c.requires.script
    (both-lent c.args.k c.args.n c.args.holder old c.args.met was me c.get_mut-actor.ensures.value c.get_mut-target.ensures.value c.requires.can_put) c.requires.left
    c.prepare_meeting-prepared.new.entry c.in-Ok.child (c.in-Ok.ensures.ok me.0.first.longest plans) c.draw-ticket.result c.draw-ticket.new.seat.me c.draw-ticket.ensures.drawn
    c.get_mut.result.now c.record-woken.new.self c.get_mut-in-Ok.result.now c.record_met-met_woken.new.self c.record-woken.result c.record_met-met_woken.result c.get_mut.ensures.value c.get_mut-in-Ok.ensures.value
    c.record-woken.ensures c.record_met-met_woken.ensures

pub put_both-requires-in-Err-clause-can_put : goal.put_both-requires-in-Err-clause-can_put
put_both-requires-in-Err-clause-can_put c =
    let me = c.args.seat.now.me in let old = c.get_mut-actor.result.now in let was = c.get_mut-target.result.now in
    both-same-put c.args.script.now c.args.k c.args.n old c.prepare_meeting-prepared.new.self was c.prepare_meeting-prepared.new.met me c.requires.script
    (both-lent c.args.k c.args.n c.args.holder old c.args.met was me c.get_mut-actor.ensures.value c.get_mut-target.ensures.value c.requires.can_put) c.in-Err.ensures.err

pub returns-in-Ok-clause-ok : goal.returns-in-Ok-clause-ok
returns-in-Ok-clause-ok c =
    let script = c.args.script.now in let me = c.args.seat.now.me in let old = c.get_mut-actor.result.now in let was = c.get_mut-target.result.now in
    let plans = subst (λ (h : Holder). PlansVisit script me.0.first.longest h.task c.args.act c.args.n c.args.onward) (sym c.get_mut-actor.ensures.value) c.requires.plans in
    meeting-moved script c.args.k c.args.n old c.prepare_meeting-prepared.new.self was c.prepare_meeting-prepared.new.met me c.requires.script
    (both-lent c.args.k c.args.n c.args.holder old c.args.met was me c.get_mut-actor.ensures.value c.get_mut-target.ensures.value c.requires.can_put) c.requires.left
    c.prepare_meeting-prepared.new.entry c.in-Ok.child (c.in-Ok.ensures.ok me.0.first.longest plans) c.draw-ticket.result c.draw-ticket.new.seat.me c.draw-ticket.ensures.drawn
    c.get_mut.result.now c.record-woken.new.self c.get_mut-in-Ok.result.now c.record_met-met_woken.new.self c.record-woken.result c.record_met-met_woken.result c.get_mut.ensures.value c.get_mut-in-Ok.ensures.value
    c.record-woken.ensures c.record_met-met_woken.ensures c.args.holder c.args.met c.put_both.new.seat.me c.get_mut-actor.ensures.value c.get_mut-target.ensures.value c.put_both.ensures.put

pub returns-in-Err-clause-err : goal.returns-in-Err-clause-err
returns-in-Err-clause-err c =
    both-returned c.args.script.now c.args.k c.args.n c.args.holder c.get_mut-actor.result.now c.prepare_meeting-prepared.new.self c.args.met c.get_mut-target.result.now c.prepare_meeting-prepared.new.met c.args.seat.now.me c.put_both-in-Err.new.seat.me
    c.get_mut-actor.ensures.value c.get_mut-target.ensures.value c.in-Err.ensures.err c.put_both-in-Err.ensures.put
