use Rattle.std.proofs.Common.{◌∙◌, ap, subst, sym}
use Rattle.lio_cells.specs.Node.{IsReadyFor}
use Rattle.lio_task.specs.declared.config.Holder.{Holder}
use Rattle.lio_task.specs.Takes.{PlansOwn}
use Rattle.lio_task.proofs.TurnLemmas.{own-can}
use Rattle.lio_table.specs.Holders.{CanPut}
use Rattle.lio_table.proofs.TurnLemmas.{alone-can_record, alone-put, holder-job, later-than, moved-alone, same-put, same-returned, stands-in}
use Rattle.lio_table.proofs.table.Table.move_alone.Goals as goal

pub prepare_alone-prepared-requires : goal.prepare_alone-prepared-requires
prepare_alone-prepared-requires c =
    let script = c.args.script.now in
    let longest = c.args.seat.now.me.0.first.longest in
    own-can script longest c.get_mut.result.now c.args.act c.args.reply c.args.way
    (subst (λ (h : Holder). PlansOwn script longest h.task c.args.act c.args.reply c.args.way) (sym c.get_mut.ensures.value) c.requires.plans)

pub draw-ticket-requires-clause-can_record : goal.draw-ticket-requires-clause-can_record
draw-ticket-requires-clause-can_record c =
    let script = c.args.script.now in
    let me = c.args.seat.now.me in
    let old = c.get_mut.result.now in
    let plans = subst (λ (h : Holder). PlansOwn script me.0.first.longest h.task c.args.act c.args.reply c.args.way) (sym c.get_mut.ensures.value) c.requires.plans in
    alone-can_record script c.args.k old c.prepare_alone-prepared.new.self me c.requires.script (subst (λ (h : Holder). CanPut c.args.k h me) (sym c.get_mut.ensures.value) c.requires.can_put) c.requires.left
    c.prepare_alone-prepared.new.entry (c.in-Ok.ensures.ok me.0.first.longest plans)

pub record-woken-requires : goal.record-woken-requires
record-woken-requires c =
    let script = c.args.script.now in
    let me = c.args.seat.now.me in
    let old = c.get_mut.result.now in
    let entry = c.prepare_alone-prepared.new.entry in
    let plans = subst (λ (h : Holder). PlansOwn script me.0.first.longest h.task c.args.act c.args.reply c.args.way) (sym c.get_mut.ensures.value) c.requires.plans in
    let can = subst (λ (h : Holder). CanPut c.args.k h me) (sym c.get_mut.ensures.value) c.requires.can_put in
    let prepared = c.in-Ok.ensures.ok me.0.first.longest plans in
    record {
      entry = entry;
      is_ready = subst (λ (h : Holder). IsReadyFor h.node entry) (sym c.get_mut-in-Ok.ensures.value) prepared.is_ready;
      job = holder-job script c.args.k old plans.task c.get_mut-in-Ok.result.now.node.state me.0.first.longest c.requires.stand.0
          (stands-in script c.args.k old me c.requires.script can.holds can.has_log c.requires.stand.0 c.requires.stand.1) plans.is
          (ap (λ (h : Holder). h.node.state) c.get_mut-in-Ok.ensures.value ∙ prepared.state);
      later = later-than c.args.k c.draw-ticket.result entry old c.get_mut-in-Ok.result.now.node.log me c.draw-ticket.new.seat.me can c.draw-ticket.ensures.drawn
          (ap (λ (h : Holder). h.node.log) c.get_mut-in-Ok.ensures.value ∙ prepared.log);
    }

pub put-requires-clause-can_put : goal.put-requires-clause-can_put
put-requires-clause-can_put c =
    let script = c.args.script.now in
    let me = c.args.seat.now.me in
    let entry = c.prepare_alone-prepared.new.entry in
    let plans = subst (λ (h : Holder). PlansOwn script me.0.first.longest h.task c.args.act c.args.reply c.args.way) (sym c.get_mut.ensures.value) c.requires.plans in
    let prepared = c.in-Ok.ensures.ok me.0.first.longest plans in
    alone-put script c.args.k c.get_mut.result.now c.prepare_alone-prepared.new.self me c.requires.script (subst (λ (h : Holder). CanPut c.args.k h me) (sym c.get_mut.ensures.value) c.requires.can_put) c.requires.left
    entry prepared c.draw-ticket.result c.draw-ticket.new.seat.me c.get_mut-in-Ok.result.now c.record-woken.new.self c.record-woken.result c.draw-ticket.ensures.drawn c.get_mut-in-Ok.ensures.value
    (c.record-woken.ensures entry (subst (λ (h : Holder). IsReadyFor h.node entry) (sym c.get_mut-in-Ok.ensures.value) prepared.is_ready))

pub put-requires-in-Err-clause-can_put : goal.put-requires-in-Err-clause-can_put
put-requires-in-Err-clause-can_put c =
    let me = c.args.seat.now.me in
    same-put c.args.script.now c.args.k c.get_mut.result.now c.prepare_alone-prepared.new.self me c.requires.script
    (subst (λ (h : Holder). CanPut c.args.k h me) (sym c.get_mut.ensures.value) c.requires.can_put) c.in-Err.ensures.err

pub returns-in-Ok-clause-ok : goal.returns-in-Ok-clause-ok
returns-in-Ok-clause-ok c =
    let script = c.args.script.now in
    let me = c.args.seat.now.me in
    let entry = c.prepare_alone-prepared.new.entry in
    let plans = subst (λ (h : Holder). PlansOwn script me.0.first.longest h.task c.args.act c.args.reply c.args.way) (sym c.get_mut.ensures.value) c.requires.plans in
    let prepared = c.in-Ok.ensures.ok me.0.first.longest plans in
    moved-alone script c.args.k c.draw-ticket.result c.args.holder c.get_mut.result.now c.prepare_alone-prepared.new.self c.get_mut-in-Ok.result.now c.record-woken.new.self me c.draw-ticket.new.seat.me c.put.new.seat.me
    entry c.record-woken.result c.requires.script c.get_mut.ensures.value c.get_mut-in-Ok.ensures.value
    (subst (λ (h : Holder). CanPut c.args.k h me) (sym c.get_mut.ensures.value) c.requires.can_put) prepared c.draw-ticket.ensures.drawn c.put.ensures.put
    (c.record-woken.ensures entry (subst (λ (h : Holder). IsReadyFor h.node entry) (sym c.get_mut-in-Ok.ensures.value) prepared.is_ready))

pub returns-in-Err-clause-err : goal.returns-in-Err-clause-err
returns-in-Err-clause-err c =
    same-returned c.args.script.now c.args.k c.args.holder c.get_mut.result.now c.prepare_alone-prepared.new.self c.args.seat.now.me c.put-in-Err.new.seat.me c.get_mut.ensures.value c.in-Err.ensures.err c.put-in-Err.ensures.put
