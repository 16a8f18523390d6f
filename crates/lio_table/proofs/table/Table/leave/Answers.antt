use Rattle.std.proofs.Common.{ap, ◌∙◌}
use Rattle.lio_cells.specs.State.{ready as is_ready}
use Rattle.lio_task.specs.declared.config.Holder.{Holder}
use Rattle.lio_table.proofs.WaitLemmas.{left-can_put, left-returned, left-waits}
use Rattle.lio_table.proofs.table.Table.leave.Goals as goal

pub park-parked-requires : goal.park-parked-requires
park-parked-requires c = record { unready = ap (λ (h : Holder). is_ready h.node.state c.args.act.now) c.get_mut.ensures.value ∙ c.requires.unready }

pub put_both-requires-clause-can_put : goal.put_both-requires-clause-can_put
put_both-requires-clause-can_put c =
    left-can_put c.park-parked.result c.args.k c.args.n c.args.holder c.get_mut.result.now c.args.met c.park-parked.new.met c.args.act.now c.args.seat.now.me c.get_mut.ensures.value c.park-parked.ensures.ok c.park-parked.ensures.err c.requires.can_put

pub returns-clause-ok : goal.returns-clause-ok
returns-clause-ok c =
    left-waits c.park-parked.result c.args.k c.args.n c.args.holder c.get_mut.result.now c.args.met c.park-parked.new.met c.args.act.now c.args.seat.now.me c.put_both.new.seat.me c.get_mut.ensures.value c.park-parked.ensures.ok c.put_both.ensures.put

pub returns-clause-err : goal.returns-clause-err
returns-clause-err c =
    left-returned c.park-parked.result c.args.k c.args.n c.args.holder c.get_mut.result.now c.args.met c.park-parked.new.met c.args.seat.now.me c.put_both.new.seat.me c.get_mut.ensures.value c.park-parked.ensures.err c.put_both.ensures.put
