use Rattle.std.proofs.Common.{ap, subst, sym, ◌<◌, ℕ}
use Rattle.lio_table.specs.Views.{rights}
use Rattle.lio_table.proofs.PairLemmas.{both-put, first-can_put, second-can_put}
use Rattle.lio_table.proofs.table.Table.put_both.Goals as goal

pub put-requires-clause-can_put : goal.put-requires-clause-can_put
put-requires-clause-can_put c = first-can_put c.args.k c.args.n c.args.holder c.args.met c.args.seat.now.me c.requires.can_put

pub put-requires-2-clause-some : goal.put-requires-2-clause-some
put-requires-2-clause-some c = subst (λ (m : ℕ). 0 < m) (sym (ap rights c.put.ensures.put.view)) c.requires.some

pub put-requires-2-clause-can_put : goal.put-requires-2-clause-can_put
put-requires-2-clause-can_put c = second-can_put c.args.k c.args.n c.args.holder c.args.met c.args.seat.now.me c.put.new.seat.me c.requires.can_put c.put.ensures.put

pub returns-clause-put : goal.returns-clause-put
returns-clause-put c = both-put c.args.k c.args.n c.args.holder c.args.met c.args.seat.now.me c.put.new.seat.me c.put-2.new.seat.me c.put.ensures.put c.put-2.ensures.put
