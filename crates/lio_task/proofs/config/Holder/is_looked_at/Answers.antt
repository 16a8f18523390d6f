use Rattle.std.proofs.Common.{ap}
use Rattle.std.specs.Option.{option_copied}
use Rattle.lio_task.specs.Turns.{looks}
use Rattle.lio_task.proofs.LentLemmas.{of-none, of-ready}
use Rattle.lio_task.proofs.config.Holder.is_looked_at.Goals as goal

pub returns-in-Some : goal.returns-in-Some
returns-in-Some c =
    of-ready looks c.args.self.now.node (option_copied c.pending.result) c.in-Some.entry.now c.looks.result c.pending.ensures (ap (λ found. option_copied found) c.in-Some.is) c.looks.ensures

pub returns-in-None : goal.returns-in-None
returns-in-None c = λ entry ready.
    absurd (of-none c.args.self.now.node (option_copied c.pending.result) c.pending.ensures (ap (λ found. option_copied found) c.in-None.is) entry ready)
