use Rattle.lio_table.proofs.ClaimKept.{claim-leaves}
use Rattle.lio_table.proofs.CutsKept.{join-leaves, split-leaves}
use Rattle.lio_table.proofs.GiveKept.{give-leaves}
use Rattle.lio_table.proofs.MomentLemmas.{look-leaves}
use Rattle.lio_table.proofs.laws.steps_leave_the_journal.Goals as goal

pub returns : goal.returns
returns c = record { claim = claim-leaves; give = give-leaves; look = look-leaves; split = split-leaves; join = join-leaves }
