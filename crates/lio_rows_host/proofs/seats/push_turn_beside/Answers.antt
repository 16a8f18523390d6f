use Rattle.lio_table.specs.Tables.{view_of}
use Rattle.lio_rows_host.proofs.TableLemmas.{claimed_holds}
use Rattle.lio_rows_host.proofs.seats.push_turn_beside.Goals as goal

pub give-requires-clause-held : goal.give-requires-clause-held
give-requires-clause-held c = claimed_holds 1 (view_of c.args.other.now) (view_of c.claim.new.seat) c.in-Held.ensures.claimed
