use Rattle.lio_rounds.proofs.machine.Machine.turn.Goals as goal

pub next_entry-requires : goal.next_entry-requires
next_entry-requires c = c.self.invariant.0.well_formed.sound
