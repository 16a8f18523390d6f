use Rattle.lio_events.proofs.print.print_act.Goals as goal

pub returns-in_ok-print_birth-in-Spawn : goal.returns-in_ok-print_birth-in-Spawn
returns-in_ok-print_birth-in-Spawn c = rw c.in-Spawn.is (rw c.get-in-Spawn.ensures at c.in_ok-print_birth-in-Spawn.ensures)
