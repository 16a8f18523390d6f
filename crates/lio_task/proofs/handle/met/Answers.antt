use Rattle.lio_task.proofs.handle.met.Goals as goal

pub returns-in-Wait : goal.returns-in-Wait
returns-in-Wait c = rw c.in-Wait.is (assumption)
