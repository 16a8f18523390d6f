use Rattle.lio_cells.proofs.ready.grants.Goals as goal

pub returns-in-Take : goal.returns-in-Take
returns-in-Take c = rw c.in-Take.is (assumption)
