use Rattle.lio_cells.specs.State.{answer}
use Rattle.lio_cells.proofs.reply.answer.Goals as goal

pub returns-in-Take : goal.returns-in-Take
unfolding answer
returns-in-Take c = rw c.in-Take.is (assumption)
