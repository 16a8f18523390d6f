use Rattle.lio_syntax.proofs.open_block.OpenBlock.is_misplaced.Goals as goal

pub returns-in-End : goal.returns-in-End
returns-in-End c = rw c.in-End.is (assumption)
