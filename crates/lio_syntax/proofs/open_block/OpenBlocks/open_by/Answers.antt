use Rattle.lio_syntax.proofs.open_block.OpenBlocks.open_by.Goals as goal

pub returns-in-Else : goal.returns-in-Else
returns-in-Else c = rw c.in-Else.is (rw c.pop.ensures at c.push-in-Else.ensures)

pub returns-in-Catch : goal.returns-in-Catch
returns-in-Catch c = rw c.in-Catch.is (rw c.pop-in-Catch.ensures at c.push-in-Catch.ensures)
