use Rattle.lio_table.proofs.RunTurns.{runs_are_turns}
use Rattle.lio_table.proofs.laws.runs_are_turns.Goals as goal

pub returns : goal.returns
returns c = runs_are_turns
