use Rattle.lio_syntax.specs.Lines.{script_lines}
use Rattle.lio_task_control.proofs.ExitLemmas.{past_row}
use Rattle.lio_task_control.proofs.places.behind.Goals as goal

pub returns-in-None : goal.returns-in-None
returns-in-None c = past_row (script_lines c.args.script.now) c.args.at c.in-None.ensures
