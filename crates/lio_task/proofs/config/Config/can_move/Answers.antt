use Rattle.std.proofs.Common.{◌∙◌, sym, ap}
use Rattle.std.specs.Option.{option_copied}
use Rattle.lio_task.specs.Configuration.{configuration_of}
use Rattle.lio_task.proofs.HolderLemmas.{no-task-cell}
use Rattle.lio_task.proofs.MoveLemmas.{no-task-still}
use Rattle.lio_task.proofs.config.Config.can_move.Goals as goal

pub returns-in-Some : goal.returns-in-Some
returns-in-Some c = λ sound.
    c.can_go_on.ensures c.args.script.now c.args.k sound (sym c.task.ensures ∙ ap option_copied c.in-Some.is) c.status.ensures

pub returns-in-None : goal.returns-in-None
returns-in-None c = λ sound.
    sym (no-task-still (configuration_of c.args.script.now c.args.self.now) c.args.k (no-task-cell c.args.script.now c.args.self.now c.args.k (sym c.task.ensures ∙ ap option_copied c.in-None.is)))
