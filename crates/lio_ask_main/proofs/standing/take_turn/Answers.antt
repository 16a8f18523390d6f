use Rattle.std.proofs.Common.{sym, subst}
use Rattle.lio_calculus.specs.Sound.{IsSound}
use Rattle.lio_task.specs.Configuration.{configuration_of}
use Rattle.lio_task.proofs.LogLemmas.{later-next}
use Rattle.lio_ask_main.proofs.TurnLemmas.{later-still}
use Rattle.lio_ask_main.proofs.standing.take_turn.Goals as goal

pub returns-in-Ok-clause-later : goal.returns-in-Ok-clause-later
returns-in-Ok-clause-later c =
    let script = c.args.script.now in
    later-next (configuration_of script c.args.config.now) (configuration_of script c.step.new.self) c.args.config.now c.step.new.self c.args.k c.args.ticket c.in-Ok._entry c.in-Ok.ensures.ok c.requires.later c.in-Ok.ensures.logs

pub returns-in-Err-Still-clause-sound : goal.returns-in-Err-Still-clause-sound
returns-in-Err-Still-clause-sound c = subst IsSound (sym c.in-Err-Still.ensures.err) c.requires.sound

pub returns-in-Err-Still-clause-later : goal.returns-in-Err-Still-clause-later
returns-in-Err-Still-clause-later c = later-still c.args.config.now c.step.new.self c.args.ticket c.requires.later c.in-Err-Still.ensures.kept
