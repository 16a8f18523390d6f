use Rattle.std.proofs.Common.{◌∙◌, sym}
use Rattle.lio_front.specs.Sorted.{bytes_of_words, named}
use Rattle.lio_c.proofs.AloneLemmas.{alone-none, alone-some, alone-workers}
use Rattle.lio_c.proofs.alone.read_alone.Goals as goal

pub returns-in_err-command-clause-command : goal.returns-in_err-command-clause-command
returns-in_err-command-clause-command c = rw c.from_residual.ensures (alone-none (bytes_of_words c.args.words.now) c.in_err-command.ensures.command)

pub returns-then-is_alone-clause-command : goal.returns-then-is_alone-clause-command
returns-then-is_alone-clause-command c = alone-some (bytes_of_words c.args.words.now) (named c.in_ok-command.command) c.in_ok-command.ensures.command (sym c.is_alone.ensures ∙ c.if-is_alone.true)

pub returns-else-is_alone-clause-command : goal.returns-else-is_alone-clause-command
returns-else-is_alone-clause-command c = alone-workers (bytes_of_words c.args.words.now) (named c.in_ok-command.command) c.in_ok-command.ensures.command (sym c.is_alone.ensures ∙ c.if-is_alone.false)
