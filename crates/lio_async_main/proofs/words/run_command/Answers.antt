use Rattle.std.proofs.Common.{◌≡◌, ◌∙◌, ap, sym, true}
use Rattle.lio_front.specs.Command.{command_of, is_name}
use Rattle.lio_async_main.proofs.WordLemmas.{both, command-of_two, some-of_two}
use Rattle.lio_async_main.proofs.words.run_command.Goals as goal

pub returns-then-is_name-2-clause-command : goal.returns-then-is_name-2-clause-command
returns-then-is_name-2-clause-command c =
    let policy = c.args.policy.now in
    let script = c.args.script.now in
    let first : is_name policy ≡ true = sym c.is_name.ensures ∙ c.if-is_name.true in
    let second : is_name script ≡ true = sym c.is_name-then-is_name.ensures ∙ c.if-is_name-2.true in
    ap command_of (some-of_two policy script (both (is_name policy) (is_name script) first second)) ∙ command-of_two policy script first second
