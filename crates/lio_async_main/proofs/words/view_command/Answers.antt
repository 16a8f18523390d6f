use Rattle.std.proofs.Common.{◌≡◌, ◌∙◌, ap, sym, true, ◌&&◌}
use Rattle.lio_front.specs.Command.{command_of, is_name}
use Rattle.lio_async_main.proofs.WordLemmas.{both, command-of_four, some-of_four}
use Rattle.lio_async_main.proofs.words.view_command.Goals as goal

pub returns-then-is_name-4-clause-command : goal.returns-then-is_name-4-clause-command
returns-then-is_name-4-clause-command c =
    let policy = c.args.policy.now in
    let script = c.args.script.now in
    let file = c.args.file.now in
    let label = c.args.label.now in
    let first : is_name policy ≡ true = sym c.is_name.ensures ∙ c.if-is_name.true in
    let second : is_name script ≡ true = sym c.is_name-then-is_name.ensures ∙ c.if-is_name-2.true in
    let third : is_name file ≡ true = sym c.is_name-then-is_name-2.ensures ∙ c.if-is_name-3.true in
    let fourth : is_name label ≡ true = sym c.is_name-then-is_name-3.ensures ∙ c.if-is_name-4.true in
    let all =
    both (is_name policy && is_name script && is_name file) (is_name label) (both (is_name policy && is_name script) (is_name file) (both (is_name policy) (is_name script) first second) third) fourth in
    ap command_of (some-of_four policy script file label all) ∙ command-of_four policy script file label first second third fourth
