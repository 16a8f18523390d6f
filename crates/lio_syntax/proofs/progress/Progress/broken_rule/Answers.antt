use Rattle.std.proofs.Common.{◌≡◌, Some, false, sym, refl}
use Rattle.lio_syntax_lines.specs.Header.{line_call}
use Rattle.lio_syntax.specs.OpenBlocks.{is_misplaced, open_behind}
use Rattle.lio_syntax.specs.Rules.{broken_call}
use Rattle.lio_syntax.proofs.progress.Progress.broken_rule.Goals as goal

pub returns-in-Some-clause-rule : goal.returns-in-Some-clause-rule
returns-in-Some-clause-rule c = λ all before knows stands.
    let broken : Some c.in-Some.rule ≡ broken_call all (line_call c.args.line.now) = c.in-Some.ensures all knows in
    let placed : is_misplaced (open_behind before) c.args.line.now ≡ false = (cc) in
    rw (placed, sym broken) refl
