use Rattle.std.proofs.Common.{sym, ◌∙◌}
use Rattle.lio_syntax_lines.proofs.RangeLemmas.{text_within}
use Rattle.lio_syntax_lines.proofs.literals.read_literal.Goals as goal

pub returns-in-Some-clause-literal : goal.returns-in-Some-clause-literal
returns-in-Some-clause-literal c = c.in-Some.ensures.literal c.args.names.now

pub returns-in-Some-2-clause-literal : goal.returns-in-Some-2-clause-literal
returns-in-Some-2-clause-literal c = text_within c.args.word.now _ (sym c.in_ok-text.ensures ∙ c.in-Some-2.is)
