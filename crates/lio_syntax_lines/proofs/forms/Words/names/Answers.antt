use Rattle.std.proofs.Common.{sym}
use Rattle.std.proofs.lemmas.List.Elements.{All-push}
use Rattle.lio_syntax_lines.specs.Literals.{IsName}
use Rattle.lio_syntax_lines.proofs.FormLemmas.{names-more, names-invalid, names-end}
use Rattle.lio_syntax_lines.proofs.forms.Words.names.Goals as goal

pub returns-then-not-is_name-clause-invalid : goal.returns-then-not-is_name-clause-invalid
returns-then-not-is_name-clause-invalid c = λ _. names-invalid c.words.names _ _ _ _ c.words.invariant.so_far c.in-Some.ensures (sym c.if-not-is_name.ensures)

pub words-preserved : goal.words-preserved
words-preserved c = record {
  so_far = rw (c.in_ok-push.ensures.ok, c.in_ok-of.ensures.ok) (names-more c.words.names _ _ _ _ c.words.invariant.so_far c.in-Some.ensures (sym c.if-not-is_name.ensures));
  sound = rw (c.in_ok-push.ensures.ok, c.in_ok-of.ensures.ok) (All-push IsName c.words.names c.in-Some.word.now c.words.invariant.sound (sym c.if-not-is_name.ensures));
}

pub returns-clause-ok : goal.returns-clause-ok
returns-clause-ok c = names-end c.words.names _ _ c.words.invariant.so_far c.in_default.ensures
