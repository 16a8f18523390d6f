use Rattle.std.proofs.Common.{sym, arith}
use Rattle.lio_syntax_lines.proofs.HeaderLemmas.{limited-more, limited-invalid, limited-past, limited-end}
use Rattle.lio_syntax_lines.proofs.forms.Words.parameter_count.Goals as goal

pub returns-then-not-is_name : goal.returns-then-not-is_name
returns-then-not-is_name c = limited-invalid c.words.count _ _ _ _ c.words.invariant.so_far c.in-Some.ensures (sym c.if-not-is_name.ensures)

pub returns-then-count-ge-MOST_PARAMETERS : goal.returns-then-count-ge-MOST_PARAMETERS
returns-then-count-ge-MOST_PARAMETERS c = limited-past c.words.count _ _ _ _ c.words.invariant.so_far c.in-Some.ensures (sym c.if-not-is_name.ensures) (omega arith)

pub words-preserved : goal.words-preserved
words-preserved c = record {
  so_far = limited-more c.words.count _ _ _ _ c.words.invariant.so_far c.in-Some.ensures (sym c.if-not-is_name.ensures);
  few = omega arith;
}

pub returns : goal.returns
returns c = limited-end c.words.count _ _ c.words.invariant.so_far c.in_default.ensures c.words.invariant.few
