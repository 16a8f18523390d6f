use Rattle.std.proofs.Common.{◌<◌, length, arith}
use Rattle.std.proofs.lemmas.Grind.{common_steps}
use Rattle.std.proofs.lemmas.Bool.Decides.{nat_tests}
use Rattle.lio_syntax.proofs.TextLemmas.{text_lines-none, text_lines-more, text_lines-last}
use Rattle.lio_syntax.proofs.text.split_line.Goals as goal

pub returns-then-is_empty : goal.returns-then-is_empty
returns-then-is_empty c = text_lines-none c.args.text.now (grind (arith, nat_tests, c.if-is_empty.ensures))

pub returns-then-len-text : goal.returns-then-len-text
returns-then-len-text c = (text_lines-more c.args.text.now _ c.line_len-len.ensures.len (omega arith), grind (arith, common_steps))

pub returns-else-len-text : goal.returns-else-len-text
returns-else-len-text c =
    let some : 0 < length c.args.text.now = grind (arith, nat_tests, c.if-is_empty.ensures) in
    (text_lines-last c.args.text.now _ c.line_len-len.ensures.len (omega arith) some, grind (arith, common_steps, some))
