use Rattle.std.proofs.Common.{arith}
use Rattle.std.proofs.lemmas.Grind.{common_steps}
use Rattle.lio_syntax_lines.proofs.WordLemmas.{words-split, words-none}
use Rattle.lio_syntax_lines.proofs.words.split_word.Goals as goal

pub returns-in_default : goal.returns-in_default
returns-in_default c = words-none _ _ c.past_blanks-rest.ensures.same (omega arith)

pub returns : goal.returns
returns c =
    words-split _ c.past_blanks-rest.result.now _ c.past_blanks-rest.ensures.same c.in-len1-up.len_at_least c.past_blanks-rest.ensures.at_word
    (grind (arith, common_steps, c.word_len-len.ensures.within)) (cc)
