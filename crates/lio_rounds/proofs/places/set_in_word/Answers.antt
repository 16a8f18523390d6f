use Rattle.std.proofs.Common.{rules}
use Rattle.lio_rounds.proofs.WordLemmas.{clear-rest, first-left}
use Rattle.lio_rounds.proofs.places.set_in_word.Goals as goal

pub returns-then-rest-eq0-clause-none : goal.returns-then-rest-eq0-clause-none
returns-then-rest-eq0-clause-none c = clear-rest c.args.words.now c.args.bit c.in-Some.word.now (search rules) (search rules) c.if-rest-eq0.true

pub returns-clause-clear : goal.returns-clause-clear
returns-clause-clear c = (first-left c.args.words.now c.args.bit c.in-Some.word.now (search rules) (search rules) (search rules) c.if-rest-eq0.false).clear
