use Rattle.std.proofs.Common.{rules}
use Rattle.lio_rounds.proofs.WordLemmas.{set-clear}
use Rattle.lio_rounds.proofs.places.set.Goals as goal

pub returns-in-Some-clause-clear : goal.returns-in-Some-clause-clear
returns-in-Some-clause-clear c = λ i h. set-clear c.args.words.now.items c.args.bit c.in-Some.word.now i (search rules) (search rules) h
