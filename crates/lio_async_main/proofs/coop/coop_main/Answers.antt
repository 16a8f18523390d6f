use Rattle.std.proofs.Common.{refl}
use Rattle.lio_front.specs.Sorted.{bytes_of_words}
use Rattle.lio_host_main.proofs.Says.{completes_verdict, follows_verdict}
use Rattle.lio_async_main.proofs.CoopLemmas.{bad-words, gives-rounds}
use Rattle.lio_async_main.proofs.coop.coop_main.Goals as goal

pub returns-clause-follows : goal.returns-clause-follows
returns-clause-follows g c = follows_verdict _ c.answer.result.status (g.S.Store.holds c.args.store.now) refl c.answer.ensures.says

pub returns-clause-completes : goal.returns-clause-completes
returns-clause-completes g c = completes_verdict _ c.answer.result.status (g.S.Store.holds c.args.store.now) refl c.answer.ensures.says

pub returns-clause-rounds : goal.returns-clause-rounds
returns-clause-rounds g c = gives-rounds _ (bytes_of_words c.args.words.now) c.answer.result.status refl c.answer.ensures.says

pub returns-clause-bad_words : goal.returns-clause-bad_words
returns-clause-bad_words g c = bad-words _ c.answer.result.status c.answer.ensures.says
