use Rattle.std.proofs.Common.{refl}
use Rattle.lio_host_main.proofs.Says.{bad_words, completes_verdict, follows_verdict}
use Rattle.lio_c.proofs.alone.call_alone.Goals as goal

pub returns-clause-follows : goal.returns-clause-follows
returns-clause-follows g c = follows_verdict _ c.answer.result.status (g.S.Store.holds c.args.store.now) refl c.answer.ensures.says

pub returns-clause-completes : goal.returns-clause-completes
returns-clause-completes g c = completes_verdict _ c.answer.result.status (g.S.Store.holds c.args.store.now) refl c.answer.ensures.says

pub returns-clause-bad_words : goal.returns-clause-bad_words
returns-clause-bad_words g c = bad_words _ c.answer.result.status c.answer.ensures.says
