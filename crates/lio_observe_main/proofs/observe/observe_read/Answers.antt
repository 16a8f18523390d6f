use Rattle.std.proofs.Common.{refl}
use Rattle.lio_front.specs.Sorted.{bytes_of_words}
use Rattle.lio_outside.specs.Call.{Call, Outside, outside}
use Rattle.lio_observe_main.proofs.Says.{bad_words, completes_verdict, follows_verdict}
use Rattle.lio_observe_main.proofs.observe.observe_read.Goals as goal

pub returns-clause-follows : goal.returns-clause-follows
returns-clause-follows g c =
    let before : Outside = outside g.S.Store.holds g.S.Store.faults g.W.Say.said g.W.Say.faults c.args.store.now c.args.say.now in
    let after : Outside = outside g.S.Store.holds g.S.Store.faults g.W.Say.said g.W.Say.faults c.answer.new.store c.answer.new.say in
    let call : Call = record { words = bytes_of_words c.args.words.now; before = before; after = after } in
    follows_verdict call c.answer.result.status (g.S.Store.holds c.args.store.now) refl c.answer.ensures.says

pub returns-clause-completes : goal.returns-clause-completes
returns-clause-completes g c =
    let before : Outside = outside g.S.Store.holds g.S.Store.faults g.W.Say.said g.W.Say.faults c.args.store.now c.args.say.now in
    let after : Outside = outside g.S.Store.holds g.S.Store.faults g.W.Say.said g.W.Say.faults c.answer.new.store c.answer.new.say in
    let call : Call = record { words = bytes_of_words c.args.words.now; before = before; after = after } in
    completes_verdict call c.answer.result.status (g.S.Store.holds c.args.store.now) refl c.answer.ensures.says

pub returns-clause-bad_words : goal.returns-clause-bad_words
returns-clause-bad_words g c =
    let before : Outside = outside g.S.Store.holds g.S.Store.faults g.W.Say.said g.W.Say.faults c.args.store.now c.args.say.now in
    let after : Outside = outside g.S.Store.holds g.S.Store.faults g.W.Say.said g.W.Say.faults c.answer.new.store c.answer.new.say in
    let call : Call = record { words = bytes_of_words c.args.words.now; before = before; after = after } in
    bad_words call c.answer.result.status c.answer.ensures.says
