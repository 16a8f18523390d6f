use Rattle.std.proofs.Common.{refl}
use Rattle.lio_front.specs.Sorted.{bytes_of_words}
use Rattle.lio_outside.specs.Call.{Call, Outside, outside}
use Rattle.lio_ask_main.specs.Words.{named}
use Rattle.lio_ask_main.proofs.Says.{none-of, says-refused, says-told, texts-of}
use Rattle.lio_ask_main.proofs.asking.ask.Goals as goal

pub returns-in-Err-clause-says : goal.returns-in-Err-clause-says
returns-in-Err-clause-says g c =
    let before : Outside = outside g.S.Store.holds g.S.Store.faults g.W.Say.said g.W.Say.faults c.args.store.now c.args.say.now in
    let after : Outside = outside g.S.Store.holds g.S.Store.faults g.W.Say.said g.W.Say.faults c.tell.new.store c.args.say.now in
    let call : Call = record { words = bytes_of_words c.args.words.now; before = before; after = after } in
    says-refused call (named c.in-Some.question) c.in-Err.status c.in-Some.ensures c.in-Err.ensures.err refl

pub returns-in-Ok-clause-says : goal.returns-in-Ok-clause-says
returns-in-Ok-clause-says g c =
    let before : Outside = outside g.S.Store.holds g.S.Store.faults g.W.Say.said g.W.Say.faults c.args.store.now c.args.say.now in
    let after : Outside = outside g.S.Store.holds g.S.Store.faults g.W.Say.said g.W.Say.faults c.tell.new.store c.say_told.new.say in
    let call : Call = record { words = bytes_of_words c.args.words.now; before = before; after = after } in
    says-told call c.in-Ok.told.text.items c.in-Ok.told.troubled c.say_told.result (named c.in-Some.question) c.in-Some.ensures c.in-Ok.ensures.ok c.say_told.ensures.says

pub returns-in-Err-clause-texts : goal.returns-in-Err-clause-texts
returns-in-Err-clause-texts g c = λ question asks.
    let told = g.S.Store.holds c.args.store.now in
    texts-of told (bytes_of_words c.args.words.now) (named c.in-Some.question) question c.tell.new.texts c.in-Some.ensures asks (c.tell.ensures.texts (none-of told (named c.in-Some.question) c.none-texts.result c.none-texts.ensures.policy c.none-texts.ensures.script))

pub returns-in-Ok-clause-texts : goal.returns-in-Ok-clause-texts
returns-in-Ok-clause-texts g c = λ question asks.
    let told = g.S.Store.holds c.args.store.now in
    texts-of told (bytes_of_words c.args.words.now) (named c.in-Some.question) question c.tell.new.texts c.in-Some.ensures asks (c.tell.ensures.texts (none-of told (named c.in-Some.question) c.none-texts.result c.none-texts.ensures.policy c.none-texts.ensures.script))
