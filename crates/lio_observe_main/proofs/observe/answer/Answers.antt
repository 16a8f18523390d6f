use Rattle.std.proofs.Common.{refl}
use Rattle.lio_front.specs.Sorted.{bytes_of_words}
use Rattle.lio_outside.specs.Call.{Call, Outside, outside}
use Rattle.lio_observe_main.proofs.Says.{says-refused, says-unsaid}
use Rattle.lio_observe_main.proofs.observe.answer.Goals as goal

pub returns-in-Err-clause-says : goal.returns-in-Err-clause-says
returns-in-Err-clause-says g c =
    let before : Outside = outside g.S.Store.holds g.S.Store.faults g.W.Say.said g.W.Say.faults c.args.store.now c.args.say.now in
    let after : Outside = outside g.S.Store.holds g.S.Store.faults g.W.Say.said g.W.Say.faults c.check_words.new.store c.args.say.now in
    let call : Call = record { words = bytes_of_words c.args.words.now; before = before; after = after } in
    says-refused call c.in-Err.status c.in-Err.ensures.err refl

pub returns-in-Ok-say_lines-clause-says : goal.returns-in-Ok-say_lines-clause-says
returns-in-Ok-say_lines-clause-says g c = (c.in-Ok.lines, c.in-Ok.ensures.ok, c.in-Ok-say_lines.ensures.ok)

pub returns-in-Err-say_lines-clause-says : goal.returns-in-Err-say_lines-clause-says
returns-in-Err-say_lines-clause-says g c =
    let before : Outside = outside g.S.Store.holds g.S.Store.faults g.W.Say.said g.W.Say.faults c.args.store.now c.args.say.now in
    let after : Outside = outside g.S.Store.holds g.S.Store.faults g.W.Say.said g.W.Say.faults c.check_words.new.store c.say_lines.new.say in
    let call : Call = record { words = bytes_of_words c.args.words.now; before = before; after = after } in
    says-unsaid call c.in-Ok.lines c.in-Err-say_lines.status c.in-Ok.ensures.ok c.in-Err-say_lines.ensures.err
