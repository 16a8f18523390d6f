use Rattle.std.proofs.Common.{◌∙◌, ap, refl, sym, Some, inl}
use Rattle.lio_calculus.specs.Run.{Ran}
use Rattle.lio_rounds.specs.Runs.{ran_of}
use Rattle.lio_front.specs.Sorted.{bytes_of_words, named}
use Rattle.lio_host_main.specs.Order.{Order, order_of}
use Rattle.lio_outside.specs.Call.{Outside, outside}
use Rattle.lio_front.specs.declared.status.Status.TheVariants.{BadWords, Done, NoMemory}
use Rattle.lio_host_main.specs.Answers.{Call}
use Rattle.lio_host_main.proofs.Finishes.{finishes-from}
use Rattle.lio_host_main.proofs.Says.{runs-order, says-done, says-refused, says-same, says-stopped, says-unfinished}
use Rattle.lio_async_main.specs.Words.{host_words}
use Rattle.lio_async_main.proofs.CoopLemmas.{flows-as, none-commanded, ran-as, run-of}
use Rattle.lio_async_main.proofs.coop.answer.Goals as goal

pub returns-in_default-clause-says : goal.returns-in_default-clause-says
returns-in_default-clause-says g c =
    let outside : Outside = outside g.S.Store.holds g.S.Store.faults g.W.Say.said g.W.Say.faults c.args.store.now c.args.say.now in
    let call : Call = record { words = host_words (bytes_of_words c.args.words.now); before = outside; after = outside; journal = c.refused.result.journal } in
    says-same call BadWords c.refused.result.status c.refused.ensures.status
    (inl (none-commanded call.words c.in_default.ensures.command, record { files = refl; said = refl; journal = c.refused.ensures.journal }))

pub finish_seen-finished-requires-clause-printable : goal.finish_seen-finished-requires-clause-printable
finish_seen-finished-requires-clause-printable g c =
    (run-of c.in-Ok.order.job (ran_of c.in-Ok.order.job.script c.in-Ok-run_seen.both.0) c.in-Ok-run_seen.ensures.job c.in-Ok-run_seen.ensures.rounds).keeps.printable

pub returns-in-Ok-finished-clause-says : goal.returns-in-Ok-finished-clause-says
returns-in-Ok-finished-clause-says g c =
    let before : Outside = outside g.S.Store.holds g.S.Store.faults g.W.Say.said g.W.Say.faults c.args.store.now c.args.say.now in
    let after : Outside = outside g.S.Store.holds g.S.Store.faults g.W.Say.said g.W.Say.faults c.finish_seen-finished.new.store c.finish_seen-finished.new.say in
    let call : Call = record { words = host_words (bytes_of_words c.args.words.now); before = before; after = after; journal = c.in-Ok-run_seen.both.0.journal } in
    let order : Order = order_of c.in-Ok.order in
    let ran : Ran = ran_of c.in-Ok.order.job.script c.in-Ok-run_seen.both.0 in
    let rounds = ap (λ command. command.mode) c.in-Ok.ensures.command ∙ c.in-Some.ensures.rounds in
    says-done call order ran.last
    (runs-order call order ran _ c.in-Some.ensures.command c.in-Ok.ensures.command c.in-Ok.ensures.ok (run-of order.job ran c.in-Ok-run_seen.ensures.job c.in-Ok-run_seen.ensures.rounds)
    (ran-as before.told order ran c.in-Ok.ensures.ok rounds c.in-Ok-run_seen.ensures.rounds)
    (flows-as before.told order ran c.in-Ok.ensures.ok rounds c.in-Ok-run_seen.ensures.job c.in-Ok-run_seen.ensures.rounds) c.journal_fits.ensures)
    (finishes-from order ran before after (g.S.Store.holds c.prepare_order.new.store) (g.S.Store.faults c.prepare_order.new.store) Done c.in-Ok.ensures.files c.in-Ok.ensures.count c.in-Ok-finished.ensures.ok)

pub returns-in-Err-finished-clause-says : goal.returns-in-Err-finished-clause-says
returns-in-Err-finished-clause-says g c =
    let before : Outside = outside g.S.Store.holds g.S.Store.faults g.W.Say.said g.W.Say.faults c.args.store.now c.args.say.now in
    let after : Outside = outside g.S.Store.holds g.S.Store.faults g.W.Say.said g.W.Say.faults c.finish_seen-finished.new.store c.finish_seen-finished.new.say in
    let call : Call = record { words = host_words (bytes_of_words c.args.words.now); before = before; after = after; journal = c.unfinished.result.journal } in
    let order : Order = order_of c.in-Ok.order in
    let ran : Ran = ran_of c.in-Ok.order.job.script c.in-Ok-run_seen.both.0 in
    let status = c.in-Err-finished.status in
    let rounds = ap (λ command. command.mode) c.in-Ok.ensures.command ∙ c.in-Some.ensures.rounds in
    says-same call status c.unfinished.result.status c.unfinished.ensures.status
    (says-unfinished call order ran status
    (runs-order call order ran _ c.in-Some.ensures.command c.in-Ok.ensures.command c.in-Ok.ensures.ok (run-of order.job ran c.in-Ok-run_seen.ensures.job c.in-Ok-run_seen.ensures.rounds)
    (ran-as before.told order ran c.in-Ok.ensures.ok rounds c.in-Ok-run_seen.ensures.rounds)
    (flows-as before.told order ran c.in-Ok.ensures.ok rounds c.in-Ok-run_seen.ensures.job c.in-Ok-run_seen.ensures.rounds) c.journal_fits.ensures)
    c.unfinished.ensures.journal
    (finishes-from order ran before after (g.S.Store.holds c.prepare_order.new.store) (g.S.Store.faults c.prepare_order.new.store) status c.in-Ok.ensures.files c.in-Ok.ensures.count c.in-Err-finished.ensures.err))

pub returns-in-Err-clause-says : goal.returns-in-Err-clause-says
returns-in-Err-clause-says g c =
    let before : Outside = outside g.S.Store.holds g.S.Store.faults g.W.Say.said g.W.Say.faults c.args.store.now c.args.say.now in
    let after : Outside = outside g.S.Store.holds g.S.Store.faults g.W.Say.said g.W.Say.faults c.prepare_order.new.store c.args.say.now in
    let call : Call = record { words = host_words (bytes_of_words c.args.words.now); before = before; after = after; journal = c.refused-in-Err.result.journal } in
    says-same call c.in-Err.status c.refused-in-Err.result.status c.refused-in-Err.ensures.status
    (says-refused call c.in-Err.status (record {
      command = named c.in-Some.command;
      words = c.in-Some.ensures.command;
      refuse = c.in-Err.ensures.err;
      nothing = record { files = c.in-Err.ensures.files; said = refl; journal = c.refused-in-Err.ensures.journal };
    }))

pub returns-in-Err-run_seen-clause-says : goal.returns-in-Err-run_seen-clause-says
returns-in-Err-run_seen-clause-says g c =
    let before : Outside = outside g.S.Store.holds g.S.Store.faults g.W.Say.said g.W.Say.faults c.args.store.now c.args.say.now in
    let after : Outside = outside g.S.Store.holds g.S.Store.faults g.W.Say.said g.W.Say.faults c.prepare_order.new.store c.args.say.now in
    let call : Call = record { words = host_words (bytes_of_words c.args.words.now); before = before; after = after; journal = c.refused-in-Err-run_seen.result.journal } in
    let order : Order = order_of c.in-Ok.order in
    says-same call NoMemory c.refused-in-Err-run_seen.result.status c.refused-in-Err-run_seen.ensures.status
    (says-stopped call (named c.in-Some.command) order NoMemory c.in-Some.ensures.command
    (record { command = c.in-Some.ensures.command ∙ ap Some (sym c.in-Ok.ensures.command); given = c.in-Ok.ensures.ok })
    (record { files = c.in-Ok.ensures.files; said = refl; journal = c.refused-in-Err-run_seen.ensures.journal }) tt)
