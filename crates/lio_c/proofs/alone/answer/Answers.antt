use Rattle.std.proofs.Common.{◌∙◌, ap, refl, sym, subst, List, Some}
use Rattle.lio_values.specs.declared.entry.Entry.{Entry}
use Rattle.lio_calculus.specs.Run.{Ran}
use Rattle.lio_rounds.specs.Runs.{ran_of}
use Rattle.lio_front.specs.Sorted.{bytes_of_words, named}
use Rattle.lio_host_main.specs.Order.{Order, order_of}
use Rattle.lio_outside.specs.Call.{Outside, outside}
use Rattle.lio_host_main.specs.Answers.{Call, Says}
use Rattle.lio_front.specs.declared.status.Status.TheVariants.{Done}
use Rattle.lio_host_main.proofs.Finishes.{finishes-from}
use Rattle.lio_host_main.proofs.Says.{runs-order, says-done, says-refused, says-same, says-stopped, says-unfinished}
use Rattle.lio_c.specs.Alone.{alone_words}
use Rattle.lio_c.proofs.alone.answer.Goals as goal

pub finish_run-finished-requires : goal.finish_run-finished-requires
finish_run-finished-requires g c = c.in-Ok-run_order.ensures.run.keeps.printable

pub returns-in-Ok-finished-clause-says : goal.returns-in-Ok-finished-clause-says
returns-in-Ok-finished-clause-says g c =
    let before : Outside = outside g.S.Store.holds g.S.Store.faults g.W.Say.said g.W.Say.faults c.args.store.now c.args.say.now in
    let after : Outside = outside g.S.Store.holds g.S.Store.faults g.W.Say.said g.W.Say.faults c.finish_run-finished.new.store c.finish_run-finished.new.say in
    let call : List Entry → Call = λ journal. record { words = alone_words (bytes_of_words c.args.words.now); before = before; after = after; journal = journal } in
    let order : Order = order_of c.in-Ok.order in
    let ran : Ran = ran_of c.in-Ok.order.job.script c.in-Ok-run_order.ran in
    says-same (call c.done.result.journal) Done c.done.result.status c.done.ensures.status
    (subst (λ (journal : List Entry). Says (call journal) Done) (sym c.done.ensures.journal)
    (says-done (call ran.entries) order ran.last
    (runs-order (call ran.entries) order ran _ c.in-Some.ensures.command c.in-Ok.ensures.command c.in-Ok.ensures.ok c.in-Ok-run_order.ensures.run c.in-Ok-run_order.ensures.ran_as c.in-Ok-run_order.ensures.flows c.journal_fits.ensures)
    (finishes-from order ran before after (g.S.Store.holds c.prepare_order.new.store) (g.S.Store.faults c.prepare_order.new.store) Done c.in-Ok.ensures.files c.in-Ok.ensures.count c.in-Ok-finished.ensures.ok)))

pub returns-in-Err-finished-clause-says : goal.returns-in-Err-finished-clause-says
returns-in-Err-finished-clause-says g c =
    let before : Outside = outside g.S.Store.holds g.S.Store.faults g.W.Say.said g.W.Say.faults c.args.store.now c.args.say.now in
    let after : Outside = outside g.S.Store.holds g.S.Store.faults g.W.Say.said g.W.Say.faults c.finish_run-finished.new.store c.finish_run-finished.new.say in
    let call : Call = record { words = alone_words (bytes_of_words c.args.words.now); before = before; after = after; journal = c.unfinished.result.journal } in
    let order : Order = order_of c.in-Ok.order in
    let ran : Ran = ran_of c.in-Ok.order.job.script c.in-Ok-run_order.ran in
    let status = c.in-Err-finished.status in
    says-same call status c.unfinished.result.status c.unfinished.ensures.status
    (says-unfinished call order ran status
    (runs-order call order ran _ c.in-Some.ensures.command c.in-Ok.ensures.command c.in-Ok.ensures.ok c.in-Ok-run_order.ensures.run c.in-Ok-run_order.ensures.ran_as c.in-Ok-run_order.ensures.flows c.journal_fits.ensures) c.unfinished.ensures.journal
    (finishes-from order ran before after (g.S.Store.holds c.prepare_order.new.store) (g.S.Store.faults c.prepare_order.new.store) status c.in-Ok.ensures.files c.in-Ok.ensures.count c.in-Err-finished.ensures.err))

pub returns-in-Err-clause-says : goal.returns-in-Err-clause-says
returns-in-Err-clause-says g c =
    let before : Outside = outside g.S.Store.holds g.S.Store.faults g.W.Say.said g.W.Say.faults c.args.store.now c.args.say.now in
    let after : Outside = outside g.S.Store.holds g.S.Store.faults g.W.Say.said g.W.Say.faults c.prepare_order.new.store c.args.say.now in
    let call : Call = record { words = alone_words (bytes_of_words c.args.words.now); before = before; after = after; journal = c.refused-in-Err.result.journal } in
    says-same call c.in-Err.status c.refused-in-Err.result.status c.refused-in-Err.ensures.status
    (says-refused call c.in-Err.status (record {
      command = named c.in-Some.command;
      words = c.in-Some.ensures.command;
      refuse = c.in-Err.ensures.err;
      nothing = record { files = c.in-Err.ensures.files; said = refl; journal = c.refused-in-Err.ensures.journal };
    }))

pub returns-in-Err-run_order-clause-says : goal.returns-in-Err-run_order-clause-says
returns-in-Err-run_order-clause-says g c =
    let before : Outside = outside g.S.Store.holds g.S.Store.faults g.W.Say.said g.W.Say.faults c.args.store.now c.args.say.now in
    let after : Outside = outside g.S.Store.holds g.S.Store.faults g.W.Say.said g.W.Say.faults c.prepare_order.new.store c.args.say.now in
    let call : Call = record { words = alone_words (bytes_of_words c.args.words.now); before = before; after = after; journal = c.stopped.result.journal } in
    let order : Order = order_of c.in-Ok.order in
    says-same call c.in-Err-run_order.status c.stopped.result.status c.stopped.ensures.status
    (says-stopped call (named c.in-Some.command) order c.in-Err-run_order.status c.in-Some.ensures.command
    (record { command = c.in-Some.ensures.command ∙ ap Some (sym c.in-Ok.ensures.command); given = c.in-Ok.ensures.ok })
    (record { files = c.in-Ok.ensures.files; said = refl; journal = c.stopped.ensures.journal }) c.in-Err-run_order.ensures.err)

pub returns-in-Ok-finished-clause-job : goal.returns-in-Ok-finished-clause-job
returns-in-Ok-finished-clause-job g c = rw c.done.ensures.job (record {
  order = order_of c.in-Ok.order;
  verdict = record { command = c.in-Some.ensures.command ∙ ap Some (sym c.in-Ok.ensures.command); given = c.in-Ok.ensures.ok };
  job_is = refl;
})

pub returns-in-Err-finished-clause-job : goal.returns-in-Err-finished-clause-job
returns-in-Err-finished-clause-job g c = rw c.unfinished.ensures.job tt

pub returns-in-Err-clause-job : goal.returns-in-Err-clause-job
returns-in-Err-clause-job g c = rw c.refused-in-Err.ensures.job tt

pub returns-in-Err-run_order-clause-job : goal.returns-in-Err-run_order-clause-job
returns-in-Err-run_order-clause-job g c = rw c.stopped.ensures.job (record {
  order = order_of c.in-Ok.order;
  verdict = record { command = c.in-Some.ensures.command ∙ ap Some (sym c.in-Ok.ensures.command); given = c.in-Ok.ensures.ok };
  job_is = refl;
})
