use Rattle.std.proofs.Common.{List}
use Rattle.lio_values.specs.declared.entry.Entry.{Entry}
use Rattle.lio_outside.specs.Call.{outside}
use Rattle.lio_front.specs.Sorted.{bytes_of_words}
use Rattle.lio_host_main.specs.Answers.{Call}
use Rattle.lio_host_main.proofs.Says.{bad_words}
use Rattle.lio_async_main.specs.Words.{host_words}
use Rattle.lio_async.proofs.respond.Goals as goal

pub returns : goal.returns
returns g c =
    let journal : List Entry = c.coop_main-outcome.result.journal in
    let call : Call = record {
      words = host_words (bytes_of_words c.args.words.now);
      before = outside g.S.Store.holds g.S.Store.faults g.W.Say.said g.W.Say.faults c.args.store.now c.args.say.now;
      after = outside g.S.Store.holds g.S.Store.faults g.W.Say.said g.W.Say.faults c.coop_main-outcome.new.store c.coop_main-outcome.new.say;
      journal = journal;
    } in
    record {
      journal = journal;
      says = c.coop_main-outcome.ensures.says;
      follows = c.coop_main-outcome.ensures.follows;
      completes = c.coop_main-outcome.ensures.completes;
      bad_words = bad_words call c.coop_main-outcome.result.status c.coop_main-outcome.ensures.says;
      count = c.coop_main-outcome.ensures.count;
      exit_is = c.exit_code-exit.ensures;
    }
