use Rattle.lio_host.proofs.respond.Goals as goal

pub returns : goal.returns
returns g c = record {
  journal = c.host_main-outcome.result.journal;
  says = c.host_main-outcome.ensures.says;
  follows = c.host_main-outcome.ensures.follows;
  completes = c.host_main-outcome.ensures.completes;
  bad_words = c.host_main-outcome.ensures.bad_words;
  count = c.host_main-outcome.ensures.count;
  exit_is = c.exit_code-exit.ensures;
}
