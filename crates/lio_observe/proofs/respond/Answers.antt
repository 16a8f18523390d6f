use Rattle.lio_observe.proofs.respond.Goals as goal

pub returns-clause-ends : goal.returns-clause-ends
returns-clause-ends g c = record {
  says = c.observe_read-status.ensures.says;
  follows = c.observe_read-status.ensures.follows;
  completes = c.observe_read-status.ensures.completes;
  bad_words = c.observe_read-status.ensures.bad_words;
  count = c.observe_read-status.ensures.count;
  exit_is = c.exit_code-exit.ensures;
}
