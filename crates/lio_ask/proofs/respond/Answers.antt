use Rattle.lio_ask.proofs.respond.Goals as goal

pub returns-clause-ends : goal.returns-clause-ends
returns-clause-ends g c = record {
  says = c.ask-asked.ensures.says;
  writes = record { files = c.ask-asked.ensures.files; count = c.ask-asked.ensures.count };
  bad_words = c.ask-asked.ensures.bad_words;
  exit_is = c.exit_code-exit.ensures;
}
