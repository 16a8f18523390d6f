use Rattle.lio_rounds.specs.MachineParts.{machine_of}
use Rattle.lio_async_rounds.proofs.StreamLemmas.{found-or_none}
use Rattle.lio_async_rounds.proofs.view_stream.ViewStream.find.Goals as goal

pub returns-clause-found : goal.returns-clause-found
returns-clause-found c = found-or_none _ (machine_of c.args.machine.now) c.entries-entries.result.now c.entries-entries.ensures c.first_seen-self.ensures.seen
