use Rattle.std.proofs.Common.{rules}
use Rattle.lio_c.proofs.ItemLemmas.{other-front}
use Rattle.lio_c.proofs.netstrings.behind.Goals as goal

pub returns-else-eq : goal.returns-else-eq
returns-else-eq c = other-front c.args.bytes.now c.args.front.now c.split_at.result.0.now (search rules) (λ is. search rules)
