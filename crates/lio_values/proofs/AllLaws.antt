-- The laws of this crate in one set, for the functions whose contracts they are.
use Rattle.lio_values.proofs.ErasureLemmas.{value_erased_twice, value_erased_below, entry_erased_twice, entry_erased_below}
use Rattle.lio_values.proofs.EqualityLemmas.{handle_equality, plain_equality, content_equality, value_equality, kind_equality, fault_equality, birth_equality, act_equality, reply_equality, entry_equality}

pub ruleset laws = (
  value_erased_twice,
  value_erased_below,
  entry_erased_twice,
  entry_erased_below,
  handle_equality,
  plain_equality,
  content_equality,
  value_equality,
  kind_equality,
  fault_equality,
  birth_equality,
  act_equality,
  reply_equality,
  entry_equality,
)
