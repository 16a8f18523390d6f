use Rattle.std.proofs.Common.{rules}
use Rattle.lio_operators.proofs.ListLemmas.{pushed-refused, pushed-told}
use Rattle.lio_operators.proofs.lists.pushed.Goals as goal

pub returns-then-not-may_be_made : goal.returns-then-not-may_be_made
returns-then-not-may_be_made c = search (pushed-refused, rules)

pub returns : goal.returns
returns c = search (pushed-told, rules)
