use Rattle.std.proofs.Common.{◌∙◌, sym, ap, length}
use lib.ListN.{length-map}
use Rattle.lio_clauses.specs.Principals.{principals}
use Rattle.lio_values.proofs.measures.clauses.Goals as goal

pub returns-clause-count : goal.returns-clause-count
returns-clause-count c = sym (length-map c.clauses.result.now principals) ∙ ap length c.clauses.ensures.masks
