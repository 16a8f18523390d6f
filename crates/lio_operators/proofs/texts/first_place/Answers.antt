-- A search from the front finds the first place.
use Rattle.lio_operators.proofs.TextLemmas.{first_place_found}
use Rattle.lio_operators.proofs.texts.first_place.Goals as goal

pub returns-clause-value : goal.returns-clause-value
returns-clause-value c = first_place_found c.args.part.now c.args.text.now _ (assumption)
