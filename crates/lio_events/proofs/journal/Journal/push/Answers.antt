use Rattle.std.proofs.Common.{◌∙◌, ◌++◌, ◌∷◌, [], ap}
use Rattle.lio_events.proofs.journal.Journal.push.Goals as goal

pub returns-clause-ok : goal.returns-clause-ok
returns-clause-ok c = c.in_ok-push.ensures.items ∙ ap (λ entries. entries ++ c.args.entry ∷ []) c.self.view_is
