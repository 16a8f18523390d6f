use Rattle.std.proofs.Common.{sym, ap, ◌∙◌}
use Rattle.lio_syntax.specs.Headers.{count_in}
use Rattle.lio_syntax.specs.Rules.{or_else, count_if_named}
use Rattle.lio_syntax.proofs.HeaderLemmas.{or_else-none}
use Rattle.lio_syntax.proofs.ProgressLemmas.{knows-push}
use Rattle.lio_syntax.proofs.progress.Progress.add_header.Goals as goal

pub returns-in_ok-add-clause-seen : goal.returns-in_ok-add-clause-seen
returns-in_ok-add-clause-seen c = λ before knows.
    knows-push _ _ before _ knows (λ q. c.in_ok-add.ensures q ∙ ap (λ h. or_else (count_in c.args.self.now.seen q) (count_if_named q h)) (sym c.in-Some.ensures))

pub returns-in_default-clause-seen : goal.returns-in_default-clause-seen
returns-in_default-clause-seen c = λ before knows.
    knows-push _ _ before _ knows (λ q. sym (ap (λ h. or_else (count_in c.args.self.now.seen q) (count_if_named q h)) c.in_default.ensures ∙ or_else-none (count_in c.args.self.now.seen q)))
