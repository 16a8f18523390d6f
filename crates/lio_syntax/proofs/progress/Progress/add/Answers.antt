use Rattle.std.proofs.Common.{◌∷◌, ◌++◌, [], ap, ◌∙◌}
use Rattle.lio_syntax.specs.OpenBlocks.{opened_by}
use Rattle.lio_syntax.proofs.ProgressLemmas.{stands-says}
use Rattle.lio_syntax.proofs.progress.Progress.add.Goals as goal

pub returns-clause-step : goal.returns-clause-step
returns-clause-step c = λ before stands.
    let others = c.in_ok-add_header.ensures.others in
    stands-says c.args.self.now _ before c.args.line stands
    (c.in_ok-open_by.ensures ∙ ap (λ blocks. opened_by blocks c.args.line) others.0)
    (c.in_ok-add_header.ensures.seen before stands.seen)
    c.in_ok-add_header.ensures.procedures
    others.1
    (c.in_ok-push.ensures.items ∙ ap (λ ls. ls ++ c.args.line ∷ []) others.2)
