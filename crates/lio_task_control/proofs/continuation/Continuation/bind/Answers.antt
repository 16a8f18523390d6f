use Rattle.lio_syntax.specs.Lines.{script_lines}
use Rattle.lio_task_control.specs.Continuation.{place_of}
use Rattle.std.proofs.Common.{◌∙◌}
use Rattle.lio_task_control.proofs.ContinuationLemmas.{at_own, place_eq, moved}
use Rattle.lio_task_control.proofs.continuation.Continuation.bind.Goals as goal

pub returns-clause-ok : goal.returns-clause-ok
unfolding place_of
returns-clause-ok c =
    let ls = script_lines c.args.script.now in
    place_eq _ _ _ _ (c.advance.ensures.environment ∙ c.in_ok-bind.ensures.ok)
    (moved ls c.args.self.now.calls.items c.args.self.now.frame c.advance.new.self c.advance.ensures.items (at_own _ c.requires))
