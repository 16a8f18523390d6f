use Rattle.std.proofs.Common.{◌∙◌}
use Rattle.lio_syntax.specs.Lines.{script_lines}
use Rattle.lio_task_control.specs.Continuation.{place_of}
use Rattle.lio_task_control.proofs.ContinuationLemmas.{returned-own}
use Rattle.lio_task_control.proofs.continuation.Continuation.give_back.Goals as goal

pub returns-clause-ok : goal.returns-clause-ok
unfolding place_of
returns-clause-ok c =
    let ls = script_lines c.args.script.now in
    c.in_ok-go_back.ensures.ok ls ∙ returned-own c.args.value c.args.self.now.frame.environment _ c.requires
