use Rattle.std.proofs.Common.{subst, ◌++◌}
use Rattle.lio_syntax.specs.Lines.{script_lines}
use Rattle.lio_task_control.specs.declared.front.Front.{Front}
use Rattle.lio_task_control.specs.Front.{IsFront}
use Rattle.lio_task_control.specs.Continuation.{items_at}
use Rattle.lio_task_control.proofs.FrameLemmas.{accessed_simple, accessed_other}
use Rattle.lio_task_control.proofs.places.accessed_at.Goals as goal

pub returns-in-Simple : goal.returns-in-Simple
returns-in-Simple c =
    let items = items_at (script_lines c.args.script.now) c.args.at in
    accessed_simple items c.in-Simple.simple.now (λ others. subst (λ (f : Front). IsFront (items ++ others) f) c.in-Simple.is (c.in_ok-front.ensures others))

pub returns-in_default : goal.returns-in_default
returns-in_default c = accessed_other (items_at (script_lines c.args.script.now) c.args.at) c.in_ok-front.front c.in_default.not-Simple c.in_ok-front.ensures
