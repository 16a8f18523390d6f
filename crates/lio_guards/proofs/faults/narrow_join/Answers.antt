use Rattle.lio_labels.specs.Bounds.{join}
use Rattle.lio_guards.proofs.WidthLemmas.{made-unless_wide, refused-unless_wide}
use Rattle.lio_guards.proofs.faults.narrow_join.Goals as goal

pub returns-in-Ok : goal.returns-in-Ok
returns-in-Ok c = made-unless_wide (join c.args.current.now c.args.target.now) c.in-Ok.label c.in-Ok.ensures.ok c.in-Ok.ensures.wide

pub returns-in-Err-Wide : goal.returns-in-Err-Wide
returns-in-Err-Wide c = refused-unless_wide (join c.args.current.now c.args.target.now) c.in-Err-Wide.field-0 c.in-Err-Wide.field-0-is c.in-Err-Wide.ensures.wide
