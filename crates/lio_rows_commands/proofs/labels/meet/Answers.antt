use Rattle.std.proofs.Common.{◌≡◌}
use Rattle.std.proofs.lemmas.Result.{IfOk-weaker}
use Rattle.lio_labels.specs.declared.label.Label.{Label}
use Rattle.lio_labels.specs.LabelPrint.{AreNamed}
use Rattle.lio_labels.specs.Bounds.{meet}
use Rattle.lio_rows_commands.proofs.labels.meet.Goals as goal

pub made-requires : goal.made-requires
made-requires c =
    let names = c.args.names.now in
    let one = c.in_ok-one.one in
    let other = c.in_ok-one.other in
    IfOk-weaker c.meet.result (λ (label : Label). label ≡ meet one other) (AreNamed names) (λ label e. rw e (c.meet_is_named.ensures names one other c.in_ok-one.ensures.one c.in_ok-one.ensures.other)) c.meet.ensures.ok
