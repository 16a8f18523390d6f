use Rattle.std.proofs.Common.{◌∙◌, ap, []}
use Rattle.lio_labels.specs.declared.label.Label.{Label}
use Rattle.lio_values.specs.declared.entry.Entry.{Entry}
use Rattle.lio_task.proofs.preview.entry_of.Goals as goal

pub returns-in-Ok : goal.returns-in-Ok
returns-in-Ok c =
    ap (λ (at : Label). let entry : Entry = record { ticket = c.args.ticket; actor = c.args.k; target = c.args.target; at = at; act = c.args.act; reply = c.args.reply } in entry) (c.in-Ok.ensures.ok ∙ c.label.ensures [])
