use Rattle.std.proofs.Common.{◌≡◌, ◌∙◌, sym, ap, true≢false, Option, Some, is_some, []}
use Rattle.std.proofs.lemmas.Result.{IfOk-weaker}
use Rattle.lio_labels.specs.declared.label.Label.{Label}
use Rattle.lio_values.specs.declared.act.Act.{Act}
use Rattle.lio_values.specs.declared.act.Reply.{Reply}
use Rattle.lio_values.specs.declared.entry.Entry.{Entry}
use Rattle.lio_values.specs.Erasure.{erase_act}
use Rattle.lio_erasure.specs.Acts.{shown_act}
use Rattle.lio_task.specs.declared.task.Task.{Task}
use Rattle.lio_erasure.specs.Low.{low_task_in}
use Rattle.lio_erasure.specs.LowParts.{LowParts}
use Rattle.lio_erasure.specs.Turn.{IsShown}
use Rattle.lio_erasure.proofs.HolderLemmas.{same-code_task}
use Rattle.lio_erasure.proofs.low.Low.shown.Goals as goal

pub unreachable-requires : goal.unreachable-requires
unreachable-requires c =
    true≢false (sym c.requires.there ∙ ap (λ (task : Option Task). is_some task) (sym (c.in_default.ensures ∙ ap (λ (parts : LowParts). low_task_in parts.holders c.args.k) c.self.view_is)))

pub unreachable-unreachable : goal.unreachable-unreachable
unreachable-unreachable c = c.unreachable.result

pub returns-in-Ok : goal.returns-in-Ok
returns-in-Ok c =
    let parts = c.args.self.now in
    let plain : Label → Act → Reply → Entry = λ label asked reply. record { ticket = 0; actor = c.args.k; target = c.args.target; at = label; act = asked; reply = reply } in
    let found : Some c.in-Some.task.now ≡ low_task_in parts.holders c.args.k = c.in-Some.ensures ∙ ap (λ (p : LowParts). low_task_in p.holders c.args.k) c.self.view_is in
    let act_is = c.in-Ok.ensures ∙ ap (λ (p : LowParts). shown_act p.observer c.args.act) c.self.view_is ∙ sym c.requires.seen.act_is in
    IfOk-weaker c.entry_of.result _ (IsShown parts c.args.k c.args.target c.args.act c.args.reply)
    (λ entry is task at.
    is ∙ ap (λ (label : Label). plain label c.in-Ok.act c.args.reply) (c.label.ensures []) ∙ ap (λ (t : Task). plain t.label c.in-Ok.act c.args.reply) (same-code_task found at)
    ∙ ap (λ (a : Act). plain task.label a c.args.reply) act_is ∙ ap (plain task.label (erase_act parts.observer c.args.act)) (sym c.requires.seen.reply_is)) c.entry_of.ensures
