use Rattle.std.proofs.Common.{sym}
use Rattle.std.proofs.lemmas.Result.{IfOk-weaker}
use Rattle.lio_events_reading.specs.Reading.{Finds}
use Rattle.lio_values.specs.declared.act.Reply.{Reply}
use Rattle.lio_events.specs.EntryText.{reply_text}
use Rattle.lio_events_reading.specs.Over.{IsReplyOver}
use Rattle.lio_events_reading.proofs.ReadingLemmas.{finds_by_word, finds_no_word}
use Rattle.lio_events_reading.proofs.ReplyLemmas.{reply_begins}
use Rattle.lio_events_reading.proofs.replies.reply.Goals as goal

pub returns-in-Some-clause-finds : goal.returns-in-Some-clause-finds
returns-in-Some-clause-finds c =
    IfOk-weaker c.reply_behind.result _ (λ (found : Reply). Finds (reply_text c.args.names.now) (IsReplyOver c.args.names.now) c.args.text.now found c.reply_behind.new.text)
    (λ found finds. finds_by_word (IsReplyOver c.args.names.now) (reply_begins c.args.names.now) c.args.text.now c.word.result.now c.word.new.self c.in-Some.word found c.reply_behind.new.text c.word.ensures.finds
    (sym c.in-Some.ensures) finds) c.reply_behind.ensures.finds

pub returns-in-None-clause-finds : goal.returns-in-None-clause-finds
returns-in-None-clause-finds c =
    finds_no_word (IsReplyOver c.args.names.now) (reply_begins c.args.names.now) c.args.text.now c.word.result.now c.word.new.self _ c.word.new.self c.word.ensures.finds (sym c.in-None.ensures)
