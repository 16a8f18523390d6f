use Rattle.std.proofs.Common.{◌≡◌, ◌∙◌, ap, take, drop}
use Rattle.std.specs.List.{prefix_len}
use Rattle.lio_events_reading.specs.Reading.{is_word_byte}
use Rattle.lio_events_reading.proofs.CutLemmas.{finds_word}
use Rattle.lio_events_reading.proofs.cursor.Cursor.word.Goals as goal

pub returns-clause-finds : goal.returns-clause-finds
returns-clause-finds c =
    let len : c.word_len.result ≡ prefix_len is_word_byte c.args.self.now = c.word_len.ensures.len ∙ ap (λ bytes. prefix_len is_word_byte bytes) c.rest.ensures in
    finds_word c.args.self.now c.take.result.now c.take.new.self (c.take.ensures.taken ∙ ap (λ n. take n c.args.self.now) len)
    (c.take.ensures.left ∙ ap (λ n. drop n c.args.self.now) len)
