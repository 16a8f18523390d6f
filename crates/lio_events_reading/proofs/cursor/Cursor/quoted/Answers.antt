use Rattle.std.proofs.Common.{◌≡◌, ◌∙◌, ap, take, drop, true}
use Rattle.lio_events_reading.specs.Cut.{quoted_len}
use Rattle.lio_events_reading.proofs.CutLemmas.{finds_quoted}
use Rattle.lio_events_reading.proofs.cursor.Cursor.quoted.Goals as goal

pub returns-clause-finds : goal.returns-clause-finds
returns-clause-finds c =
    let len : c.quoted_len.result ≡ quoted_len true c.args.self.now = c.quoted_len.ensures.len ∙ ap (λ bytes. quoted_len true bytes) c.rest.ensures in
    finds_quoted c.args.self.now c.take.result.now c.take.new.self (c.take.ensures.taken ∙ ap (λ n. take n c.args.self.now) len)
    (c.take.ensures.left ∙ ap (λ n. drop n c.args.self.now) len)
