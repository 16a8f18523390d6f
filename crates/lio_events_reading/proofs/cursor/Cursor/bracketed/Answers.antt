use Rattle.std.proofs.Common.{◌≡◌, ◌∙◌, ap, take, drop}
use Rattle.std.specs.List.{prefix_len}
use Rattle.lio_events_reading.specs.Cut.{is_inside}
use Rattle.lio_events_reading.proofs.CutLemmas.{finds_bracketed}
use Rattle.lio_events_reading.proofs.cursor.Cursor.bracketed.Goals as goal

pub returns-clause-finds : goal.returns-clause-finds
returns-clause-finds c =
    let len : c.inside_len.result ≡ prefix_len is_inside c.skip.new.self = c.inside_len.ensures.len ∙ ap (λ bytes. prefix_len is_inside bytes) c.rest.ensures in
    finds_bracketed c.args.self.now c.skip.new.self c.take-inside.result.now c.take-inside.new.self c.skip-2.new.self c.skip.ensures.left
    (c.take-inside.ensures.taken ∙ ap (λ n. take n c.skip.new.self) len) (c.take-inside.ensures.left ∙ ap (λ n. drop n c.skip.new.self) len) c.skip-2.ensures.left
