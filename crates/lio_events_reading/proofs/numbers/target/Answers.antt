use Rattle.std.proofs.Common.{◌≡◌, ◌∙◌, ap, sym, get_or}
use Rattle.lio_events_reading.proofs.NumberLemmas.{finds_no_target, finds_target}
use Rattle.lio_events_reading.proofs.numbers.target.Goals as goal

pub returns-then-first-eq45-clause-finds : goal.returns-then-first-eq45-clause-finds
returns-then-first-eq45-clause-finds c =
    let first : get_or c.args.text.now 0 0 ≡ 45 = sym (c.byte_at-first.ensures ∙ ap (λ bytes. get_or bytes 0 0) c.rest.ensures) ∙ c.if-first-eq45.true in
    finds_no_target c.args.text.now c.word-word.result.now c.word-word.new.self c.word-word.ensures.finds first

pub returns-else-first-eq45-clause-finds : goal.returns-else-first-eq45-clause-finds
returns-else-first-eq45-clause-finds c =
    let same : c.byte_at-first.result ≡ get_or c.args.text.now 0 0 = c.byte_at-first.ensures ∙ ap (λ bytes. get_or bytes 0 0) c.rest.ensures in
    finds_target c.args.text.now c.word-word.result.now c.word-word.new.self c.number_of.result c.short.result c.word-word.ensures.finds (λ e. c.if-first-eq45.false (same ∙ e)) c.number_of.ensures c.short.ensures
