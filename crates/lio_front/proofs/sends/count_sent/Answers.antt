use Rattle.std.proofs.Common.{◌<◌, ◌+◌, ◌∙◌, ap, ℕ, arith, length, map}
use Rattle.std.proofs.lemmas.Grind.{get_or_default_zero}
use Rattle.lio_front.proofs.SendLemmas.{lengths-grown, lengths-length, received-none, received-past}
use Rattle.lio_front.proofs.sends.count_sent.Goals as goal

pub returns-in_default : goal.returns-in_default
returns-in_default c = λ journal count so_far. so_far ∙ ap (map length) (received-none journal c.args.entry.now count c.in_default.is)

pub returns-then-len-place : goal.returns-then-len-place
returns-then-len-place c = λ journal count so_far. so_far ∙ ap (map length) (received-past journal c.args.entry.now count c.in-Some.target c.in-Some.is
    (omega (arith, c.if-len-place.true, c.len.ensures, lengths-length c.args.lengths.now.items journal count so_far)))

pub returns : goal.returns
returns c = λ journal count so_far.
    let lengths = c.args.lengths.now.items in
    let inside : c.in-Some.target < length lengths = omega (arith, c.if-len-place.false, c.len.ensures) in
    lengths-grown lengths journal c.args.entry.now count c.in-Some.target c.sent-more.result.now c.in-Some-checked_add.length so_far c.in-Some.is inside c.sent-more.ensures
    (c.in-Some-checked_add.ensures.1 ∙ ap (λ (n : ℕ). n + length c.sent-more.result.now) (c.index.ensures ∙ get_or_default_zero lengths c.in-Some.target c.index.result.now inside))
