use Rattle.std.proofs.Common.{◌∙◌, sym, arith, length}
use Rattle.std.proofs.lemmas.Bool.{eqb-true}
use Rattle.std.proofs.lemmas.List.{nil_from_length}
use Rattle.lio_front.proofs.SendLemmas.{lists-grown, lists-length, received-none, received-past, received-silent}
use Rattle.lio_front.proofs.sends.append_sent.Goals as goal

pub returns-in_default : goal.returns-in_default
returns-in_default c = λ journal count so_far. so_far ∙ received-none journal c.args.entry.now count c.in_default.is

pub returns-then-is_empty : goal.returns-then-is_empty
returns-then-is_empty c = λ journal count so_far. so_far ∙ received-silent journal c.args.entry.now count c.in-Some.target c.in-Some.is
    (sym c.sent-text.ensures ∙ nil_from_length c.sent-text.result.now (eqb-true (length c.sent-text.result.now) 0 (sym c.is_empty.ensures ∙ c.if-is_empty.true)))

pub returns-then-len-place : goal.returns-then-len-place
returns-then-len-place c = λ journal count so_far. so_far ∙ received-past journal c.args.entry.now count c.in-Some.target c.in-Some.is
    (omega (arith, c.if-len-place.true, c.len.ensures, lists-length c.args.lists.now.items journal count so_far))

pub returns : goal.returns
returns c = λ journal count so_far. lists-grown c.args.lists.now.items journal c.args.entry.now count c.in-Some.target c.sent-text.result.now c.index_mut.result.now c.extend_from_slice.new.self so_far c.in-Some.is
    (omega (arith, c.if-len-place.false, c.len.ensures)) c.sent-text.ensures c.index_mut.ensures.value c.in_ok-extend_from_slice.ensures.items
