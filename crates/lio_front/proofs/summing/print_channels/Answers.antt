use Rattle.std.proofs.Common.{◌≡◌, ◌∙◌, ap, subst, arith, ◌<◌, List, length, get_or}
use Rattle.std.proofs.lemmas.Grind.{get_or_default_zero}
use Rattle.lio_policy.specs.declared.policy.FileEntry.{FileEntry}
use Rattle.lio_policy.specs.declared.policy.Policy.{Policy}
use Rattle.lio_front.proofs.SendLemmas.{lengths-at, lengths-length}
use Rattle.lio_front.proofs.SumLemmas.{lines-push}
use Rattle.lio_front.proofs.summing.print_channels.Goals as goal

pub index-requires : goal.index-requires
index-requires c =
    omega (arith, c.loop-number-test.true, lengths-length c.in_ok-lengths.lengths.items c.args.journal.now (length c.as_slice-channels.result.now) c.in_ok-lengths.ensures)

pub loop-number-preserved : goal.loop-number-preserved
loop-number-preserved c =
    let channels = c.args.policy.now.channels in
    let count = length c.as_slice-channels.result.now in
    let lengths = c.in_ok-lengths.lengths.items in
    let i = c.loop-number.number in
    let channel : FileEntry = c.index-channels-number.result in
    let items_are : c.as_slice-channels.result.now ≡ channels = c.as_slice-channels.ensures ∙ ap (λ (q : Policy). q.channels) c.policy.view_is in
    let below : i < length channels = subst (λ (xs : List FileEntry). i < length xs) items_are c.loop-number-test.true in
    let at : channel ≡ get_or channels i channel = subst (λ (xs : List FileEntry). channel ≡ get_or xs i channel) items_are c.index-channels-number.is in
    let inside : i < length lengths = omega (arith, c.loop-number-test.true, lengths-length lengths c.args.journal.now count c.in_ok-lengths.ensures) in
    lines-push c.args.out.now.items c.loop-number.out.items c.extend_from_slice.new.self.items c.print_line.new.out.items c.bytes.result.now c.index.result.now c.args.journal.now channels i channel below at
    c.loop-number.invariant c.in_ok-extend_from_slice.ensures.items c.in_ok-print_line.ensures c.bytes.ensures
    (c.index.ensures ∙ get_or_default_zero lengths i c.index.result.now inside ∙ lengths-at lengths c.args.journal.now count i c.in_ok-lengths.ensures c.loop-number-test.true)
