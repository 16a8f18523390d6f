use Rattle.std.proofs.Common.{◌≡◌, ◌∙◌, ap, subst, arith, ◌<◌, ◌∷◌, [], List, length, get_or}
use Rattle.std.proofs.lemmas.Result.{err_from_is_err_and}
use Rattle.lio_outside.specs.Outputs.{Output, kept}
use Rattle.lio_policy.specs.declared.policy.FileEntry.{FileEntry}
use Rattle.lio_policy.specs.declared.policy.Policy.{Policy}
use Rattle.lio_front.specs.Outputs.{OutSays}
use Rattle.lio_front.proofs.SendLemmas.{lists-at, lists-length}
use Rattle.lio_front.proofs.WriteLemmas.{kept-next, out-says, output-is}
use Rattle.lio_front.proofs.write.keep_channels.Goals as goal

pub index-requires : goal.index-requires
index-requires g c =
    omega (arith, c.loop-number-test.true, lists-length c.in_ok-lists.lists.items c.args.journal.now (length c.as_slice-channels.result.now) c.in_ok-lists.ensures)

pub returns-in_err-keep-clause-err : goal.returns-in_err-keep-clause-err
returns-in_err-keep-clause-err g c =
    let p = err_from_is_err_and c.from_residual-in_err-keep.result c.from_residual-in_err-keep.ensures.1 in
    let journal = c.args.journal.now in
    let channels = c.args.policy.now.channels in
    let i = c.loop-number.number in
    let channel : FileEntry = c.index-channels-number.result in
    let items_are : c.as_slice-channels.result.now ≡ channels = c.as_slice-channels.ensures ∙ ap (λ (q : Policy). q.channels) c.policy.view_is in
    let below : i < length channels = subst (λ (xs : List FileEntry). i < length xs) items_are c.loop-number-test.true in
    let at : channel ≡ get_or channels i channel = subst (λ (xs : List FileEntry). channel ≡ get_or xs i channel) items_are c.index-channels-number.is in
    let received = lists-at c.in_ok-lists.lists.items journal (length c.as_slice-channels.result.now) i c.index.result.now c.in_ok-lists.ensures c.loop-number-test.true c.index.ensures in
    let file = output-is journal i channel c.bytes.result.now c.as_slice.result.now c.bytes.ensures (c.as_slice.ensures.value ∙ received) in
    let told = g.S.Store.holds c.args.store.now in
    let before = g.S.Store.holds c.loop-number.store in
    let after = g.S.Store.holds c.keep.new.store in
    let begun = g.S.Store.faults c.args.store.now in
    let middle = g.S.Store.faults c.loop-number.store in
    let ended = g.S.Store.faults c.keep.new.store in
    let fault = c.in_err-keep.field-0.0 in
    rw (p.1, p.2) (out-says told before after journal channels i channel begun middle ended fault below at c.loop-number.invariant.files c.loop-number.invariant.count
    (subst (λ (f : Output). OutSays before after (f ∷ []) middle ended fault) file c.in_err-keep.ensures.err))

pub loop-number-preserved : goal.loop-number-preserved
loop-number-preserved g c =
    let journal = c.args.journal.now in
    let channels = c.args.policy.now.channels in
    let i = c.loop-number.number in
    let channel : FileEntry = c.index-channels-number.result in
    let items_are : c.as_slice-channels.result.now ≡ channels = c.as_slice-channels.ensures ∙ ap (λ (q : Policy). q.channels) c.policy.view_is in
    let below : i < length channels = subst (λ (xs : List FileEntry). i < length xs) items_are c.loop-number-test.true in
    let at : channel ≡ get_or channels i channel = subst (λ (xs : List FileEntry). channel ≡ get_or xs i channel) items_are c.index-channels-number.is in
    let received = lists-at c.in_ok-lists.lists.items journal (length c.as_slice-channels.result.now) i c.index.result.now c.in_ok-lists.ensures c.loop-number-test.true c.index.ensures in
    let file = output-is journal i channel c.bytes.result.now c.as_slice.result.now c.bytes.ensures (c.as_slice.ensures.value ∙ received) in
    let told = g.S.Store.holds c.args.store.now in
    let before = g.S.Store.holds c.loop-number.store in
    let after = g.S.Store.holds c.keep.new.store in
    record {
      count = omega (arith, c.loop-number.invariant.count, c.in_ok-keep.ensures.count);
      files = kept-next told before after journal channels i channel below at c.loop-number.invariant.files (subst (λ (f : Output). after ≡ kept before (f ∷ [])) file c.in_ok-keep.ensures.ok);
    }
