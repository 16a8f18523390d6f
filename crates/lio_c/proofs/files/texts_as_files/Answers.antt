use Rattle.std.proofs.Common.{◌≡◌, ◌∙◌, ap, sym, arith, false, get_or, length, refl, ℕ, List, []}
use Rattle.std.proofs.lemmas.List.{get_or_read_under}
use Rattle.std.specs.Option.{is_some}
use Rattle.lio_outside.specs.FileMap.{FileMap, bytes_of}
use Rattle.lio_c.specs.Bundle.{filed}
use Rattle.lio_c.proofs.BundleLemmas.{all-filed, alone, copied-some, one-more}
use Rattle.lio_c.proofs.files.texts_as_files.Goals as goal

pub loop-number-init : goal.loop-number-init
loop-number-init c = ap (λ (files : FileMap). filed 0 files c.args.items.now) (sym c.new-store.ensures)

pub returns-clause-ok : goal.returns-clause-ok
returns-clause-ok c = c.loop-number.invariant ∙ all-filed c.args.items.now c.loop-number.number c.loop-number.store (omega (arith, c.loop-number-test.false))

pub returns-in_default-clause-err : goal.returns-in_default-clause-err
returns-in_default-clause-err c =
    c.loop-number.invariant ∙ alone c.args.items.now c.loop-number.number c.loop-number.store c.loop-number-test.true c.in_default.ensures.lookup.3

pub loop-number-preserved : goal.loop-number-preserved
loop-number-preserved c =
    let items : List (List ℕ) = c.args.items.now in
    let number : ℕ = c.loop-number.number in
    let name : List ℕ = c.bytes-name.result.now in
    let there = c.in-Some.ensures.lookup.3 in
    let named : name ≡ get_or items number [] = c.bytes-name.ensures ∙ get_or_read_under items number (length items) c.index-items-number.result [] c.index-items-number.is c.loop-number-test.true refl in
    let new : is_some (bytes_of c.loop-number.store name) ≡ false = sym (ap is_some c.get-in-loop-number.ensures) ∙ copied-some c.get-in-loop-number.result ∙ sym c.if-is_some.ensures in
    c.loop-number.invariant ∙ one-more items number c.loop-number.store c.put.new.store name c.bytes.result.now there.0 named (c.bytes.ensures ∙ there.1 []) new c.in_ok-put.ensures
