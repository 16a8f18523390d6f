use Rattle.std.proofs.Common.{◌∙◌, ap, refl, sym, length, [], ℕ, List}
use Rattle.std.proofs.lemmas.List.{get_or_read_under}
use Rattle.lio_outside.specs.FileMap.{bytes_of}
use Rattle.lio_c.specs.Answers.{or_none}
use Rattle.lio_c.proofs.ReplyLemmas.{files-more}
use Rattle.lio_c.proofs.reply.print_files.Goals as goal

pub loop-name-preserved : goal.loop-name-preserved
loop-name-preserved c =
    let names : List (List ℕ) = c.args.names.now in
    let index : ℕ = c.loop-name.name-index in
    let store = c.args.store.now in
    files-more store names index c.args.out.now.items c.loop-name.out.items c.print_item.new.out.items c.print_item-in-loop-name.new.out.items c.bytes.result.now c.bytes_under.result.now c.loop-name-test.true
    (c.bytes.ensures ∙ get_or_read_under names index (length names) c.name-item.result [] c.name-item.is c.loop-name-test.true refl) c.loop-name.invariant c.in_ok-print_item.ensures c.in_ok-print_item-2.ensures
    (c.bytes_under.ensures ∙ ap (λ (name : List ℕ). or_none (bytes_of store name)) (c.bytes-in-loop-name.ensures ∙ sym c.bytes.ensures))
