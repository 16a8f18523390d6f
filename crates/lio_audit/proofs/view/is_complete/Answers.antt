use Rattle.std.proofs.Common.{◌≡◌, ◌∙◌, ◌≤◌, sym, ap, arith, length, List, Option}
use Rattle.std.proofs.lemmas.List.{length-map}
use Rattle.lio_calculus.specs.Step.{Configuration}
use Rattle.lio_task.specs.declared.config.Holder.{Holder}
use Rattle.lio_erasure.specs.Low.{low_cell_of}
use Rattle.lio_erasure.specs.LowParts.{low_of}
use Rattle.lio_audit.proofs.RunLemmas.{complete-below}
use Rattle.lio_audit.proofs.view.is_complete.Goals as goal

pub returns-clause-yes : goal.returns-clause-yes
returns-clause-yes c = λ _.
    let here : Configuration = (low_of c.args.low.now).configuration in
    let cells : length here.cells ≡ length c.args.low.now.holders = length-map c.args.low.now.holders (low_cell_of c.args.low.now.script) in
    let kept : length c.config.result.now ≡ length here.cells =
    sym (length-map c.config.result.now (low_cell_of c.args.low.now.script)) ∙ ap (λ (d : Configuration). length d.cells) c.config.ensures.cells in
    let shown : length c.as_slice-k-end.result.now ≡ length c.config.result.now = ap (λ (hs : List (Option Holder)). length hs) c.as_slice-k-end.ensures in
    let ends : length here.cells ≤ c.loop-k.k = omega (arith, c.loop-k-test.false, kept, shown) in
    complete-below here c.loop-k.k ends c.loop-k.invariant
