use Rattle.std.proofs.Common.{◌∙◌, ap, Bool, if◌then◌else◌}
use Rattle.lio_calculus.specs.Step.{with_cell}
use Rattle.lio_erasure.specs.Low.{low_cell_of, low_configuration_of}
use Rattle.lio_erasure.proofs.HolderLemmas.{with_cell-low}
use Rattle.lio_erasure.proofs.KeptLemmas.{set-kept}
use Rattle.lio_erasure.proofs.cells.LowConfig.place.Goals as goal

pub returns-then-is_free-clause-places : goal.returns-then-is_free-clause-places
returns-then-is_free-clause-places c = λ script longest.
    let was = low_configuration_of script longest c.args.self.now in
    let cell = low_cell_of script c.args.cell in
    ap (low_configuration_of script longest) c.put.ensures ∙ with_cell-low script longest c.args.self.now c.args.n c.args.cell
    ∙ ap (λ (b : Bool). if b then with_cell was c.args.n cell else was) (c.if-is_free.ensures script longest)

pub returns-else-is_free-clause-places : goal.returns-else-is_free-clause-places
returns-else-is_free-clause-places c = λ script longest.
    let was = low_configuration_of script longest c.args.self.now in
    let cell = low_cell_of script c.args.cell in
    ap (λ (b : Bool). if b then with_cell was c.args.n cell else was) (c.if-is_free.ensures script longest)

pub returns-then-is_free-clause-kept : goal.returns-then-is_free-clause-kept
returns-then-is_free-clause-kept c = λ kept all. set-kept c.args.self.now c.put.new.self c.args.n c.args.cell c.put.ensures kept all

pub returns-else-is_free-clause-kept : goal.returns-else-is_free-clause-kept
returns-else-is_free-clause-kept c = λ kept all. all
