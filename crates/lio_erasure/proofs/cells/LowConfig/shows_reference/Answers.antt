use Rattle.std.proofs.Common.{◌∙◌, sym, ap, Option, None}
use Rattle.std.specs.Option.{option_copied}
use Rattle.lio_values.specs.declared.value.Handle.{Handle}
use Rattle.lio_erasure.specs.Low.{low_configuration_of}
use Rattle.lio_erasure.specs.Moves.{shows_reference}
use Rattle.lio_erasure.proofs.HolderLemmas.{cell-low}
use Rattle.lio_erasure.proofs.MoveLemmas.{absent-shows}
use Rattle.lio_erasure.proofs.cells.LowConfig.shows_reference.Goals as goal

pub returns-in-None : goal.returns-in-None
returns-in-None c = λ script longest.
    let handle = c.in-Some.handle.now in
    sym (ap (λ (h : Option Handle). shows_reference (low_configuration_of script longest c.args.self.now) h) (ap option_copied c.in-Some.is)
    ∙ absent-shows (low_configuration_of script longest c.args.self.now) handle (cell-low script longest c.args.self.now handle.number None (sym c.holder.ensures ∙ ap option_copied c.in-None.is)))
