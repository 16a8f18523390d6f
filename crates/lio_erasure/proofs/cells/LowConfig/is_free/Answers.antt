use Rattle.std.proofs.Common.{◌∙◌, sym, ap, Some, None}
use Rattle.std.specs.Option.{option_copied}
use Rattle.lio_cells.specs.State.{is_absent}
use Rattle.lio_calculus.specs.Step.{Cell}
use Rattle.lio_erasure.proofs.HolderLemmas.{cell-low}
use Rattle.lio_erasure.proofs.cells.LowConfig.is_free.Goals as goal

pub returns-in-Some : goal.returns-in-Some
returns-in-Some c = λ script longest.
    c.is_absent.ensures ∙ ap is_absent c.state.ensures.state
    ∙ sym (ap (λ (x : Cell). is_absent x.state) (cell-low script longest c.args.self.now c.args.n (Some c.in-Some.holder.now) (sym c.holder.ensures ∙ ap option_copied c.in-Some.is)))

pub returns-in-None : goal.returns-in-None
returns-in-None c = λ script longest.
    sym (ap (λ (x : Cell). is_absent x.state) (cell-low script longest c.args.self.now c.args.n None (sym c.holder.ensures ∙ ap option_copied c.in-None.is)))
