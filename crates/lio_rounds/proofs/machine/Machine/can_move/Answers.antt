use Rattle.std.proofs.Common.{◌∙◌, ap}
use Rattle.lio_calculus.specs.Step.{can}
use Rattle.lio_rounds.specs.MachineParts.{MachineParts, machine_of}
use Rattle.lio_rounds.proofs.machine.Machine.can_move.Goals as goal

pub returns : goal.returns
returns c =
    c.can_move.ensures c.self.invariant.0.well_formed.sound
    ∙ ap (λ (m : MachineParts). can (machine_of m).configuration c.args.k) c.self.view_is
