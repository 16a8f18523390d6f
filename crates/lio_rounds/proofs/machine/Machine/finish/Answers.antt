use Rattle.std.proofs.Common.{subst, sym}
use Rattle.lio_calculus.specs.Journals.{IsMerged}
use Rattle.lio_calculus.proofs.JournalLemmas.{numbered-rising, parts-mergeable, parts-merged}
use Rattle.lio_task.specs.Logs.{log_in}
use Rattle.lio_rounds.specs.MachineLaws.{HasRunSeen}
use Rattle.lio_rounds.specs.MachineParts.{MachineParts, machine_of}
use Rattle.lio_rounds.proofs.SeenLemmas.{has_run-seen}
use Rattle.lio_rounds.proofs.machine.Machine.finish.Goals as goal

pub returns-clause-seen : goal.returns-clause-seen
returns-clause-seen c =
    subst (λ (m : MachineParts). HasRunSeen (machine_of m)) c.self.view_is
    (has_run-seen (machine_of (record { script = c.self.inside.script; config = c.self.inside.config; entries = c.self.inside.entries.items; order = c.self.inside.order.items })) c.self.invariant.0.ran)

pub of-requires : goal.of-requires
of-requires c = numbered-rising 0 c.self.inside.entries.items c.self.invariant.0.numbered

pub returns-clause-mergeable : goal.returns-clause-mergeable
returns-clause-mergeable c = parts-mergeable (log_in c.self.inside.config) c.self.inside.entries.items c.self.invariant.2.parts c.self.invariant.0.numbered

pub returns-clause-merged : goal.returns-clause-merged
returns-clause-merged c =
    subst (IsMerged (log_in c.self.inside.config)) (sym c.of.ensures) (parts-merged (log_in c.self.inside.config) c.self.inside.entries.items c.self.invariant.2.parts c.self.invariant.0.numbered)
