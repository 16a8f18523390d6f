use Rattle.std.proofs.Common.{refl, ap, Bool, if◌then◌else◌}
use Rattle.lio_calculus.specs.Step.{blank}
use Rattle.lio_task.specs.Configuration.{cell_of}
use Rattle.lio_erasure.proofs.KeptLemmas.{seen-kept}
use Rattle.lio_erasure.proofs.hidden.seen.Goals as goal

pub returns-then-is_seen-clause-seen : goal.returns-then-is_seen-clause-seen
returns-then-is_seen-clause-seen c = λ script. ap (λ (b : Bool). if b then cell_of script c.args.holder else blank) (c.if-is_seen.ensures script)

pub returns-then-is_seen-clause-kept : goal.returns-then-is_seen-clause-kept
returns-then-is_seen-clause-kept c = seen-kept c.args.observer.now c.args.holder c.if-is_seen.ensures

pub returns-else-is_seen-clause-seen : goal.returns-else-is_seen-clause-seen
returns-else-is_seen-clause-seen c = λ script. ap (λ (b : Bool). if b then cell_of script c.args.holder else blank) (c.if-is_seen.ensures script)

pub returns-else-is_seen-clause-kept : goal.returns-else-is_seen-clause-kept
returns-else-is_seen-clause-kept c = refl
