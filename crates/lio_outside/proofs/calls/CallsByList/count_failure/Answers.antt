use Rattle.std.proofs.Common.{ap, ◌∙◌}
use Rattle.lio_outside.specs.Count.{counted}
use Rattle.lio_outside.specs.CallsByList as spec
use Rattle.lio_outside.proofs.calls.CallsByList.count_failure.Goals as goal

pub returns-clause-counted : goal.returns-clause-counted
returns-clause-counted c =
    let called = c.self.view_is ∙ c.count_call.ensures in
    let faults = c.saturating_add-self-inside.ensures ∙ ap (λ (s : spec.CallsByList). counted s.faults) called in
    λ i. record (called i) { faults = faults i }
