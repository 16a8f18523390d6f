use Rattle.std.proofs.Common.{subst}
use Rattle.lio_policy.specs.declared.policy.Policy.{Policy}
use Rattle.lio_syntax.specs.Verdict.{IsOver}
use Rattle.lio_bench.proofs.turns.job_of.Goals as goal

pub of-requires-clause-over : goal.of-requires-clause-over
of-requires-clause-over c = subst (λ (p : Policy). IsOver p.names c.in-Ok.script) c.policy.view_is c.in-Ok.ensures.over
