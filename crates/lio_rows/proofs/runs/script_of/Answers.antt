use Rattle.std.proofs.Common.{subst}
use Rattle.lio_policy.specs.declared.policy.Policy.{Policy}
use Rattle.lio_syntax.specs.Verdict.{IsOver}
use Rattle.lio_rows.proofs.runs.script_of.Goals as goal

pub returns-in-None-clause-over : goal.returns-in-None-clause-over
returns-in-None-clause-over c = subst (λ (p : Policy). IsOver p.names c.in_ok-script.script) c.policy.view_is c.in_ok-script.ensures.over
