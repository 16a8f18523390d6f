-- What is run: a policy, a script that fits it, and the texts of the policy's inputs.
use Rattle.std.specs.Prelude.{◌≡◌, ℕ, List, None, length, refl}
use Rattle.std.specs.Coded.{Coded, code_by, coded_list, coded×, coded_ℕ}
use Rattle.lio_syntax.specs.Statements.{Procedure}
use Rattle.lio_syntax.specs.Lines.{script_lines}
use Rattle.lio_syntax.specs.Kept.{KeepsRules}
use Rattle.lio_syntax.specs.ScriptCode.{script_code}
use Rattle.lio_syntax.specs.Verdict.{IsOver}
use Rattle.lio_calculus.specs.Step.{Configuration}
use Rattle.lio_policy.specs.Policy.{PolicyParts, IsPolicy}
use Rattle.lio_policy.specs.contracts.policy.Policy as policy_contract
use Rattle.lio_start.specs.Fits.{fits}
use Rattle.lio_start.specs.Laws.{SaysLiterals}
use Rattle.lio_start.specs.Start.{start_of}

-- a job, as contracts see it
pub record JobParts : Type 0 where
  pub policy : PolicyParts
  pub script : List Procedure
  pub inputs : List (List ℕ)

-- jobs are told apart as tuples of their parts are
abbrev pub job_code : Coded JobParts
job_code =
    code_by (PolicyParts × (List Procedure × List (List ℕ)))
    (coded× policy_contract.the_row.coded (coded× script_code (coded_list (coded_list coded_ℕ))))
    (λ job. (job.policy, (job.script, job.inputs))) (λ t. record { policy = t.0; script = t.1.0; inputs = t.1.1 }) (λ job. refl)

-- What each job keeps.
pub record IsJob (job : JobParts) : Type 0 where
  -- the policy breaks no rule
  pub policy : IsPolicy job.policy
  -- nor do the lines of the script, and their literals are values that a word can say
  pub rules : KeepsRules (script_lines job.script)
  pub literals : SaysLiterals job.script
  -- each task of the policy can begin in the script
  pub fits : fits job.policy.tasks job.script ≡ None
  -- the script is over the principals of the policy
  pub over : IsOver job.policy.names job.script
  -- there is one text for each input
  pub each : length job.inputs ≡ length job.policy.inputs

-- the first configuration of a job
abbrev pub first_of : JobParts → Configuration
first_of job = start_of job.policy job.script job.inputs
