-- What is run, as the texts of the policy, of the script and of the inputs say, or the refusal of the first step that is refused.
use Rattle.std.specs.Prelude.{ℕ, List, [], ◌∷◌, Option, Some, None, Result, Ok, Err}
use Rattle.lio_outside.specs.Steps.{Steps, Over, ◌>>=◌, asked, unless, told_as}
use Rattle.lio_clauses.specs.declared.faults.TextFault.{TextFault}
use Rattle.lio_labels.specs.declared.label.Label.{Label}
use Rattle.lio_labels.specs.LabelText.{reading}
use Rattle.lio_policy.specs.declared.policy.Policy.{Policy}
use Rattle.lio_policy.specs.declared.policy.FileEntry.{FileEntry}
use Rattle.lio_policy.specs.Verdict.{policy_of}
use Rattle.lio_syntax.specs.Statements.{Procedure}
use Rattle.lio_syntax.specs.Behind.{script_of_lines}
use Rattle.lio_syntax.specs.Verdict as syntax
use Rattle.lio_syntax.specs.Verdict.{parsed_lines, said}
use Rattle.lio_start.specs.Fits.{fits}
use Rattle.lio_front.specs.declared.status.Status.{Status}
use Rattle.lio_front.specs.declared.status.Status.TheVariants.{Missing, BadScript}
use Rattle.lio_front.specs.Status.{of_label, of_policy, of_start}
use Rattle.lio_front.specs.declared.loading.Front.{Front}

-- the most bytes of a policy and of a script
abbrev pub most_policy_bytes : ℕ
most_policy_bytes = 1048576

abbrev pub most_script_bytes : ℕ
most_script_bytes = 262144

-- the policy that a text is, or the lowest rule that it breaks with the lowest entry that does
abbrev pub policy_from : List ℕ → Result Policy Status
policy_from text = told_as of_policy (policy_of text)

-- an observer's label, if its text was read
abbrev pub observed : Result Label TextFault → Result (Option Label) Status
observed (Ok label) = Ok (Some label)
observed (Err fault) = Err (of_label fault)

-- the label of an observer, where its text is there, over the names of principals
abbrev pub observer_from : List (List ℕ) → Option (List ℕ) → Result (Option Label) Status
observer_from names None = Ok None
observer_from names (Some text) = observed (reading names text)

-- the script that a text is, over the names of principals, or the first line that breaks a rule with the lowest rule that it breaks
unfoldable pub script_from : List (List ℕ) → List ℕ → Result (List Procedure) Status
script_from names text = unless (λ place. BadScript place.line place.rule) (syntax.script_fault names text) (script_of_lines (said (parsed_lines names text)))

-- the policy of a file
abbrev pub policy_steps : List ℕ → Steps Policy Status
policy_steps file = do
  text ← asked (Missing file) file most_policy_bytes
  Over (policy_from text)

-- the script of a file, in which each task of the policy has to begin
abbrev pub script_steps : Policy → List ℕ → Steps (List Procedure) Status
script_steps policy file = do
  text ← asked (Missing file) file most_script_bytes
  script ← Over (script_from policy.names text)
  Over (unless of_start (fits policy.tasks script) script)

-- what is read under a policy: the label of an observer, where its text is there, and the script of a file
abbrev pub steps_under : Policy → List ℕ → Option (List ℕ) → Steps (Option Label × List Procedure) Status
steps_under policy script_file label = do
  observer ← Over (observer_from policy.names label)
  script ← script_steps policy script_file
  Over (Ok (observer, script))

-- The policy and the script of two files, and the label of an observer, where its text is there: the policy is read first, then the label, then the script, and each task
-- of the policy has to begin in the script.
abbrev pub loading : List ℕ → List ℕ → Option (List ℕ) → Steps Front Status
loading policy_file script_file label = do
  policy ← policy_steps policy_file
  under ← steps_under policy script_file label
  Over (Ok (record { policy = policy; script = under.1; observer = under.0 }))

-- the texts of inputs, of each at most one byte more than the limit; the first that is missing is refused
abbrev pub texts : ℕ → List FileEntry → Steps (List (List ℕ)) Status
texts longest [] = Over (Ok [])
texts longest (input ∷ inputs) = do
  text ← asked (Missing input.file) input.file longest
  others ← texts longest inputs
  Over (Ok (text ∷ others))
