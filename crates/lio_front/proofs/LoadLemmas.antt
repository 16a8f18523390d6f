-- The steps before a run: the texts that aren't read, and how the steps stand together.
use Rattle.std.proofs.Common.{◌≡◌, ◌∙◌, ap, refl, ℕ, ◌≤◌, arith, List, Option, Some, None, Ok, Err, inl, inr}
use Rattle.std.specs.Prelude.{◌⊎◌}
use Rattle.lio_outside.specs.FileMap.{FileMap}
use Rattle.lio_outside.specs.Count.{Faults}
use Rattle.lio_outside.specs.Steps.{Steps, Over, ◌>>=◌, asked, unless}
use Rattle.lio_outside.proofs.StepsLemmas.{give-then, refuse-behind, refuse-first}
use Rattle.lio_outside.specs.Asking.{Give}
use Rattle.lio_labels.specs.declared.label.Label.{Label}
use Rattle.lio_policy.specs.declared.policy.Policy.{Policy}
use Rattle.lio_policy_draft.specs.declared.fault.PolicyFault.{PolicyFault}
use Rattle.lio_policy_draft.specs.declared.fault.PolicyFault.TheVariants as policy_fault
use Rattle.lio_policy.specs.Verdict.{policy_of}
use Rattle.lio_syntax.specs.declared.fault.ScriptFault.{ScriptFault}
use Rattle.lio_syntax.specs.declared.fault.ScriptFault.TheVariants as script_fault
use Rattle.lio_syntax.specs.Statements.{Procedure}
use Rattle.lio_syntax.specs.Behind.{script_of_lines}
use Rattle.lio_syntax.specs.ScriptCode.{script_of_lines-script_lines}
use Rattle.lio_syntax.specs.Refusal.{Refuses}
use Rattle.lio_syntax.specs.Verdict as syntax
use Rattle.lio_syntax.specs.Verdict.{IsScript, Place, parsed_lines, said}
use Rattle.lio_start.specs.declared.fault.StartFault.{StartFault}
use Rattle.lio_start.specs.declared.fault.StartFault.TheVariants as start_fault
use Rattle.lio_start.specs.Fits.{fits}
use Rattle.lio_front.specs.declared.status.Status.{Status}
use Rattle.lio_front.specs.declared.status.Status.TheVariants.{Missing, BadScript}
use Rattle.lio_front.specs.declared.loading.Front.{Front}
use Rattle.lio_front.specs.Status.{Says, cause_of, of_policy, of_script, of_start}
use Rattle.lio_front.specs.Loading.{loading, policy_from, policy_steps, script_from, script_steps, steps_under}

-- a policy that was read
pub policy_from-read : (text : List ℕ) (policy : Policy) → policy_of text ≡ Ok policy → policy_from text ≡ Ok policy
policy_from-read text policy is = rw is refl

-- the policy isn't read
pub says-bad_policy : (told : Option FileMap) (text : List ℕ) (before after : Faults) (fault : PolicyFault) → (fault ≡ policy_fault.NoMemory) ⊎ (policy_of text ≡ Err fault) → Says told (Over (policy_from text)) before after (of_policy fault)
says-bad_policy told text before after (policy_fault.Bad rule entry) (inl is) = absurd (cc)
says-bad_policy told text before after (policy_fault.Bad rule entry) (inr is) = rw is refl
says-bad_policy told text before after policy_fault.NoMemory says = tt

-- the fault of a place
abbrev bad : Place → Status
bad place = BadScript place.line place.rule

-- a script that was read
pub script_from-read : (names : List (List ℕ)) (text : List ℕ) (script : List Procedure) → IsScript names text script → script_from names text ≡ Ok script
unfolding script_from
script_from-read names text script is =
    ap (λ (place : Option Place). unless bad place (script_of_lines (said (parsed_lines names text)))) is.no_fault
    ∙ ap Ok (ap script_of_lines is.lines ∙ script_of_lines-script_lines script)

script_from-bad : (names : List (List ℕ)) (text : List ℕ) (line rule : ℕ) → syntax.script_fault names text ≡ Some (record { line = line; rule = rule }) → script_from names text ≡ Err (BadScript line rule)
unfolding script_from
script_from-bad names text line rule is = ap (λ (place : Option Place). unless bad place (script_of_lines (said (parsed_lines names text)))) is

-- the script isn't read
pub says-bad_script : (told : Option FileMap) (names : List (List ℕ)) (text : List ℕ) (before after : Faults) (fault : ScriptFault) → Refuses (syntax.script_fault names text) fault → Says told (Over (script_from names text)) before after (of_script fault)
says-bad_script told names text before after (script_fault.Bad line rule) is = script_from-bad names text line rule is
says-bad_script told names text before after script_fault.NoMemory is = tt

-- a task can't begin
pub says-bad_start : (told : Option FileMap) (policy : Policy) (procedures : List Procedure) (before after : Faults) (fault : StartFault) → fits policy.tasks procedures ≡ Some fault
    → Says told (Over (unless of_start (fits policy.tasks procedures) procedures)) before after (of_start fault)
says-bad_start told policy procedures before after (start_fault.NoProc place) is = rw is refl
says-bad_start told policy procedures before after (start_fault.Arity place) is = rw is refl

-- the steps behind the script's text, and behind the script
abbrev behind_script : Policy → List Procedure → Steps (List Procedure) Status
behind_script policy script = Over (unless of_start (fits policy.tasks script) script)

abbrev behind_text : Policy → List ℕ → Steps (List Procedure) Status
behind_text policy text = Over (script_from policy.names text) >>= behind_script policy

-- the script is read, and each task can begin
pub give-script : (told : Option FileMap) (policy : Policy) (file text : List ℕ) (script : List Procedure) → Give told (asked (Missing file) file 262144) (Ok text) → script_from policy.names text ≡ Ok script → fits policy.tasks script ≡ None
    → Give told (script_steps policy file) (Ok script)
give-script told policy file text script gave is fit =
    give-then told (asked (Missing file) file 262144) (behind_text policy) text (Ok script) gave
    (give-then told (Over (script_from policy.names text)) (behind_script policy) script (Ok script) is (ap (λ (fault : Option StartFault). unless of_start fault script) fit))

-- it isn't read
pub refuse-script : (told : Option FileMap) (policy : Policy) (file text : List ℕ) (before after : Faults) (fault : Status) → before.count ≤ after.count → Give told (asked (Missing file) file 262144) (Ok text) → Says told (Over (script_from policy.names text)) after after fault
    → Says told (script_steps policy file) before after fault
refuse-script told policy file text before after fault below gave says =
    refuse-behind (cause_of fault) told (asked (Missing file) file 262144) (behind_text policy) text before after after fault below gave
    (refuse-first (cause_of fault) told (Over (script_from policy.names text)) (behind_script policy) after after fault says)

-- a task can't begin
pub refuse-start : (told : Option FileMap) (policy : Policy) (file text : List ℕ) (script : List Procedure) (before after : Faults) (fault : StartFault) → before.count ≤ after.count → Give told (asked (Missing file) file 262144) (Ok text) → script_from policy.names text ≡ Ok script
    → fits policy.tasks script ≡ Some fault → Says told (script_steps policy file) before after (of_start fault)
refuse-start told policy file text script before after fault below gave is unfit =
    refuse-behind (cause_of (of_start fault)) told (asked (Missing file) file 262144) (behind_text policy) text before after after (of_start fault) below gave
    (refuse-behind (cause_of (of_start fault)) told (Over (script_from policy.names text)) (behind_script policy) script after after after (of_start fault) (omega arith) is
    (says-bad_start told policy script after after fault unfit))

abbrev behind_policy : List ℕ → Option (List ℕ) → Policy → Steps Front Status
behind_policy script label policy = steps_under policy script label >>= λ under. Over (Ok (record { policy = policy; script = under.1; observer = under.0 }))

-- all is read
pub give-load : (told : Option FileMap) (policy script : List ℕ) (label : Option (List ℕ)) (read : Policy) (observer : Option Label) (procedures : List Procedure) → Give told (policy_steps policy) (Ok read)
    → Give told (steps_under read script label) (Ok (observer, procedures)) → Give told (loading policy script label) (Ok (record { policy = read; script = procedures; observer = observer }))
give-load told policy script label read observer procedures first second =
    give-then told (policy_steps policy) (behind_policy script label) read (Ok (record { policy = read; script = procedures; observer = observer })) first
    (give-then told (steps_under read script label) (λ under. Over (Ok (record { policy = read; script = under.1; observer = under.0 }))) (observer, procedures) (Ok (record { policy = read; script = procedures; observer = observer })) second refl)

-- what is read under the policy is refused
pub refuse-under : (told : Option FileMap) (policy script : List ℕ) (label : Option (List ℕ)) (read : Policy) (before middle after : Faults) (fault : Status) → before.count ≤ middle.count → Give told (policy_steps policy) (Ok read)
    → Says told (steps_under read script label) middle after fault → Says told (loading policy script label) before after fault
refuse-under told policy script label read before middle after fault below gave says =
    refuse-behind (cause_of fault) told (policy_steps policy) (behind_policy script label) read before middle after fault below gave
    (refuse-first (cause_of fault) told (steps_under read script label) (λ under. Over (Ok (record { policy = read; script = under.1; observer = under.0 }))) middle after fault says)
