-- Which policy a text is, or the first rule that it breaks and the first entry that does.
use Rattle.std.specs.Prelude.{◌≡◌, ◌⊎◌, ℕ, List, [], ◌∷◌, Option, Some, None, Result, Ok, Err}
use Rattle.std.specs.List.{filter_map}
use Rattle.lio_policy_draft.specs.Failing.{blamed, unless_fault}
use Rattle.lio_policy_draft.specs.Drafted.{draft_of}
use Rattle.lio_policy_draft.specs.declared.draft.Draft.{Draft}
use Rattle.lio_policy_draft.specs.declared.fault.PolicyFault.{PolicyFault}
use Rattle.lio_policy_draft.specs.declared.fault.PolicyFault.TheVariants.{NoMemory}
use Rattle.lio_policy.specs.Rules.{version_fails, names_fail, labels_fail, flow_fails, arguments_fail, limits_fail, longest_of, version_of, files_fail, file_entry, task_entry, known, tasks_of}
use Rattle.lio_policy.specs.declared.policy.Policy.{Policy}

-- the first fault, if there is one
abbrev pub first_fault : List (Option PolicyFault) → Option PolicyFault
first_fault [] = None
first_fault (Some fault ∷ more) = Some fault
first_fault (None ∷ more) = first_fault more

-- the first of rules 3 to 6 that fails, with the first entry at which it does
unfoldable pub declarations_fault : Draft → Option PolicyFault
declarations_fault d = first_fault (blamed 3 (version_fails d) ∷ blamed 4 (names_fail d) ∷ blamed 5 (labels_fail d) ∷ blamed 6 (flow_fails d) ∷ [])

-- the first of rules 7 to 9
unfoldable pub uses_fault : Draft → Option PolicyFault
uses_fault d = first_fault (blamed 7 (arguments_fail d) ∷ blamed 8 (limits_fail d) ∷ blamed 9 (files_fail d) ∷ [])

-- the first of rules 3 to 9
abbrev pub least : Draft → Option PolicyFault
least d = first_fault (declarations_fault d ∷ uses_fault d ∷ [])

-- the policy that a draft makes which breaks no rule
unfoldable pub made : Draft → Policy
made d = record {
  version = version_of d;
  longest = longest_of d;
  names = d.principals;
  channels = filter_map (file_entry d.principals) d.channels;
  inputs = filter_map (file_entry d.principals) d.inputs;
  tasks = filter_map (task_entry (known d)) (tasks_of d);
}

abbrev pub judged : Draft → Result Policy PolicyFault
judged d = unless_fault (least d) (Ok (made d))

-- the policy of a draft
abbrev pub from_draft : Result Draft PolicyFault → Result Policy PolicyFault
from_draft (Ok draft) = judged draft
from_draft (Err fault) = Err fault

-- the policy that a text is, or its fault
unfoldable pub policy_of : List ℕ → Result Policy PolicyFault
policy_of bytes = from_draft (draft_of bytes)

-- there is no fault and there is a result; or the fault is the one there is, or want of memory
abbrev pub Obeys : {A : Type 0} → Option PolicyFault → Result A PolicyFault → (A → Type 0) → Type 0
Obeys fault (Ok result) Holds = (fault ≡ None) × Holds result
Obeys fault (Err other) Holds = (other ≡ NoMemory) ⊎ (fault ≡ Some other)

-- what is expected, or want of memory
abbrev pub Gives : {A : Type 0} → Result A PolicyFault → Result A PolicyFault → Type 0
Gives expected (Ok result) = expected ≡ Ok result
Gives expected (Err fault) = (fault ≡ NoMemory) ⊎ (expected ≡ Err fault)
