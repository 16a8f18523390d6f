-- Which entries of a policy's text fail a rule, and the fault of a rule at the first that does. Entry 0 is the document; principals, channels,
-- inputs and tasks follow from 1, in this order.
use Rattle.std.specs.Prelude.{◌≡◌, ◌⊎◌, ℕ, Bool, List, ◌∷◌, ◌++◌, Option, Some, None, option_map, Result, Ok, Err}
use Rattle.lio_clauses.specs.FormulaText.{shown}
use Rattle.lio_policy_draft.specs.Converted.{first_failing}
use Rattle.lio_policy_draft.specs.declared.fault.PolicyFault.{PolicyFault}
use Rattle.lio_policy_draft.specs.declared.fault.PolicyFault.TheVariants.{Bad, NoMemory}

-- something of each entry
pub record OfEntries (A : Type 0) : Type 0 where
  pub document : A
  pub principals : List A
  pub channels : List A
  pub inputs : List A
  pub tasks : List A

-- the same in the order of their numbers
abbrev pub entries : {A : Type 0} → OfEntries A → List A
entries f = f.document ∷ (f.principals ++ (f.channels ++ (f.inputs ++ f.tasks)))

-- which entries fail
abbrev pub Failing : Type 0
Failing = OfEntries Bool

-- a rule that fails at an entry
abbrev pub fault_at : ℕ → Option ℕ → Option PolicyFault
fault_at rule entry = option_map (λ n. Bad rule (shown n)) entry

-- a rule with the first entry at which it fails
abbrev pub blamed : ℕ → Failing → Option PolicyFault
blamed rule failing = fault_at rule (first_failing 0 (entries failing))

-- a result, unless there is a fault
abbrev pub unless_fault : {A : Type 0} → Option PolicyFault → Result A PolicyFault → Result A PolicyFault
unless_fault None result = result
unless_fault (Some fault) result = Err fault

-- a rule fails at none of these entries, counted from the first, and there is a result; or the fault is the rule's, or want of memory
abbrev pub Passes : {A : Type 0} → ℕ → ℕ → List Bool → Result A PolicyFault → (A → Type 0) → Type 0
Passes rule first failing (Ok result) Holds = (first_failing first failing ≡ None) × Holds result
Passes rule first failing (Err fault) Holds = (fault ≡ NoMemory) ⊎ (fault_at rule (first_failing first failing) ≡ Some fault)
