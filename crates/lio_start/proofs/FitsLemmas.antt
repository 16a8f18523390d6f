-- Which tasks fit, and the first that doesn't.
use Rattle.std.proofs.Common.{◌≡◌, ◌∙◌, refl, ap, subst, ℕ, suc, ◌+◌, Bool, true, false, if◌then◌else◌, ◌<◌, ◌≤◌, ◌⊎◌, inl, inr, List, [], ◌∷◌, length, take, drop, get_or, All, Option, Some, None, arith}
use Rattle.std.specs.Prelude.{◌==◌, option_and_then, slice_get}
use Rattle.std.specs.Option.{option_or}
use Rattle.std.proofs.lemmas.Bool.{ne_eqb}
use Rattle.std.proofs.lemmas.Bool.Decides.{Decides-eqb}
use Rattle.std.proofs.lemmas.Option.{slice_get_cases}
use Rattle.std.proofs.lemmas.List.{drop_all}
use Rattle.std.proofs.lemmas.List.Elements.{All-nil, All-head, All-tail, All-cons}
use Rattle.lio_syntax.specs.Statements.{Procedure}
use Rattle.lio_syntax.specs.Beginnings.{number_of}
use Rattle.lio_task_control.proofs.EnvironmentLemmas.{drop_at}
use Rattle.lio_policy.specs.declared.policy.TaskEntry.{TaskEntry}
use Rattle.lio_start.specs.declared.fault.StartFault.{StartFault}
use Rattle.lio_start.specs.declared.fault.StartFault.TheVariants.{NoProc, Arity}
use Rattle.lio_start.specs.Fits.{procedure_of, fault_by, fault_of, first_fault, Fits, parameter_count}
use Rattle.lio_start.specs.Laws.{EachTaskFits, FaultIsOfFirst}

-- a test that decides between nothing and a fault
none-where : (b : Bool) (fault : StartFault) → (if b then None else Some fault) ≡ None → b ≡ true
none-where true fault e = refl
none-where false fault e = absurd (cc)

-- a task without a fault fits, and one that fits has none
pub fits-from : (script : List Procedure) (place : ℕ) (task : TaskEntry) → fault_of script place task ≡ None → Fits script task
unfolding fault_of
fits-from script place task e = by (procedure_of script task.proc_name) refl e
  where
    by : (found : Option Procedure) → procedure_of script task.proc_name ≡ found → fault_by place (length task.args) found ≡ None → Fits script task
    by None is none = absurd (cc)
    by (Some procedure) is none = record {
      procedure = procedure;
      is = is;
      arity = (Decides-eqb (length procedure.parameters) (length task.args)).0 (none-where (length procedure.parameters == length task.args) (Arity place) none);
    }

pub fits-to : (script : List Procedure) (place : ℕ) (task : TaskEntry) → Fits script task → fault_of script place task ≡ None
unfolding fault_of
fits-to script place task fit =
    ap (fault_by place (length task.args)) fit.is
    ∙ ap (λ (b : Bool). if b then None else Some (Arity place)) ((Decides-eqb (length fit.procedure.parameters) (length task.args)).1 fit.arity)

-- the fault of a task, of the number of its procedure
pub fault_of-absent : (script : List Procedure) (place : ℕ) (task : TaskEntry) → number_of script task.proc_name ≡ None → fault_of script place task ≡ Some (NoProc place)
unfolding fault_of
fault_of-absent script place task e = ap (λ (n : Option ℕ). fault_by place (length task.args) (option_and_then (slice_get script) n)) e

fault_of-found : (script : List Procedure) (place n : ℕ) (task : TaskEntry) → number_of script task.proc_name ≡ Some n → n < length script
    → fault_of script place task ≡ (if parameter_count (slice_get script n) == length task.args then None else Some (Arity place))
unfolding fault_of
fault_of-found script place n task e within = ap (λ (m : Option ℕ). fault_by place (length task.args) (option_and_then (slice_get script) m)) e ∙ by (slice_get_cases script n).1
  where
    by : ((procedure : Procedure) × (n < length script) × (slice_get script n ≡ Some procedure) × (get_or script n procedure ≡ procedure)) ⊎ ((length script ≤ n) × (slice_get script n ≡ None))
        → fault_by place (length task.args) (slice_get script n) ≡ (if parameter_count (slice_get script n) == length task.args then None else Some (Arity place))
    by (inl found) = rw found.2 refl
    by (inr past) = absurd (omega (arith, past.0, within))

pub fault_of-fits : (script : List Procedure) (place n : ℕ) (task : TaskEntry) → number_of script task.proc_name ≡ Some n → n < length script
    → parameter_count (slice_get script n) ≡ length task.args → fault_of script place task ≡ None
fault_of-fits script place n task e within same =
    fault_of-found script place n task e within
    ∙ ap (λ (b : Bool). if b then None else Some (Arity place)) ((Decides-eqb (parameter_count (slice_get script n)) (length task.args)).1 same)

pub fault_of-arity : (script : List Procedure) (place n : ℕ) (task : TaskEntry) → number_of script task.proc_name ≡ Some n → n < length script
    → (parameter_count (slice_get script n) ≡ length task.args → ⊥) → fault_of script place task ≡ Some (Arity place)
fault_of-arity script place n task e within differ =
    fault_of-found script place n task e within
    ∙ ap (λ (b : Bool). if b then None else Some (Arity place)) (ne_eqb (parameter_count (slice_get script n)) (length task.args) differ)

-- the first of two faults is none
both-none : (one other : Option StartFault) → option_or one other ≡ None → (one ≡ None) × (other ≡ None)
both-none None other e = (refl, e)
both-none (Some fault) other e = absurd (cc)

all-from : (script : List Procedure) (place : ℕ) (tasks : List TaskEntry) → first_fault script place tasks ≡ None → All (Fits script) tasks
unfolding first_fault
all-from script place [] e = All-nil (Fits script)
all-from script place (task ∷ tasks) e =
    let none = both-none (fault_of script place task) (first_fault script (place + 1) tasks) e in
    All-cons (Fits script) task tasks (fits-from script place task none.0) (all-from script (place + 1) tasks none.1)

all-to : (script : List Procedure) (place : ℕ) (tasks : List TaskEntry) → All (Fits script) tasks → first_fault script place tasks ≡ None
unfolding first_fault
all-to script place [] all = refl
all-to script place (task ∷ tasks) all =
    ap (λ (fault : Option StartFault). option_or fault (first_fault script (place + 1) tasks)) (fits-to script place task (All-head (Fits script) task tasks all))
    ∙ all-to script (place + 1) tasks (All-tail (Fits script) task tasks all)

pub each_task_fits : EachTaskFits
each_task_fits script tasks = (all-from script 0 tasks, all-to script 0 tasks)

-- the first fault of the tasks from a place on: that of the first of them, or of those behind it
pub first_fault-here : (script : List Procedure) (tasks : List TaskEntry) (i place : ℕ) (task : TaskEntry) (fault : StartFault) → i < length tasks → task ≡ get_or tasks i task
    → fault_of script place task ≡ Some fault → first_fault script place (drop i tasks) ≡ Some fault
unfolding first_fault
first_fault-here script tasks i place task fault within is e =
    ap (first_fault script place) (drop_at tasks i task within is) ∙ ap (λ (f : Option StartFault). option_or f (first_fault script (place + 1) (drop (i + 1) tasks))) e

pub first_fault-next : (script : List Procedure) (tasks : List TaskEntry) (i place : ℕ) (task : TaskEntry) → i < length tasks → task ≡ get_or tasks i task
    → fault_of script place task ≡ None → first_fault script place (drop i tasks) ≡ first_fault script (place + 1) (drop (i + 1) tasks)
unfolding first_fault
first_fault-next script tasks i place task within is e =
    ap (first_fault script place) (drop_at tasks i task within is) ∙ ap (λ (f : Option StartFault). option_or f (first_fault script (place + 1) (drop (i + 1) tasks))) e

pub first_fault-end : (script : List Procedure) (tasks : List TaskEntry) (i place : ℕ) → length tasks ≤ i → first_fault script place (drop i tasks) ≡ None
unfolding first_fault
first_fault-end script tasks i place behind = ap (first_fault script place) (drop_all i tasks behind)

-- the first fault, where places are counted from one
record FirstFrom (script : List Procedure) (from : ℕ) (tasks : List TaskEntry) (fault : StartFault) : Type 0 where
  at : ℕ
  task : TaskEntry
  is : slice_get tasks at ≡ Some task
  fault_is : fault_of script (from + at) task ≡ Some fault
  before : All (Fits script) (take at tasks)

first-from : (script : List Procedure) (from : ℕ) (tasks : List TaskEntry) (fault : StartFault) → first_fault script from tasks ≡ Some fault → FirstFrom script from tasks fault
unfolding first_fault
first-from script from [] fault e = absurd (cc)
first-from script from (task ∷ tasks) fault e = by (first-from script (from + 1) tasks fault) (fault_of script from task) refl e
  where
    by : (first_fault script (from + 1) tasks ≡ Some fault → FirstFrom script (from + 1) tasks fault)
        → (here : Option StartFault) → fault_of script from task ≡ here → option_or here (first_fault script (from + 1) tasks) ≡ Some fault → FirstFrom script from (task ∷ tasks) fault
    by next None is found =
        let rest = next found in
        record {
          at = suc rest.at;
          task = rest.task;
          is = rest.is;
          fault_is = subst (λ (n : ℕ). fault_of script n rest.task ≡ Some fault) (omega arith) rest.fault_is;
          before = All-cons (Fits script) task (take rest.at tasks) (fits-from script from task is) rest.before;
        }
    by next (Some here) is found = record {
      at = 0;
      task = task;
      is = refl;
      fault_is = subst (λ (n : ℕ). fault_of script n task ≡ Some fault) (omega arith) (is ∙ found);
      before = All-nil (Fits script);
    }

pub fault_is_of_first : FaultIsOfFirst
fault_is_of_first script tasks fault e =
    let first = first-from script 0 tasks fault e in
    record {
      place = first.at;
      task = first.task;
      is = first.is;
      fault_is = subst (λ (n : ℕ). fault_of script n first.task ≡ Some fault) (omega arith) first.fault_is;
      before = first.before;
    }
