-- The laws of the start.
use Rattle.std.specs.Prelude.{◌≡◌, ◌↔◌, ◌<◌, ◌≤◌, ◌+◌, ℕ, List, [], All, IsTrue, Some, None, take, map, slice_get, length}
use Rattle.lio_labels.specs.declared.label.Label.{Label}
use Rattle.lio_labels.specs.Flow.{flows}
use Rattle.lio_events.specs.Printable.{IsPrintable}
use Rattle.lio_values.specs.Measures.{items_size}
use Rattle.lio_values.specs.declared.value.Plain.TheVariants.{Bytes, Items}
use Rattle.lio_values.specs.declared.value.Plain.{Plain}
use Rattle.lio_values.specs.declared.value.Content.TheVariants.{Kept, Faulted, Hidden}
use Rattle.lio_values.specs.declared.value.Value.{Value}
use Rattle.lio_values.specs.declared.value.Value.TheVariants.{Bare, Sealed}
use Rattle.lio_syntax.specs.Statements.{Procedure}
use Rattle.lio_syntax.specs.Lines.{script_lines}
use Rattle.lio_syntax.specs.Verdict.{IsOver}
use Rattle.lio_syntax.specs.Kept as kept
use Rattle.lio_syntax.specs.Environment.{bind_all}
use Rattle.lio_syntax.specs.Items.{enter}
use Rattle.lio_calculus.specs.Task.{TaskState}
use Rattle.lio_calculus.specs.Step.{blank, cell_at}
use Rattle.lio_calculus.specs.Sound.{block_says, EachBound, IsTaskOf, IsSound}
use Rattle.lio_calculus.specs.Erased.{erase}
use Rattle.lio_calculus.specs.Run.{Ran, run}
use Rattle.lio_calculus_runs.specs.WellFormed.{IsWellFormed}
use Rattle.lio_calculus_runs.specs.PowerLaws.{ReleasesByPowers}
use Rattle.lio_calculus_runs.specs.Configuration.{NamesOnly}
use Rattle.lio_policy.specs.Policy.{PolicyParts, IsPolicy}
use Rattle.lio_policy.specs.declared.policy.FileEntry.{FileEntry}
use Rattle.lio_policy.specs.declared.policy.TaskEntry.{TaskEntry}
use Rattle.lio_start.specs.declared.fault.StartFault.{StartFault}
use Rattle.lio_start.specs.Fits.{Fits, fault_of, fits, procedure_of}
use Rattle.lio_policy.specs.Powers.{powers_of}
use Rattle.lio_start.specs.Start.{inputs_of, argument_of, channel_cell, job_cell, cells_in_all, ranges_from, start_of}

-- nothing is wrong exactly where each task fits
abbrev pub EachTaskFits : Type 0
EachTaskFits = (script : List Procedure) (tasks : List TaskEntry) → (fits tasks script ≡ None) ↔ All (Fits script) tasks

-- the first of a policy's tasks that doesn't fit, and its fault
pub record IsFirstFault (script : List Procedure) (tasks : List TaskEntry) (fault : StartFault) : Type 0 where
  pub place : ℕ
  pub task : TaskEntry
  pub is : slice_get tasks place ≡ Some task
  pub fault_is : fault_of script place task ≡ Some fault
  pub before : All (Fits script) (take place tasks)

abbrev pub FaultIsOfFirst : Type 0
FaultIsOfFirst = (script : List Procedure) (tasks : List TaskEntry) (fault : StartFault) → fits tasks script ≡ Some fault → IsFirstFault script tasks fault

-- the literals in the statements of a script are values that a word can say: neither privileges nor handles
abbrev pub SaysLiterals : List Procedure → Type 0
SaysLiterals script = All (λ procedure. IsTrue (block_says procedure.body)) script

-- what each script keeps of its lines gives that
abbrev pub LiteralsAreSaid : Type 0
LiteralsAreSaid = (script : List Procedure) → kept.SaysLiterals (script_lines script) → SaysLiterals script

-- the first configuration of a policy and a script is sound, whatever the inputs are
abbrev pub StartIsSound : Type 0
StartIsSound = (policy : PolicyParts) (script : List Procedure) (inputs : List (List ℕ)) → IsPolicy policy → SaysLiterals script → IsSound (start_of policy script inputs)

-- and it is well-formed, where the script's lines break no rule
abbrev pub StartIsWellFormed : Type 0
StartIsWellFormed = (policy : PolicyParts) (script : List Procedure) (inputs : List (List ℕ)) → IsPolicy policy → SaysLiterals script → kept.KeepsRules (script_lines script) → IsWellFormed (start_of policy script inputs)

-- Which cell stands at which number: the channels and then the jobs of the tasks, both in the policy's order, and behind them nothing. Each task's range begins behind those of the
-- tasks before it, and the last ends where the configuration does.
pub record StandInOrder (policy : PolicyParts) (script : List Procedure) (texts : List (List ℕ)) : Type 0 where
  pub channels : (i : ℕ) (channel : FileEntry) → slice_get policy.channels i ≡ Some channel → cell_at (start_of policy script texts) i ≡ channel_cell channel
  pub tasks : (i : ℕ) (task : TaskEntry) → slice_get policy.tasks i ≡ Some task
      → cell_at (start_of policy script texts) (length policy.channels + i) ≡ job_cell script (inputs_of policy texts) (ranges_from policy + cells_in_all (take i policy.tasks)) task
  pub free : (k : ℕ) → ranges_from policy ≤ k → cell_at (start_of policy script texts) k ≡ blank
  pub size : length (start_of policy script texts).cells ≡ ranges_from policy + cells_in_all policy.tasks

abbrev pub CellsStandInOrder : Type 0
CellsStandInOrder = (policy : PolicyParts) (script : List Procedure) (texts : List (List ℕ)) → StandInOrder policy script texts

-- a task begins the procedure that the policy names: it has the procedure's body to do, and each parameter is bound to one argument
pub record Begins (script : List Procedure) (inputs : List Value) (entry : TaskEntry) (task : TaskState) : Type 0 where
  pub procedure : Procedure
  pub is : procedure_of script entry.proc_name ≡ Some procedure
  pub items : task.items ≡ enter procedure.body []
  pub environment : task.environment ≡ bind_all [] procedure.parameters (map (argument_of inputs) entry.args)
  pub arity : length procedure.parameters ≡ length entry.args

-- where nothing is wrong each task of the policy begins its procedure
abbrev pub EachTaskBegins : Type 0
EachTaskBegins = (policy : PolicyParts) (script : List Procedure) (texts : List (List ℕ)) (i : ℕ) (entry : TaskEntry)
    → fits policy.tasks script ≡ None → slice_get policy.tasks i ≡ Some entry
    → (task : TaskState) × IsTaskOf (start_of policy script texts) (length policy.channels + i) task × Begins script (inputs_of policy texts) entry task

-- a value's text, bare or sealed, has at most so many bytes, and a list is no larger
abbrev pub PlainIsShort : ℕ → Plain → Type 0
PlainIsShort longest (Bytes text) = length text ≤ longest
PlainIsShort longest (Items items) = items_size items < longest
PlainIsShort longest plain = Unit {0}

abbrev pub IsShort : ℕ → Value → Type 0
IsShort longest (Bare plain) = PlainIsShort longest plain
IsShort longest (Sealed label (Kept plain)) = PlainIsShort longest plain
IsShort longest (Sealed label (Faulted fault)) = Unit {0}
IsShort longest (Sealed label Hidden) = Unit {0}

-- no task begins with a text that is longer than texts may be, nor with a list whose size is more
abbrev pub TextsAreShort : Type 0
TextsAreShort = (policy : PolicyParts) (script : List Procedure) (inputs : List (List ℕ)) (k : ℕ) (task : TaskState)
    → IsPolicy policy → IsTaskOf (start_of policy script inputs) k task → EachBound (IsShort policy.longest) task.environment

-- two lists of texts look alike to an observer: they have the same length, and at each input whose label flows to the observer's the same text
-- (the low equivalence of inputs)
pub record AreAlike (observer : Label) (inputs : List FileEntry) (ones twos : List (List ℕ)) : Type 0 where
  pub count : length ones ≡ length twos
  pub texts : (i : ℕ) (input : FileEntry) → slice_get inputs i ≡ Some input → IsTrue (flows input.label observer) → slice_get ones i ≡ slice_get twos i

-- what an observer sees of the first configuration is given by the texts of the inputs whose labels flow to the observer's; no others count, nor do their lengths
-- (low-equivalent inputs give low-equivalent first configurations, where noninterference begins)
abbrev pub StartsLookAlike : Type 0
StartsLookAlike = (observer : Label) (policy : PolicyParts) (script : List Procedure) (ones twos : List (List ℕ))
    → AreAlike observer policy.inputs ones twos → erase observer (start_of policy script ones) ≡ erase observer (start_of policy script twos)

-- whatever a script says and whatever the inputs are, each release of a policy's run is by a privilege that the policy gives a task
abbrev pub ReleasesAreOfPolicy : Type 0
ReleasesAreOfPolicy = (policy : PolicyParts) (script : List Procedure) (texts : List (List ℕ)) (ticket : ℕ) (ks : List ℕ) (ran : Ran)
    → IsPolicy policy → SaysLiterals script → run ticket (start_of policy script texts) ks ≡ Some ran → ReleasesByPowers (powers_of policy) ran

-- the first configuration of a policy and a script over its principals, over any texts of the inputs
abbrev pub StartNamesOnly : Type 0
StartNamesOnly = (policy : PolicyParts) (script : List Procedure) (texts : List (List ℕ))
    → IsPolicy policy → IsOver policy.names script → NamesOnly policy.names (start_of policy script texts)

-- each entry of a run from there can be printed over the policy's principals
abbrev pub RunsArePrintable : Type 0
RunsArePrintable = (policy : PolicyParts) (script : List Procedure) (texts : List (List ℕ)) (ks : List ℕ) (ran : Ran)
    → IsPolicy policy → IsOver policy.names script → run 0 (start_of policy script texts) ks ≡ Some ran → All (IsPrintable policy.names) ran.entries
