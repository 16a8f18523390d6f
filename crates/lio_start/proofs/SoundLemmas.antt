-- Each first configuration is sound, part by part.
use Rattle.std.proofs.Common.{◌≡◌, ◌∙◌, refl, sym, ap, subst, ℕ, zero, suc, ◌+◌, ◌<◌, ◌⊎◌, inl, inr, Bool, true, false, ◌&&◌, IsTrue, List, [], ◌∷◌, length, map, All, Option, Some, None, is_some, arith}
use Rattle.std.specs.Prelude.{option_and_then, option_map, nat_le, slice_get, slice_index_or}
use Rattle.std.proofs.lemmas.Bool.{leb-true, cases_order}
use Rattle.std.proofs.lemmas.Bool.Decides.{Decides-eqb}
use Rattle.std.proofs.lemmas.List.Elements.{All-nil, All-head, All-tail, All-cons}
use Rattle.std.proofs.lemmas.Slice.Eq.{slice_eq-Decides}
use Rattle.lio_labels.specs.declared.label.Label.{Label}
use Rattle.lio_labels.specs.Equality.{same_formula, same_label}
use Rattle.lio_labels.specs.Flow.{flows}
use Rattle.lio_labels.proofs.FlowLemmas.{flow_is_reflexive}
use Rattle.lio_values.specs.declared.value.Handle.{Handle}
use Rattle.lio_values.specs.declared.value.Plain.{Plain}
use Rattle.lio_values.specs.declared.value.Plain.TheVariants.{Unit as unit, Flag, Whole, Bytes, Lab, Power, RefOf, VarOf, ResultOf, ChanOf, Items}
use Rattle.lio_values.specs.Forest.{Forest}
use Rattle.lio_values.specs.Measures.{value_size}
use Rattle.lio_values.specs.Purity.{KeepsPure}
use Rattle.lio_values.specs.Views.{forest_of, values_of, values_of-forest_of}
use Rattle.lio_values.specs.declared.value.Value.{Value}
use Rattle.lio_values.specs.declared.value.Value.TheVariants.{Bare, Sealed}
use Rattle.lio_syntax.specs.Statements.{Procedure}
use Rattle.lio_syntax.specs.Beginnings.{number_of}
use Rattle.lio_cells.specs.State.{Channel, is_job, label_of, result_of}
use Rattle.lio_syntax.specs.Environment.{bind_all}
use Rattle.lio_syntax.specs.Items.{enter, open_calls}
use Rattle.lio_calculus.specs.Task.{TaskState}
use Rattle.lio_calculus.specs.Step.{Cell, Configuration, blank, cell_at, is_named, body_of, parameters_of}
use Rattle.lio_calculus.specs.Sound.{Names, ContentNames, ValueNames, IsOpen, EachBound, EachInItem, EachInTask, EachInState, IsNoAccess, block_says, IsTaskOf, IsInRange}
use Rattle.lio_calculus.proofs.Lists.{All-slice_get}
use Rattle.lio_calculus.specs.Purity.{ContentsArePure}
use Rattle.lio_calculus.proofs.PurityLemmas.{pure-closed}
use Rattle.lio_calculus.proofs.Closed.{names-closed, open-closed}
use Rattle.lio_calculus.proofs.PlanEach.{bind_all-each}
use Rattle.lio_calculus.proofs.PlacesKept.{enter-all, enter-says, enter-calls}
use Rattle.lio_calculus.proofs.GoneKept.{none-raised}
use Rattle.lio_calculus.proofs.SoundAfter.{Fine}
use Rattle.lio_policy.proofs.PolicyLemmas.{limits_are_small}
use Rattle.lio_policy.specs.Lists.{extent}
use Rattle.lio_policy.specs.Policy.{PolicyParts, IsFixed, IsSingle, IsArgument, IsSmallArgument, IsPolicy}
use Rattle.lio_policy.proofs.ArgumentLemmas.{singles-fixed, extent-items}
use Rattle.lio_policy.specs.declared.policy.FileEntry.{FileEntry}
use Rattle.lio_policy.specs.declared.policy.TaskEntry.{TaskEntry}
use Rattle.lio_policy.specs.declared.policy.Arg.{Arg, roll-Arg}
use Rattle.lio_policy.specs.declared.policy.Arg.TheVariants as arg
use Rattle.lio_policy.specs.declared.policy.Arg.TheOpen.{Arg-F}
use Rattle.lio_policy.specs.declared.policy.Arg.TheFolds.{ind-Arg}
use Rattle.lio_start.specs.Fits.{procedure_of, Fits}
use Rattle.lio_start.specs.Laws.{SaysLiterals, StartIsSound, IsShort, TextsAreShort, Begins, EachTaskBegins}
use Rattle.lio_start.specs.Start.{content_by, input_content, sealed_inputs, inputs_of, argument_of, task_of, channel_cell, job_cell, ranges_from, start_of}
use Rattle.lio_start.proofs.ArgumentLemmas.{argument-input, argument-fixed, argument-items, arguments-have}
use Rattle.lio_start.proofs.ShallowLemmas.{argument-fits}
use Rattle.lio_start.proofs.FitsLemmas.{each_task_fits}
use Rattle.lio_start.proofs.PlaceLemmas.{cells_before, before-later, before-all, channel-at, job-at, nothing-behind, length-start, Stands, Channel as channel, Task as job, Nothing as nothing, stands, IsBegun, begun}

-- a property of each argument: the inputs have it, and the values that stand in the policy
inputs-each : (P : Value → Type 0) (longest : ℕ) → ((label : Label) (text : List ℕ) → P (Sealed label (input_content longest label text)))
    → (inputs : List FileEntry) (texts : List (List ℕ)) → All P (sealed_inputs longest inputs texts)
inputs-each P longest each [] texts = All-nil P
inputs-each P longest each (input ∷ inputs) [] = All-nil P
inputs-each P longest each (input ∷ inputs) (text ∷ texts) =
    All-cons P (Sealed input.label (input_content longest input.label text)) (sealed_inputs longest inputs texts) (each input.label text) (inputs-each P longest each inputs texts)

input-each : (P : Value → Type 0) → P (Bare unit) → (inputs : List Value) (place : ℕ) → All P inputs → P (slice_index_or inputs place (Bare unit))
input-each P p [] place all = p
input-each P p (value ∷ inputs) zero all = All-head P value inputs all
input-each P p (value ∷ inputs) (suc place) all = input-each P p inputs place (All-tail P value inputs all)

arguments-each : (P : Value → Type 0) (policy : PolicyParts) → P (Bare unit) → ((plain : Plain) → IsFixed policy plain → P (Bare plain)) → ((items : Forest) → All P (values_of items) → P (Bare (Items items)))
    → (inputs : List Value) → All P inputs → (arguments : List Arg) → All (IsArgument policy) arguments → All P (map (argument_of inputs) arguments)
arguments-each P policy p fixed list inputs all arguments are =
    arguments-have (IsSingle policy) P inputs (λ place within. input-each P p inputs place all) fixed
    (λ values each. list (forest_of values) (subst (All P) (sym (values_of-forest_of values)) each)) arguments are

-- an input's content holds no handle, isn't hidden, and keeps a text, which is pure
content-names : (c : Configuration) (longest : ℕ) (label : Label) (text : List ℕ) → ContentNames c (input_content longest label text)
content-names c longest label text = by (nat_le (length text) longest)
  where
    by : (b : Bool) → ContentNames c (content_by b label text)
    by true = tt
    by false = tt

content-open : (longest : ℕ) (label : Label) (text : List ℕ) → IsOpen (Sealed label (input_content longest label text))
content-open longest label text = by (nat_le (length text) longest)
  where
    by : (b : Bool) → IsOpen (Sealed label (content_by b label text))
    by true = refl
    by false = tt

-- a value of the policy is no list
fixed-open : (policy : PolicyParts) (plain : Plain) → IsFixed policy plain → IsOpen (Bare plain)
fixed-open policy unit is = tt
fixed-open policy (Flag flag) is = tt
fixed-open policy (Whole number) is = tt
fixed-open policy (Bytes text) is = tt
fixed-open policy (Lab label) is = tt
fixed-open policy (Power power) is = tt
fixed-open policy (RefOf handle) is = absurd is
fixed-open policy (VarOf handle) is = absurd is
fixed-open policy (ResultOf handle) is = absurd is
fixed-open policy (ChanOf handle) is = tt
fixed-open policy (Items items) is = absurd is

-- labels are the same as themselves
same_label-refl : (label : Label) → same_label label label ≡ true
same_label-refl label = both_true (same_formula label.secrecy label.secrecy) (same_formula label.integrity label.integrity) (formulas label.secrecy) (formulas label.integrity)
  where
    formulas : (x : List (List ℕ)) → same_formula x x ≡ true
    formulas x = (slice_eq-Decides (λ (p q : List ℕ). slice_eq-Decides Decides-eqb p q _ refl) x x (same_formula x x) refl).1 refl

    both_true : (a b : Bool) → a ≡ true → b ≡ true → (a && b) ≡ true
    both_true a b e f = cc

-- a value of the policy names a cell, if it is a channel
channel-named : (policy : PolicyParts) (script : List Procedure) (inputs : List (List ℕ)) (handle : Handle) → option_map (λ (f : FileEntry). f.label) (slice_get policy.channels handle.number) ≡ Some handle.label
    → Names (start_of policy script inputs) Channel handle
channel-named policy script inputs handle e = by (slice_get policy.channels handle.number) refl e
  where
    by : (o : Option FileEntry) → slice_get policy.channels handle.number ≡ o → option_map (λ (f : FileEntry). f.label) o ≡ Some handle.label → Names (start_of policy script inputs) Channel handle
    by None is found = absurd (cc)
    by (Some f) is found =
        let same : f.label ≡ handle.label = cc in
        ap (λ (cell : Cell). is_named Channel handle cell.state) (channel-at policy script inputs handle.number f is)
        ∙ ap (λ (label : Label). same_label label handle.label) same ∙ same_label-refl handle.label

fixed-names : (policy : PolicyParts) (script : List Procedure) (inputs : List (List ℕ)) (plain : Plain) → IsFixed policy plain → ValueNames (start_of policy script inputs) (Bare plain)
fixed-names policy script inputs unit is = tt
fixed-names policy script inputs (Flag flag) is = tt
fixed-names policy script inputs (Whole number) is = tt
fixed-names policy script inputs (Bytes text) is = tt
fixed-names policy script inputs (Lab label) is = tt
fixed-names policy script inputs (Power power) is = tt
fixed-names policy script inputs (RefOf handle) is = absurd is
fixed-names policy script inputs (VarOf handle) is = absurd is
fixed-names policy script inputs (ResultOf handle) is = absurd is
fixed-names policy script inputs (ChanOf handle) is = channel-named policy script inputs handle is
fixed-names policy script inputs (Items items) is = absurd is

-- the body of a procedure that is there
body-says : (script : List Procedure) (name : List ℕ) → SaysLiterals script → IsTrue (block_says (body_of (procedure_of script name)))
unfolding block_says
body-says script name said = by_number (number_of script name)
  where
    by_procedure : (n : ℕ) (p : Option Procedure) → slice_get script n ≡ p → IsTrue (block_says (body_of p))
    by_procedure n None e = refl
    by_procedure n (Some procedure) e = All-slice_get (λ (x : Procedure). IsTrue (block_says x.body)) script n procedure said e

    by_number : (n : Option ℕ) → IsTrue (block_says (body_of (option_and_then (slice_get script) n)))
    by_number None = refl
    by_number (Some n) = by_procedure n (slice_get script n) refl

-- a value of the policy is no list, and so keeps nothing
fixed-pure : (policy : PolicyParts) (plain : Plain) → IsFixed policy plain → KeepsPure (Bare plain)
fixed-pure policy unit is = tt
fixed-pure policy (Flag flag) is = tt
fixed-pure policy (Whole number) is = tt
fixed-pure policy (Bytes text) is = tt
fixed-pure policy (Lab label) is = tt
fixed-pure policy (Power power) is = tt
fixed-pure policy (RefOf handle) is = absurd is
fixed-pure policy (VarOf handle) is = absurd is
fixed-pure policy (ResultOf handle) is = absurd is
fixed-pure policy (ChanOf handle) is = tt
fixed-pure policy (Items items) is = absurd is

content-pure : (longest : ℕ) (label : Label) (text : List ℕ) → KeepsPure (Sealed label (input_content longest label text))
content-pure longest label text = by (nat_le (length text) longest)
  where
    by : (b : Bool) → KeepsPure (Sealed label (content_by b label text))
    by true = refl
    by false = tt

-- a property of the values in a task as it begins
module _ (P : Value → Type 0) (policy : PolicyParts) (nothing_has : P (Bare unit)) (fixed : (plain : Plain) → IsFixed policy plain → P (Bare plain))
    (list : (items : Forest) → All P (values_of items) → P (Bare (Items items))) (content : (label : Label) (text : List ℕ) → P (Sealed label (input_content policy.longest label text))) where
  task-each : (script : List Procedure) (texts : List (List ℕ)) (first place : ℕ) (entry : TaskEntry) → IsPolicy policy → slice_get policy.tasks place ≡ Some entry
      → EachInTask P (task_of script (inputs_of policy texts) first entry)
  unfolding task_of
  task-each script texts first place entry is e =
      let procedure : Option Procedure = procedure_of script entry.proc_name in
      let values : List Value = inputs_of policy texts in
      record {
        environment = bind_all-each P [] (parameters_of procedure) (map (argument_of values) entry.args) (All-nil _)
            (arguments-each P policy nothing_has fixed list values (inputs-each P policy.longest content policy.inputs texts) entry.args
            (All-slice_get (λ (t : TaskEntry). All (IsArgument policy) t.args) policy.tasks place entry is.arguments e));
        items = enter-all (EachInItem P) (λ s. tt) (body_of procedure) [] (All-nil _);
      }

-- each task is as a sound configuration has it
task-fine : (policy : PolicyParts) (script : List Procedure) (inputs : List (List ℕ)) (place : ℕ) (entry : TaskEntry) → IsPolicy policy → SaysLiterals script → slice_get policy.tasks place ≡ Some entry
    → Fine (start_of policy script inputs) (job_cell script (inputs_of policy inputs) (ranges_from policy + cells_before policy.tasks place) entry).state
    (task_of script (inputs_of policy inputs) (ranges_from policy + cells_before policy.tasks place) entry)
unfolding task_of open_calls
task-fine policy script inputs place entry is said e =
    let c : Configuration = start_of policy script inputs in
    let procedure : Option Procedure = procedure_of script entry.proc_name in
    let values : List Value = inputs_of policy inputs in
    let first : ℕ = ranges_from policy + cells_before policy.tasks place in
    record {
      range = omega (arith, before-all policy.tasks place entry e, length-start policy script inputs);
      names = task-each (ValueNames c) policy tt (fixed-names policy script inputs) (names-closed c).list (content-names c policy.longest) script inputs first place entry is e;
      clearance = All-slice_get (λ (t : TaskEntry). IsTrue (flows t.label t.clearance)) policy.tasks place entry is.flow e;
      result = λ label f. let same : entry.clearance ≡ label = cc in subst (λ (x : Label). IsTrue (flows entry.clearance x)) same (flow_is_reflexive entry.clearance);
      ended = refl;
      accesses = none-raised (task_of script values (ranges_from policy + cells_before policy.tasks place) entry) (enter-all IsNoAccess (λ s. tt) (body_of procedure) [] (All-nil _));
      literals = enter-says (body_of procedure) [] (body-says script entry.proc_name said) (All-nil _);
      calls = omega (arith, enter-calls (body_of procedure) []);
      shown = task-each IsOpen policy tt (fixed-open policy) open-closed.list (content-open policy.longest) script inputs first place entry is e;
    }

-- a task that stands at a number, with its range
begun-fine : (policy : PolicyParts) (script : List Procedure) (inputs : List (List ℕ)) (k : ℕ) (task : TaskState) → IsPolicy policy → SaysLiterals script → (b : IsBegun policy script inputs k task)
    → Fine (start_of policy script inputs) (job_cell script (inputs_of policy inputs) (ranges_from policy + cells_before policy.tasks b.job.place) b.job.entry).state task
begun-fine policy script inputs k task is said b =
    subst (Fine (start_of policy script inputs) (job_cell script (inputs_of policy inputs) (ranges_from policy + cells_before policy.tasks b.job.place) b.job.entry).state) b.is (task-fine policy script inputs b.job.place b.job.entry is said b.job.is)

begun-first : (policy : PolicyParts) (script : List Procedure) (inputs : List (List ℕ)) (k : ℕ) (task : TaskState) (b : IsBegun policy script inputs k task)
    → task.first ≡ ranges_from policy + cells_before policy.tasks b.job.place
unfolding task_of
begun-first policy script inputs k task b = sym (ap (λ (t : TaskState). t.first) b.is)

begun-cells : (policy : PolicyParts) (script : List Procedure) (inputs : List (List ℕ)) (k : ℕ) (task : TaskState) (b : IsBegun policy script inputs k task) → task.cells ≡ b.job.entry.cells
unfolding task_of
begun-cells policy script inputs k task b = sym (ap (λ (t : TaskState). t.cells) b.is)

-- no two tasks share a number
ranges-apart : (policy : PolicyParts) (script : List Procedure) (inputs : List (List ℕ)) (j k n : ℕ) (one other : TaskState) → IsBegun policy script inputs j one → IsBegun policy script inputs k other
    → IsInRange one n → IsInRange other n → j ≡ k
ranges-apart policy script inputs j k n one other b d r q = by (cases_order b.job.place d.job.place)
  where
    by : (b.job.place ≡ d.job.place) ⊎ ((b.job.place < d.job.place) ⊎ (d.job.place < b.job.place)) → j ≡ k
    by (inl same) = omega (arith, b.job.number, d.job.number)
    by (inr (inl less)) = absurd (omega (
      arith,
      before-later policy.tasks b.job.place d.job.place b.job.entry b.job.is less,
      begun-first policy script inputs j one b,
      begun-cells policy script inputs j one b,
      begun-first policy script inputs k other d,
      r.below,
      q.from,
    ))
    by (inr (inr more)) = absurd (omega (
      arith,
      before-later policy.tasks d.job.place b.job.place d.job.entry d.job.is more,
      begun-first policy script inputs k other d,
      begun-cells policy script inputs k other d,
      begun-first policy script inputs j one b,
      q.below,
      r.from,
    ))

-- a property of the values in each node
node-each : (P : Value → Type 0) (policy : PolicyParts) (script : List Procedure) (inputs : List (List ℕ)) (n : ℕ) → EachInState P (cell_at (start_of policy script inputs) n).state
node-each P policy script inputs n = by (stands policy script inputs n)
  where
    by : Stands policy script inputs (start_of policy script inputs) n → EachInState P (cell_at (start_of policy script inputs) n).state
    by (channel is) = subst (λ (cell : Cell). EachInState P cell.state) (sym is.cell) tt
    by (job is) = subst (λ (cell : Cell). EachInState P cell.state) (sym is.cell) tt
    by (nothing is) = subst (λ (cell : Cell). EachInState P cell.state) (sym is) tt

-- a job has a task, and nothing else has one
jobs-tasks : (policy : PolicyParts) (script : List Procedure) (inputs : List (List ℕ)) (k : ℕ) → is_some (cell_at (start_of policy script inputs) k).task ≡ is_job (cell_at (start_of policy script inputs) k).state
jobs-tasks policy script inputs k = by (stands policy script inputs k)
  where
    same : (cell : Cell) → cell_at (start_of policy script inputs) k ≡ cell → is_some cell.task ≡ is_job cell.state → is_some (cell_at (start_of policy script inputs) k).task ≡ is_job (cell_at (start_of policy script inputs) k).state
    same cell is e = ap (λ (x : Cell). is_some x.task) is ∙ e ∙ sym (ap (λ (x : Cell). is_job x.state) is)

    by : Stands policy script inputs (start_of policy script inputs) k → is_some (cell_at (start_of policy script inputs) k).task ≡ is_job (cell_at (start_of policy script inputs) k).state
    by (channel is) = same (channel_cell is.channel) is.cell refl
    by (job is) = same _ is.cell refl
    by (nothing is) = same blank is refl

-- the procedures are those of the script
procedures-are : (policy : PolicyParts) (script : List Procedure) (inputs : List (List ℕ)) → (start_of policy script inputs).program.procedures ≡ script
unfolding start_of
procedures-are policy script inputs = refl

pub start_is_sound : StartIsSound
start_is_sound policy script inputs is said =
    let c : Configuration = start_of policy script inputs in
    let small = limits_are_small policy.version in
    let fine = λ (k : ℕ) (task : TaskState) (i : IsTaskOf c k task). begun-fine policy script inputs k task is said (begun policy script inputs k task i) in
    record {
      jobs = jobs-tasks policy script inputs;
      ranges = λ k task i. (fine k task i).range;
      free = λ k n task i r. let b = begun policy script inputs k task i in nothing-behind policy script inputs n (omega (arith, begun-first policy script inputs k task b, r.from));
      apart = λ j k n one other i q r s. ranges-apart policy script inputs j k n one other (begun policy script inputs j one i) (begun policy script inputs k other q) r s;
      names = λ k task i. (fine k task i).names;
      node_names = node-each (ValueNames c) policy script inputs;
      clearance = λ k task i. (fine k task i).clearance;
      result = λ k task label i e. let b = begun policy script inputs k task i in (fine k task i).result label (sym (ap (λ (cell : Cell). label_of cell.state) b.job.cell) ∙ e);
      ended = λ k task i. let b = begun policy script inputs k task i in ap (λ (cell : Cell). is_some (result_of cell.state)) b.job.cell ∙ (fine k task i).ended;
      accesses = λ k task i. (fine k task i).accesses;
      literals = λ k task i. (fine k task i).literals;
      calls = λ k task i. (fine k task i).calls;
      program = subst SaysLiterals (sym (procedures-are policy script inputs)) said;
      shown = λ k task i. (fine k task i).shown;
      node_shown = node-each IsOpen policy script inputs;
      few = omega (arith, length-start policy script inputs, small.entries, small.cells, is.limits.channels, is.limits.tasks, is.limits.cells);
    }

-- the contents in it are pure
pub start-pure : (policy : PolicyParts) (script : List Procedure) (inputs : List (List ℕ)) → IsPolicy policy → ContentsArePure (start_of policy script inputs)
start-pure policy script inputs is = record {
  tasks = λ k task i.
      let b = begun policy script inputs k task i in
      subst (EachInTask KeepsPure) b.is (task-each KeepsPure policy tt (fixed-pure policy) pure-closed.list (content-pure policy.longest) script inputs _ b.job.place b.job.entry is b.job.is);
  nodes = node-each KeepsPure policy script inputs;
}

-- no task begins with a text that is too long
input-short : (longest : ℕ) (label : Label) (text : List ℕ) → IsShort longest (Sealed label (input_content longest label text))
input-short longest label text = by (nat_le (length text) longest) refl
  where
    by : (b : Bool) → nat_le (length text) longest ≡ b → IsShort longest (Sealed label (content_by b label text))
    by true e = leb-true (length text) longest e
    by false e = tt

fixed-short : (policy : PolicyParts) (plain : Plain) → IsFixed policy plain → IsShort policy.longest (Bare plain)
fixed-short policy (Bytes text) is = is
fixed-short policy unit is = tt
fixed-short policy (Flag flag) is = tt
fixed-short policy (Whole number) is = tt
fixed-short policy (Lab label) is = tt
fixed-short policy (Power power) is = tt
fixed-short policy (RefOf handle) is = tt
fixed-short policy (VarOf handle) is = tt
fixed-short policy (ResultOf handle) is = tt
fixed-short policy (ChanOf handle) is = tt
fixed-short policy (Items items) is = absurd is

-- an argument of a task
module _ (policy : PolicyParts) (texts : List (List ℕ)) where
  abbrev IsAllowed : Arg → Type 0
  IsAllowed a = IsArgument policy a → IsSmallArgument policy a → IsShort policy.longest (argument_of (inputs_of policy texts) a)

  short-by : (x : Arg-F Arg) → IsAllowed (roll-Arg x)
  short-by (Arg-F.Input place) =
      subst IsAllowed (sym (arg.rolls-Input place)) (λ is small. subst (IsShort policy.longest) (sym (argument-input (inputs_of policy texts) place))
      (input-each (IsShort policy.longest) tt (inputs_of policy texts) place (inputs-each (IsShort policy.longest) policy.longest (input-short policy.longest) policy.inputs texts)))
  short-by (Arg-F.Fixed plain) =
      subst IsAllowed (sym (arg.rolls-Fixed plain)) (λ is small. subst (IsShort policy.longest) (sym (argument-fixed (inputs_of policy texts) plain))
      (fixed-short policy plain (All-head (IsSingle policy) (arg.Fixed plain) [] (subst (All (IsSingle policy)) (singles-fixed plain) is))))
  short-by (Arg-F.Items args) =
      let is_list = argument-items (inputs_of policy texts) args in
      subst IsAllowed (sym (arg.rolls-Items args)) (λ is small.
      let fits = argument-fits policy texts (arg.Items args) is in
      let deep : 0 < (extent policy.inputs (arg.Items args)).depth = omega (arith, ap (λ e. e.depth) (extent-items policy.inputs args)) in
      subst (IsShort policy.longest) (sym is_list) (omega (arith, fits.large, ap value_size is_list, small.size deep)))

  argument-short : (a : Arg) → IsAllowed a
  argument-short = ind-Arg IsAllowed (λ x y is. short-by x)

  arguments-short : (arguments : List Arg) → All (IsArgument policy) arguments → All (IsSmallArgument policy) arguments
      → All (IsShort policy.longest) (map (argument_of (inputs_of policy texts)) arguments)
  arguments-short [] are small = All-nil (IsShort policy.longest)
  arguments-short (a ∷ arguments) are small =
      All-cons (IsShort policy.longest) (argument_of (inputs_of policy texts) a) (map (argument_of (inputs_of policy texts)) arguments)
      (argument-short a (All-head (IsArgument policy) a arguments are) (All-head (IsSmallArgument policy) a arguments small))
      (arguments-short arguments (All-tail (IsArgument policy) a arguments are) (All-tail (IsSmallArgument policy) a arguments small))

task-short : (policy : PolicyParts) (script : List Procedure) (inputs : List (List ℕ)) (first place : ℕ) (entry : TaskEntry) → IsPolicy policy → slice_get policy.tasks place ≡ Some entry
    → EachBound (IsShort policy.longest) (task_of script (inputs_of policy inputs) first entry).environment
unfolding task_of
task-short policy script inputs first place entry is e =
    bind_all-each (IsShort policy.longest) [] (parameters_of (procedure_of script entry.proc_name)) (map (argument_of (inputs_of policy inputs)) entry.args) (All-nil _)
    (arguments-short policy inputs entry.args (All-slice_get (λ (t : TaskEntry). All (IsArgument policy) t.args) policy.tasks place entry is.arguments e)
    (All-slice_get (λ (t : TaskEntry). All (IsSmallArgument policy) t.args) policy.tasks place entry is.limits.lists e))

pub texts_are_short : TextsAreShort
texts_are_short policy script inputs k task is i =
    let b = begun policy script inputs k task i in
    subst (λ (t : TaskState). EachBound (IsShort policy.longest) t.environment) b.is (task-short policy script inputs _ b.job.place b.job.entry is b.job.is)

-- where nothing is wrong each task begins its procedure
fit-begins : (script : List Procedure) (inputs : List Value) (first : ℕ) (entry : TaskEntry) → Fits script entry → Begins script inputs entry (task_of script inputs first entry)
unfolding task_of
fit-begins script inputs first entry fit = record {
  procedure = fit.procedure;
  is = fit.is;
  items = ap (λ (p : Option Procedure). enter (body_of p) []) fit.is;
  environment = ap (λ (p : Option Procedure). bind_all [] (parameters_of p) (map (argument_of inputs) entry.args)) fit.is;
  arity = fit.arity;
}

pub each_task_begins : EachTaskBegins
each_task_begins policy script texts i entry none is = (
  task_of script (inputs_of policy texts) (ranges_from policy + cells_before policy.tasks i) entry,
  ap (λ (cell : Cell). cell.task) (job-at policy script texts i entry is),
  fit-begins script (inputs_of policy texts) (ranges_from policy + cells_before policy.tasks i) entry
      (All-slice_get (Fits script) policy.tasks i entry ((each_task_fits script policy.tasks).0 none) is),
)
