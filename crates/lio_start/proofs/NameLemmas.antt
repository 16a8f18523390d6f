-- The first configuration of a policy and a script names only the policy's principals, and so do its runs.
use Rattle.std.proofs.Common.{◌≡◌, refl, sym, subst, ℕ, zero, suc, Bool, true, false, List, [], ◌∷◌, length, map, All, Option, Some, None}
use Rattle.std.specs.Prelude.{option_map, nat_le, slice_get, slice_index_or}
use Rattle.std.proofs.lemmas.List.Elements.{All-nil, All-head, All-tail, All-cons}
use Rattle.lio_labels.specs.declared.label.Label.{Label}
use Rattle.lio_labels.specs.LabelPrint.{AreNamed}
use Rattle.lio_values.specs.declared.value.Handle.{Handle}
use Rattle.lio_values.specs.declared.value.Plain.{Plain}
use Rattle.lio_values.specs.declared.value.Plain.TheVariants.{Unit as unit, Flag, Whole, Bytes, Lab, Power, RefOf, VarOf, ResultOf, ChanOf, Items}
use Rattle.lio_values.specs.declared.value.Value.{Value}
use Rattle.lio_values.specs.declared.value.Value.TheVariants.{Bare, Sealed}
use Rattle.lio_values.specs.Views.{forest_of}
use Rattle.lio_values.specs.ForestText.{AreItemsNamed}
use Rattle.lio_values.specs.PlainText.{IsPlainNamed}
use Rattle.lio_values.specs.Named.{IsContentNamed, IsValueNamed}
use Rattle.lio_syntax.specs.Statements.{Procedure}
use Rattle.lio_syntax.specs.Beginnings.{number_of}
use Rattle.lio_calculus.specs.Step.{Cell, cell_at, body_of, parameters_of}
use Rattle.lio_calculus.proofs.Lists.{All-slice_get}
use Rattle.lio_calculus.proofs.PlanEach.{bind_all-each}
use Rattle.lio_policy.specs.Policy.{PolicyParts, IsFixed, IsSingle, IsArgument, IsPolicy}
use Rattle.lio_policy.specs.declared.policy.FileEntry.{FileEntry}
use Rattle.lio_policy.specs.declared.policy.TaskEntry.{TaskEntry}
use Rattle.lio_policy.specs.declared.policy.Arg.{Arg}
use Rattle.lio_start.specs.Fits.{procedure_of}
use Rattle.lio_start.specs.Start.{content_by, input_content, sealed_inputs, inputs_of, argument_of, task_of, start_of}
use Rattle.lio_start.proofs.SoundLemmas.{start-pure}
use Rattle.lio_start.proofs.ArgumentLemmas.{arguments-have}
use Rattle.lio_start.proofs.PlaceLemmas.{Stands, Channel as channel, Task as job, Nothing as nothing, stands, begun}
use Rattle.lio_calculus_runs.specs.Script.{IsScriptNamed}
use Rattle.lio_calculus_runs.specs.Configuration.{IsTaskNamed, IsStateNamed}
use Rattle.lio_start.specs.Laws.{StartNamesOnly, RunsArePrintable}
use Rattle.lio_calculus_runs.proofs.NamedPlans.{found_named}
use Rattle.lio_calculus_runs.proofs.NamedTasks.{enter_named}
use Rattle.lio_calculus_runs.proofs.NamedTurns.{run_names_only}
use Rattle.lio_calculus_runs.proofs.Literals.{script_named}

-- the inputs
content_named : (names : List (List ℕ)) (longest : ℕ) (label : Label) (text : List ℕ) → AreNamed names label → IsContentNamed names (input_content longest label text)
content_named names longest label text l = by (nat_le (length text) longest)
  where
    by : (b : Bool) → IsContentNamed names (content_by b label text)
    by true = tt
    by false = (tt, l)

inputs_named : (names : List (List ℕ)) (longest : ℕ) (inputs : List FileEntry) (texts : List (List ℕ)) → All (λ (f : FileEntry). AreNamed names f.label) inputs → All (IsValueNamed names) (sealed_inputs longest inputs texts)
inputs_named names longest [] texts named = All-nil (IsValueNamed names)
inputs_named names longest (input ∷ inputs) [] named = All-nil (IsValueNamed names)
inputs_named names longest (input ∷ inputs) (text ∷ texts) named =
    let l : AreNamed names input.label = All-head (λ (f : FileEntry). AreNamed names f.label) input inputs named in
    All-cons (IsValueNamed names) (Sealed input.label (input_content longest input.label text)) (sealed_inputs longest inputs texts) (l, content_named names longest input.label text l)
    (inputs_named names longest inputs texts (All-tail (λ (f : FileEntry). AreNamed names f.label) input inputs named))

input_named : (names : List (List ℕ)) (inputs : List Value) (place : ℕ) → All (IsValueNamed names) inputs → IsValueNamed names (slice_index_or inputs place (Bare unit))
input_named names [] place all = tt
input_named names (value ∷ inputs) zero all = All-head (IsValueNamed names) value inputs all
input_named names (value ∷ inputs) (suc place) all = input_named names inputs place (All-tail (IsValueNamed names) value inputs all)

-- the values of a policy
channel_named : (policy : PolicyParts) (handle : Handle) → All (λ (f : FileEntry). AreNamed policy.names f.label) policy.channels
    → option_map (λ (f : FileEntry). f.label) (slice_get policy.channels handle.number) ≡ Some handle.label → AreNamed policy.names handle.label
channel_named policy handle named e = by (slice_get policy.channels handle.number) refl e
  where
    by : (o : Option FileEntry) → slice_get policy.channels handle.number ≡ o → option_map (λ (f : FileEntry). f.label) o ≡ Some handle.label → AreNamed policy.names handle.label
    by None is found = absurd (cc)
    by (Some f) is found =
        let same : f.label ≡ handle.label = cc in
        subst (AreNamed policy.names) same (All-slice_get (λ (g : FileEntry). AreNamed policy.names g.label) policy.channels handle.number f named is)

fixed_named : (policy : PolicyParts) (plain : Plain) → IsPolicy policy → IsFixed policy plain → IsPlainNamed policy.names plain
fixed_named policy unit is fixed = tt
fixed_named policy (Flag flag) is fixed = tt
fixed_named policy (Whole number) is fixed = tt
fixed_named policy (Bytes text) is fixed = tt
fixed_named policy (Lab label) is fixed = fixed
fixed_named policy (Power power) is fixed = fixed
fixed_named policy (RefOf handle) is fixed = absurd fixed
fixed_named policy (VarOf handle) is fixed = absurd fixed
fixed_named policy (ResultOf handle) is fixed = absurd fixed
fixed_named policy (ChanOf handle) is fixed = channel_named policy handle is.labels.channels fixed
fixed_named policy (Items items) is fixed = absurd fixed

items_named : (names : List (List ℕ)) (values : List Value) → All (IsValueNamed names) values → AreItemsNamed names (forest_of values)
items_named names [] all = tt
items_named names (value ∷ values) all = (All-head (IsValueNamed names) value values all, items_named names values (All-tail (IsValueNamed names) value values all))

arguments_named : (policy : PolicyParts) (inputs : List Value) (arguments : List Arg) → IsPolicy policy → All (IsValueNamed policy.names) inputs → All (IsArgument policy) arguments
    → All (IsValueNamed policy.names) (map (argument_of inputs) arguments)
arguments_named policy inputs arguments is all are =
    arguments-have (IsSingle policy) (IsValueNamed policy.names) inputs (λ place within. input_named policy.names inputs place all) (λ plain fixed. fixed_named policy plain is fixed) (items_named policy.names) arguments are

-- a task as it begins
task_named : (policy : PolicyParts) (script : List Procedure) (texts : List (List ℕ)) (first place : ℕ) (entry : TaskEntry) → IsPolicy policy → IsScriptNamed policy.names script → slice_get policy.tasks place ≡ Some entry
    → IsTaskNamed policy.names (task_of script (inputs_of policy texts) first entry)
unfolding task_of
task_named policy script texts first place entry is said e =
    let names : List (List ℕ) = policy.names in
    let inputs : List Value = inputs_of policy texts in
    record {
      environment = bind_all-each (IsValueNamed names) [] (parameters_of (procedure_of script entry.proc_name)) (map (argument_of inputs) entry.args) (All-nil _)
          (arguments_named policy inputs entry.args is (inputs_named names policy.longest policy.inputs texts is.labels.inputs)
          (All-slice_get (λ (t : TaskEntry). All (IsArgument policy) t.args) policy.tasks place entry is.arguments e));
      items = enter_named names (body_of (procedure_of script entry.proc_name)) [] (found_named names script (number_of script entry.proc_name) said) (All-nil _);
      label = All-slice_get (λ (t : TaskEntry). AreNamed names t.label) policy.tasks place entry is.labels.labels e;
      clearance = All-slice_get (λ (t : TaskEntry). AreNamed names t.clearance) policy.tasks place entry is.labels.clearances e;
    }

-- a node
node_named : (policy : PolicyParts) (script : List Procedure) (texts : List (List ℕ)) (n : ℕ) → IsPolicy policy → IsStateNamed policy.names (cell_at (start_of policy script texts) n).state
node_named policy script texts n is = by (stands policy script texts n)
  where
    by : Stands policy script texts (start_of policy script texts) n → IsStateNamed policy.names (cell_at (start_of policy script texts) n).state
    by (channel there) = subst (λ (cell : Cell). IsStateNamed policy.names cell.state) (sym there.cell)
        (All-slice_get (λ (f : FileEntry). AreNamed policy.names f.label) policy.channels n there.channel is.labels.channels there.is)
    by (job there) = subst (λ (cell : Cell). IsStateNamed policy.names cell.state) (sym there.cell)
        (All-slice_get (λ (t : TaskEntry). AreNamed policy.names t.clearance) policy.tasks there.place there.entry is.labels.clearances there.is, tt)
    by (nothing there) = subst (λ (cell : Cell). IsStateNamed policy.names cell.state) (sym there) tt

-- the procedures are those of the script
procedures_are : (policy : PolicyParts) (script : List Procedure) (texts : List (List ℕ)) → (start_of policy script texts).program.procedures ≡ script
unfolding start_of
procedures_are policy script texts = refl

pub start_names_only : StartNamesOnly
start_names_only policy script texts is over =
    let said : IsScriptNamed policy.names script = script_named policy.names script over in
    record {
      tasks = λ k task i. let b = begun policy script texts k task i in subst (IsTaskNamed policy.names) b.is (task_named policy script texts _ b.job.place b.job.entry is said b.job.is);
      nodes = λ n. node_named policy script texts n is;
      program = subst (IsScriptNamed policy.names) (sym (procedures_are policy script texts)) said;
      pure = start-pure policy script texts is;
    }

pub runs_are_printable : RunsArePrintable
runs_are_printable policy script texts ks ran is over runs = (run_names_only policy.names 0 (start_of policy script texts) ks ran (start_names_only policy script texts is over) runs).entries
