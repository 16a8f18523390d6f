-- The privileges in the first configuration of a policy are those that the policy gives its tasks.
use Rattle.std.proofs.Common.{◌≡◌, refl, sym, subst, ℕ, zero, suc, Bool, true, false, List, [], ◌∷◌, length, map, All, Some, arith}
use Rattle.std.specs.Prelude.{nat_le, slice_get, slice_index_or}
use Rattle.std.specs.List.{Contains, flat_map}
use Rattle.std.proofs.lemmas.List.Elements.{All-nil, All-head, All-tail, All-cons, Contains-append_left, Contains-append_right}
use Rattle.lio_labels.specs.declared.label.Label.{Label}
use Rattle.lio_labels.specs.declared.privilege.Priv.{Priv}
use Rattle.lio_values.specs.Views.{forest_of}
use Rattle.lio_values.specs.declared.value.Plain.{Plain}
use Rattle.lio_values.specs.declared.value.Plain.TheVariants.{Unit as unit, Power, Items}
use Rattle.lio_values.specs.declared.value.Value.{Value}
use Rattle.lio_values.specs.declared.value.Value.TheVariants.{Bare, Sealed}
use Rattle.lio_syntax.specs.Statements.{Procedure}
use Rattle.lio_syntax.specs.declared.binding.Binding.{Binding}
use Rattle.lio_calculus.specs.Step.{Cell, cell_at, body_of, parameters_of}
use Rattle.lio_calculus.specs.Sound.{EachInItem, EachInTask, EachInState}
use Rattle.lio_calculus.proofs.Lists.{All-slice_get}
use Rattle.lio_calculus.specs.Powers.{ItemsAreAmong, PlainIsAmong, ContentIsAmong, ValueIsAmong, PowersAreAmong}
use Rattle.lio_calculus.proofs.PlanEach.{bind_all-each}
use Rattle.lio_calculus.proofs.PlacesKept.{enter-all}
use Rattle.lio_policy.specs.Lists.{singles}
use Rattle.lio_policy.specs.Policy.{PolicyParts, IsSingle, IsArgument, IsPolicy}
use Rattle.lio_policy.specs.declared.policy.FileEntry.{FileEntry}
use Rattle.lio_policy.specs.declared.policy.TaskEntry.{TaskEntry}
use Rattle.lio_policy.specs.declared.policy.Arg.{Arg}
use Rattle.lio_policy.specs.declared.policy.Arg.TheVariants.{Fixed}
use Rattle.lio_start.specs.Fits.{procedure_of}
use Rattle.lio_start.specs.Start.{content_by, input_content, sealed_inputs, inputs_of, argument_of, task_of, start_of}
use Rattle.lio_start.proofs.PlaceLemmas.{Stands, Channel as channel, Task as job, Nothing as nothing, stands, begun}
use Rattle.lio_calculus_runs.proofs.PowerLaws.{run_releases_by_powers}
use Rattle.lio_start.specs.Laws.{ReleasesAreOfPolicy}
use Rattle.lio_start.proofs.ArgumentLemmas.{arguments-have}
use Rattle.lio_policy.specs.Powers.{power_of, power_in, task_powers, powers_of}
use Rattle.lio_start.proofs.LawLemmas.{start_is_sound}

-- what one element of a list gives is among what all of them give
flat_map-has : {X A : Type 0} (f : X → List A) (xs : List X) (i : ℕ) (x : X) (a : A) → slice_get xs i ≡ Some x → Contains (f x) a → Contains (flat_map f xs) a
flat_map-has f [] i x a e has = absurd (cc)
flat_map-has f (y ∷ xs) zero x a e has =
    let same : x ≡ y = cc in
    Contains-append_left (f y) (flat_map f xs) a (subst (λ z. Contains (f z) a) same has)
flat_map-has f (y ∷ xs) (suc i) x a e has = Contains-append_right (f y) (flat_map f xs) a (flat_map-has f xs i x a e has)

-- the texts of inputs are no privileges
input-among : (powers : List Priv) (longest : ℕ) (label : Label) (text : List ℕ) → ValueIsAmong powers (Sealed label (input_content longest label text))
input-among powers longest label text = by (nat_le (length text) longest)
  where
    by : (b : Bool) → ContentIsAmong powers (content_by b label text)
    by true = tt
    by false = tt

inputs-among : (powers : List Priv) (longest : ℕ) (inputs : List FileEntry) (texts : List (List ℕ)) → All (ValueIsAmong powers) (sealed_inputs longest inputs texts)
inputs-among powers longest [] texts = All-nil (ValueIsAmong powers)
inputs-among powers longest (input ∷ inputs) [] = All-nil (ValueIsAmong powers)
inputs-among powers longest (input ∷ inputs) (text ∷ texts) =
    All-cons (ValueIsAmong powers) (Sealed input.label (input_content longest input.label text)) (sealed_inputs longest inputs texts) (input-among powers longest input.label text) (inputs-among powers longest inputs texts)

placed-among : (powers : List Priv) (inputs : List Value) (place : ℕ) → All (ValueIsAmong powers) inputs → ValueIsAmong powers (slice_index_or inputs place (Bare unit))
placed-among powers [] place all = tt
placed-among powers (value ∷ inputs) zero all = All-head (ValueIsAmong powers) value inputs all
placed-among powers (value ∷ inputs) (suc place) all = placed-among powers inputs place (All-tail (ValueIsAmong powers) value inputs all)

-- each privilege that stands in an argument is one of these
abbrev Given : PolicyParts → List Priv → Arg → Type 0
Given policy powers single = IsSingle policy single × ((power : Priv) → Contains (power_of single) power → Contains powers power)

-- a value of the policy, if it is a privilege, is one that the argument is
plain-among : (policy : PolicyParts) (powers : List Priv) (plain : Plain) → Given policy powers (Fixed plain) → PlainIsAmong powers plain
plain-among policy powers (Power power) given = given.1 power (0, omega arith, refl)
plain-among policy powers (Items items) given = absurd given.0
plain-among policy powers plain given = tt

items-among : (powers : List Priv) (values : List Value) → All (ValueIsAmong powers) values → ItemsAreAmong powers (forest_of values)
items-among powers [] all = tt
items-among powers (value ∷ values) all = (All-head (ValueIsAmong powers) value values all, items-among powers values (All-tail (ValueIsAmong powers) value values all))

singles-given : (policy : PolicyParts) (powers : List Priv) (args : List Arg) → All (IsSingle policy) args → ((power : Priv) → Contains (flat_map power_of args) power → Contains powers power) → All (Given policy powers) args
singles-given policy powers [] are within = All-nil (Given policy powers)
singles-given policy powers (a ∷ args) are within =
    All-cons (Given policy powers) a args (All-head (IsSingle policy) a args are, λ power has. within power (Contains-append_left (power_of a) (flat_map power_of args) power has))
    (singles-given policy powers args (All-tail (IsSingle policy) a args are) (λ power has. within power (Contains-append_right (power_of a) (flat_map power_of args) power has)))

all-given : (policy : PolicyParts) (powers : List Priv) (arguments : List Arg) → All (IsArgument policy) arguments → ((power : Priv) → Contains (flat_map power_in arguments) power → Contains powers power)
    → All (λ a. All (Given policy powers) (singles a)) arguments
all-given policy powers [] are within = All-nil (λ a. All (Given policy powers) (singles a))
all-given policy powers (a ∷ arguments) are within =
    All-cons (λ a. All (Given policy powers) (singles a)) a arguments
    (singles-given policy powers (singles a) (All-head (IsArgument policy) a arguments are) (λ power has. within power (Contains-append_left (power_in a) (flat_map power_in arguments) power has)))
    (all-given policy powers arguments (All-tail (IsArgument policy) a arguments are) (λ power has. within power (Contains-append_right (power_in a) (flat_map power_in arguments) power has)))

arguments-among : (policy : PolicyParts) (powers : List Priv) (inputs : List Value) → All (ValueIsAmong powers) inputs → (arguments : List Arg) → All (IsArgument policy) arguments
    → ((power : Priv) → Contains (flat_map power_in arguments) power → Contains powers power) → All (ValueIsAmong powers) (map (argument_of inputs) arguments)
arguments-among policy powers inputs all arguments are within =
    arguments-have (Given policy powers) (ValueIsAmong powers) inputs (λ place given. placed-among powers inputs place all) (plain-among policy powers) (items-among powers) arguments
    (all-given policy powers arguments are within)

-- a task as it begins
task-among : (policy : PolicyParts) (script : List Procedure) (texts : List (List ℕ)) (first place : ℕ) (entry : TaskEntry) → IsPolicy policy → slice_get policy.tasks place ≡ Some entry
    → EachInTask (ValueIsAmong (powers_of policy)) (task_of script (inputs_of policy texts) first entry)
unfolding task_of
task-among policy script texts first place entry is e =
    let P : Value → Type 0 = ValueIsAmong (powers_of policy) in
    let procedure = procedure_of script entry.proc_name in
    record {
      environment = bind_all-each P [] (parameters_of procedure) (map (argument_of (inputs_of policy texts)) entry.args) (All-nil (λ (b : Binding). P b.value))
          (arguments-among policy (powers_of policy) (inputs_of policy texts) (inputs-among (powers_of policy) policy.longest policy.inputs texts) entry.args
          (All-slice_get (λ (t : TaskEntry). All (IsArgument policy) t.args) policy.tasks place entry is.arguments e)
          (λ power has. flat_map-has task_powers policy.tasks place entry power e has));
      items = enter-all (EachInItem P) (λ s. tt) (body_of procedure) [] (All-nil (EachInItem P));
    }

-- no node holds a privilege
node-among : (powers : List Priv) (policy : PolicyParts) (script : List Procedure) (texts : List (List ℕ)) (n : ℕ) → EachInState (ValueIsAmong powers) (cell_at (start_of policy script texts) n).state
node-among powers policy script texts n = by (stands policy script texts n)
  where
    P : Value → Type 0
    P = ValueIsAmong powers

    by : Stands policy script texts (start_of policy script texts) n → EachInState P (cell_at (start_of policy script texts) n).state
    by (channel is) = subst (λ (cell : Cell). EachInState P cell.state) (sym is.cell) tt
    by (job is) = subst (λ (cell : Cell). EachInState P cell.state) (sym is.cell) tt
    by (nothing is) = subst (λ (cell : Cell). EachInState P cell.state) (sym is) tt

pub start-among : (policy : PolicyParts) (script : List Procedure) (texts : List (List ℕ)) → IsPolicy policy → PowersAreAmong (powers_of policy) (start_of policy script texts)
start-among policy script texts is = record {
  tasks = λ k task i. let b = begun policy script texts k task i in
      subst (EachInTask (ValueIsAmong (powers_of policy))) b.is (task-among policy script texts _ b.job.place b.job.entry is b.job.is);
  nodes = node-among (powers_of policy) policy script texts;
}

-- so each release is by one of them
pub releases_are_of_policy : ReleasesAreOfPolicy
releases_are_of_policy policy script texts ticket ks ran is said runs =
    run_releases_by_powers (powers_of policy) ticket _ ks ran (start_is_sound policy script texts is said) (start-among policy script texts is) runs
