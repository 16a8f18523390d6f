-- What an observer sees of a first configuration goes by the sealed inputs with their contents hidden.
use Rattle.std.proofs.Common.{◌≡◌, ◌∙◌, refl, sym, ap, subst, ℕ, zero, suc, ◌+◌, Bool, true, false, IsTrue, List, [], ◌∷◌, ◌++◌, map, Some, None, arith}
use Rattle.std.specs.Prelude.{replicate, slice_index_or}
use Rattle.std.proofs.Math.ListN.{get_or-map}
use Rattle.std.proofs.lemmas.List.{map-append}
use Rattle.lio_labels.specs.declared.label.Label.{Label}
use Rattle.lio_labels.specs.Flow.{flows}
use Rattle.lio_values.specs.declared.value.Plain.TheVariants.{Unit as unit, Items}
use Rattle.lio_values.specs.declared.value.Value.{Value}
use Rattle.lio_values.specs.declared.value.Value.TheVariants.{Bare}
use Rattle.lio_values.specs.Views.{forest_of}
use Rattle.lio_values.specs.Forest.{Forest}
use Rattle.lio_values.proofs.ErasureLemmas.{value_erased_twice}
use Rattle.lio_values.proofs.ItemsLemmas.{erased-items}
use Rattle.lio_values.specs.Erasure.{erase_content, erase_value}
use Rattle.lio_syntax.specs.Statements.{Procedure}
use Rattle.lio_cells.specs.declared.state.State.TheVariants.{Job}
use Rattle.lio_syntax.specs.Environment.{bind_all}
use Rattle.lio_syntax.specs.Items.{enter}
use Rattle.lio_syntax.specs.Hiding.{hide_environment, hide_item}
use Rattle.lio_calculus.specs.Task.{TaskState}
use Rattle.lio_calculus.specs.Hiding.{hide_task}
use Rattle.lio_calculus.specs.Step.{Cell, blank, body_of, parameters_of}
use Rattle.lio_calculus.specs.Erased.{erase_cell}
use Rattle.lio_calculus.proofs.HidingLemmas.{bind_all-hidden}
use Rattle.lio_calculus.proofs.ConfigLemmas.{erase_cell-hidden}
use Rattle.lio_policy.specs.declared.policy.FileEntry.{FileEntry}
use Rattle.lio_policy.specs.declared.policy.TaskEntry.{TaskEntry}
use Rattle.lio_policy.specs.declared.policy.Arg.{Arg, map-Arg, roll-Arg}
use Rattle.lio_policy.specs.declared.policy.Arg.TheVariants as arg
use Rattle.lio_policy.specs.declared.policy.Arg.TheOpen.{Arg-F}
use Rattle.lio_policy.specs.declared.policy.Arg.TheFolds.{ind-Arg}
use Rattle.lio_start.specs.Fits.{procedure_of}
use Rattle.lio_start.specs.Laws.{AreAlike, StartsLookAlike}
use Rattle.lio_start.proofs.ArgumentLemmas.{argument-input, argument-fixed, argument-items}
use Rattle.lio_start.specs.Start.{sealed_input, sealed_inputs, inputs_of, argument_of, task_of, channel_cell, job_cell, job_cells, cells_in_all, ranges_from, start_of}

-- an input with its text, where the texts are the same or the label doesn't flow to the observer's
input-alike : (observer : Label) (longest : ℕ) (input : FileEntry) (one two : List ℕ) → (IsTrue (flows input.label observer) → one ≡ two)
    → erase_value observer (sealed_input longest input one) ≡ erase_value observer (sealed_input longest input two)
unfolding erase_content
input-alike observer longest input one two same = by (flows input.label observer) refl
  where
    by : (b : Bool) → flows input.label observer ≡ b → erase_value observer (sealed_input longest input one) ≡ erase_value observer (sealed_input longest input two)
    by true may = ap (λ (text : List ℕ). erase_value observer (sealed_input longest input text)) (same may)
    by false hidden = rw hidden refl

-- the texts at the first input, and those behind it
alike-first : (observer : Label) (input : FileEntry) (inputs : List FileEntry) (one two : List ℕ) (ones twos : List (List ℕ)) → AreAlike observer (input ∷ inputs) (one ∷ ones) (two ∷ twos)
    → IsTrue (flows input.label observer) → one ≡ two
alike-first observer input inputs one two ones twos alike may = let same : Some one ≡ Some two = alike.texts zero input refl may in cc

alike-rest : (observer : Label) (input : FileEntry) (inputs : List FileEntry) (one two : List ℕ) (ones twos : List (List ℕ)) → AreAlike observer (input ∷ inputs) (one ∷ ones) (two ∷ twos)
    → AreAlike observer inputs ones twos
alike-rest observer input inputs one two ones twos alike = record {
  count = omega (arith, alike.count);
  texts = λ i other is may. alike.texts (suc i) other is may;
}

-- the inputs with texts that look alike
inputs-alike : (observer : Label) (longest : ℕ) (inputs : List FileEntry) (ones twos : List (List ℕ)) → AreAlike observer inputs ones twos
    → map (erase_value observer) (sealed_inputs longest inputs ones) ≡ map (erase_value observer) (sealed_inputs longest inputs twos)
inputs-alike observer longest [] ones twos alike = refl
inputs-alike observer longest (input ∷ inputs) [] [] alike = refl
inputs-alike observer longest (input ∷ inputs) [] (two ∷ twos) alike = absurd (omega (arith, alike.count))
inputs-alike observer longest (input ∷ inputs) (one ∷ ones) [] alike = absurd (omega (arith, alike.count))
inputs-alike observer longest (input ∷ inputs) (one ∷ ones) (two ∷ twos) alike =
    let first : erase_value observer (sealed_input longest input one) ≡ erase_value observer (sealed_input longest input two) =
    input-alike observer longest input one two (alike-first observer input inputs one two ones twos alike) in
    λ i. first i ∷ inputs-alike observer longest inputs ones twos (alike-rest observer input inputs one two ones twos alike) i

-- arguments over hidden inputs look as they do over the inputs
module _ (observer : Label) (inputs : List Value) where
  abbrev hidden : List Value
  hidden = map (erase_value observer) inputs

  abbrev LooksAlike : Arg → Type 0
  LooksAlike argument = erase_value observer (argument_of hidden argument) ≡ erase_value observer (argument_of inputs argument)

  each-hidden : (es : List ((a : Arg) × LooksAlike a))
      → map (erase_value observer) (map (argument_of hidden) (map (λ e. e.0) es)) ≡ map (erase_value observer) (map (argument_of inputs) (map (λ e. e.0) es))
  each-hidden [] = refl
  each-hidden (e ∷ es) = λ i. e.1 i ∷ each-hidden es i

  hidden-by : (y : Arg-F ((a : Arg) × LooksAlike a)) → LooksAlike (roll-Arg (map-Arg ((a : Arg) × LooksAlike a) Arg (λ e. e.0) y))
  hidden-by (Arg-F.Input place) =
      subst LooksAlike (sym (arg.rolls-Input place))
      (ap (erase_value observer) (argument-input hidden place ∙ get_or-map (erase_value observer) inputs place (Bare unit))
      ∙ value_erased_twice observer (slice_index_or inputs place (Bare unit)) ∙ ap (erase_value observer) (sym (argument-input inputs place)))
  hidden-by (Arg-F.Fixed plain) =
      subst LooksAlike (sym (arg.rolls-Fixed plain)) (ap (erase_value observer) (argument-fixed hidden plain ∙ sym (argument-fixed inputs plain)))
  hidden-by (Arg-F.Items es) =
      let args = map (λ e. e.0) es in
      let ones = map (argument_of hidden) args in
      let twos = map (argument_of inputs) args in
      subst LooksAlike (sym (arg.rolls-Items args))
      (ap (erase_value observer) (argument-items hidden args)
      ∙ ap (λ (f : Forest). Bare (Items f)) (sym (erased-items observer ones))
      ∙ ap (λ (vs : List Value). Bare (Items (forest_of vs))) (each-hidden es)
      ∙ ap (λ (f : Forest). Bare (Items f)) (erased-items observer twos)
      ∙ ap (erase_value observer) (sym (argument-items inputs args)))

  argument-hidden : (argument : Arg) → LooksAlike argument
  argument-hidden = ind-Arg LooksAlike (λ x y is. subst (λ z. LooksAlike (roll-Arg z)) is (hidden-by y))

  arguments-hidden : (arguments : List Arg) → map (erase_value observer) (map (argument_of hidden) arguments) ≡ map (erase_value observer) (map (argument_of inputs) arguments)
  arguments-hidden [] = refl
  arguments-hidden (argument ∷ arguments) = λ i. argument-hidden argument i ∷ arguments-hidden arguments i

-- a task over hidden inputs is hidden as it is over the inputs
task-hidden : (observer : Label) (script : List Procedure) (inputs : List Value) (first : ℕ) (task : TaskEntry)
    → hide_task observer (task_of script (map (erase_value observer) inputs) first task) ≡ hide_task observer (task_of script inputs first task)
unfolding task_of
task-hidden observer script inputs first task =
    let parameters = parameters_of (procedure_of script task.proc_name) in
    let items = map (hide_item observer) (enter (body_of (procedure_of script task.proc_name)) []) in
    let ones = map (argument_of (map (erase_value observer) inputs)) task.args in
    let twos = map (argument_of inputs) task.args in
    let environment : hide_environment observer (bind_all [] parameters ones) ≡ hide_environment observer (bind_all [] parameters twos) =
    sym (bind_all-hidden observer [] parameters ones) ∙ ap (bind_all [] parameters) (arguments-hidden observer inputs task.args) ∙ bind_all-hidden observer [] parameters twos in
    λ i. record { environment = environment i; items = items; label = task.label; clearance = task.clearance; turns = task.turns; first = first; cells = task.cells; ended = false }

-- jobs over hidden inputs look as they do over the inputs
job-hidden : (observer : Label) (script : List Procedure) (inputs : List Value) (first : ℕ) (task : TaskEntry)
    → erase_cell observer (job_cell script (map (erase_value observer) inputs) first task) ≡ erase_cell observer (job_cell script inputs first task)
job-hidden observer script inputs first task =
    sym (erase_cell-hidden observer (job_cell script (map (erase_value observer) inputs) first task))
    ∙ ap (λ (t : TaskState). erase_cell observer (record { state = Job task.clearance None; task = Some t })) (task-hidden observer script inputs first task)
    ∙ erase_cell-hidden observer (job_cell script inputs first task)

jobs-hidden : (observer : Label) (script : List Procedure) (inputs : List Value) (first : ℕ) (tasks : List TaskEntry)
    → map (erase_cell observer) (job_cells script (map (erase_value observer) inputs) first tasks) ≡ map (erase_cell observer) (job_cells script inputs first tasks)
unfolding job_cells
jobs-hidden observer script inputs first [] = refl
jobs-hidden observer script inputs first (task ∷ tasks) = λ i. job-hidden observer script inputs first task i ∷ jobs-hidden observer script inputs (first + task.cells) tasks i

-- so jobs over inputs that look alike look alike
jobs-alike : (observer : Label) (script : List Procedure) (inputs others : List Value) (first : ℕ) (tasks : List TaskEntry) → map (erase_value observer) inputs ≡ map (erase_value observer) others
    → map (erase_cell observer) (job_cells script inputs first tasks) ≡ map (erase_cell observer) (job_cells script others first tasks)
jobs-alike observer script inputs others first tasks alike =
    sym (jobs-hidden observer script inputs first tasks)
    ∙ ap (λ (values : List Value). map (erase_cell observer) (job_cells script values first tasks)) alike
    ∙ jobs-hidden observer script others first tasks

-- cells in three parts, of which the middle ones look alike
middle-alike : (observer : Label) (xs ys ws zs : List Cell) → map (erase_cell observer) ys ≡ map (erase_cell observer) ws
    → map (erase_cell observer) (xs ++ (ys ++ zs)) ≡ map (erase_cell observer) (xs ++ (ws ++ zs))
middle-alike observer xs ys ws zs alike =
    parts ys ∙ ap (λ (cells : List Cell). map (erase_cell observer) xs ++ (cells ++ map (erase_cell observer) zs)) alike ∙ sym (parts ws)
  where
    parts : (cells : List Cell) → map (erase_cell observer) (xs ++ (cells ++ zs)) ≡ map (erase_cell observer) xs ++ (map (erase_cell observer) cells ++ map (erase_cell observer) zs)
    parts cells = map-append (erase_cell observer) xs (cells ++ zs) ∙ ap (λ (rest : List Cell). map (erase_cell observer) xs ++ rest) (map-append (erase_cell observer) cells zs)

pub starts_look_alike : StartsLookAlike
unfolding start_of
starts_look_alike observer policy script ones twos alike =
    let one : List Cell = job_cells script (inputs_of policy ones) (ranges_from policy) policy.tasks in
    let two : List Cell = job_cells script (inputs_of policy twos) (ranges_from policy) policy.tasks in
    let jobs : map (erase_cell observer) one ≡ map (erase_cell observer) two =
    jobs-alike observer script (inputs_of policy ones) (inputs_of policy twos) (ranges_from policy) policy.tasks (inputs-alike observer policy.longest policy.inputs ones twos alike) in
    let channels : List Cell = map channel_cell policy.channels in
    let free : List Cell = replicate (cells_in_all policy.tasks) blank in
    λ i. record { program = record { procedures = script; longest = policy.longest }; cells = middle-alike observer channels one two free jobs i }
